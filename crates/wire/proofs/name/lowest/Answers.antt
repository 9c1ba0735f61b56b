-- A shift makes the power of two; eight bytes are the whole of a word.
use mathlib.Core.Path.{◌≡◌, refl, sym}
use Prim.Native.Nat.{ℕ, zero, suc, ◌*◌, ◌^◌, ◌≤◌}
use native.Mathlib.Nat.{mod-eq_of_lt, one-mul, mul-suc, pow-suc, pow-le-pow_right}
use native.Mathlib.Omega.{arith}
use lib.Pow.{pow-add}
use Rattle.wire.proofs.name.lowest.Goals as goal

-- a byte is eight bits
bytes : (k : ℕ) → 2 ^ (8 * k) ≡ 256 ^ k
bytes zero = refl
bytes (suc k) = rw (mul-suc 8 k, pow-add 2 (8 * k) 8, bytes k, pow-suc 256 k)

pub returns-then-k-lt8 : goal.returns-then-k-lt8
returns-then-k-lt8 c =
    let k = c.args.k in
    let l : 2 ^ (8 * k) ≤ 2 ^ 56 = pow-le-pow_right {n = 2} (omega arith) {i = 8 * k} {j = 56} (omega arith) in
    rw (one-mul (2 ^ (8 * k)), mod-eq_of_lt {n = 2 ^ (8 * k)} {m = 2 ^ 64} (omega arith), bytes k)

pub returns : goal.returns
returns c =
    let l : 256 ^ 8 ≤ 256 ^ c.args.k = pow-le-pow_right {n = 256} (omega arith) {i = 8} {j = c.args.k} (omega arith) in
    sym (mod-eq_of_lt (omega arith))
