-- Bytes of a word, each with its top bit flipped at once.
use mathlib.Core.Path.{◌≡◌, ap, ◌∙◌}
use Prim.Native.Nat.{ℕ, ◌+◌, ◌*◌, ◌/◌, ◌%◌, ◌^◌, ◌<◌}
use native.Mathlib.Nat.{mod-lt}
use native.Mathlib.Omega.{arith}
use native.Mathlib.Decide.{dec_lt}
use lib.Bits.{bit_xor, xor_zero_r, xor_self, xor_block, xor_shr, xor_mod}
use lib.Dec.{lit<}

-- a byte with its top bit flipped is 128 away
flipped : (b : ℕ) → b < 256 → bit_xor b 128 ≡ (b + 128) % 256
flipped b l =
    let e : b ≡ b / 128 * 2 ^ 7 + b % 128 = omega arith in
    ap (λ (x : ℕ). bit_xor x 128) e ∙ xor_block 7 (b / 128) 1 (b % 128) 0 (omega arith) (lit< tt)
    ∙ elim (dec_lt b 128) [
      | yes g ↦ (let z : b / 128 ≡ 0 = omega arith in rw (z, xor_zero_r (b % 128)) (omega arith))
      | no g ↦ (let z : b / 128 ≡ 1 = omega arith in rw (z, xor_self 1, xor_zero_r (b % 128)) (omega arith))
    ]

-- and so is each byte of a word, where tops has the top bit of each
pub flipped_byte : (tops v k : ℕ) → tops / 2 ^ k % 256 ≡ 128 → bit_xor v tops / 2 ^ k % 256 ≡ (v / 2 ^ k % 256 + 128) % 256
flipped_byte tops v k t =
    let l : v / 2 ^ k % 256 < 256 = mod-lt (v / 2 ^ k) (lit< tt) in
    ap (λ (x : ℕ). x % 256) (xor_shr v tops k) ∙ xor_mod (v / 2 ^ k) (tops / 2 ^ k) 8 ∙ rw t (flipped (v / 2 ^ k % 256) l)
