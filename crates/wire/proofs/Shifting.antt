-- Fields joined by shifts and `|`: one law over the shift.
use mathlib.Core.Path.{◌≡◌}
use Prim.Native.Nat.{ℕ, ◌+◌, ◌*◌, ◌%◌, ◌^◌, ◌<◌}
use native.Mathlib.Nat.{mod-eq_of_lt, add_comm}
use lib.Bits.{bit_or, or_shifted_r}

-- b in the low k bits, a above it, in a word of fewer than m values
pub joined : (m k a b : ℕ) → b < 2 ^ k → a * 2 ^ k < m → bit_or b (a * 2 ^ k % m) ≡ b + a * 2 ^ k
joined m k a b low fits = rw (mod-eq_of_lt fits, or_shifted_r a k b low) (add_comm _ _)
