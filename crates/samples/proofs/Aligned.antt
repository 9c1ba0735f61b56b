-- A slot moved to the top of 32 bits is rounded as it was: numbers and steps grow by the same factor.
use mathlib.Core.Path.{◌≡◌, sym, ap, ◌∙◌}
use Prim.Native.Nat.{ℕ, ◌+◌, ◌-◌, ◌*◌, ◌/◌, ◌%◌, ◌^◌, ◌<◌}
use native.Mathlib.Nat.{mul-le-mul_right, suc-mul, add-mul, mul_assoc, mul_comm, div-add-mod', mod-lt}
use native.Mathlib.Omega.{arith}
use native.Mathlib.Decide.{dec_lt}
use lib.Arith.{digits_div, digits_mod}
use lib.Pow.{pow_pos, pow-add}
use borrow.Author.Tests.{lt-ltb, le-ltb, lt-leb}
use Rattle.lists.proofs.Tables.{less_alike}
use Rattle.sample_rules.specs.Convert.{rank, rounded_of, narrowed, rescaled}
use Rattle.sample_rules.specs.Bits.{signed_of}
use Rattle.sample_rules.proofs.Places.{sub_lt}

module _ (a : ℕ) (l : 0 < a) where
  less_times : (x y : ℕ) → x < y → x * a < y * a
  less_times x y h = omega (arith, mul-le-mul_right a h, suc-mul x a)

  twice : (t : ℕ) → t * 2 * a ≡ t * a * 2
  twice t = mul_assoc t 2 a ∙ ap (λ (x : ℕ). t * x) (mul_comm 2 a) ∙ sym (mul_assoc t a 2)

  rounded_times : (q t P : ℕ) → rounded_of q (t * a) (P * a) ≡ rounded_of q t P
  rounded_times q t P =
      rw (
        less_alike (t * a * 2) (P * a) (t * 2) P (λ h. omega (arith, twice t, less_times (t * 2) P h)) (λ h. omega (arith, twice t, mul-le-mul_right a h)),
        less_alike (P * a) (t * a * 2) P (t * 2) (λ h. omega (arith, twice t, less_times P (t * 2) h)) (λ h. omega (arith, twice t, mul-le-mul_right a h)),
      )

  module _ (u P : ℕ) (p : 0 < P) where
    parts : u * a ≡ u / P * (P * a) + u % P * a
    parts = ap (λ (x : ℕ). x * a) (sym (div-add-mod' u P)) ∙ add-mul (u / P * P) (u % P) a ∙ ap (λ (x : ℕ). x + u % P * a) (mul_assoc (u / P) P a)

    rest : u % P * a < P * a
    rest = less_times (u % P) P (mod-lt u p)

    quotient : u * a / (P * a) ≡ u / P
    quotient = ap (λ (x : ℕ). x / (P * a)) parts ∙ digits_div (u / P) rest

    remainder : u * a % (P * a) ≡ u % P * a
    remainder = ap (λ (x : ℕ). x % (P * a)) parts ∙ digits_mod (u / P) rest

narrowed_times : (k j v u : ℕ) → narrowed (k + j) v (u * 2 ^ j) ≡ narrowed k v u
unfolding narrowed
narrowed_times k j v u =
    rw (pow-add 2 k j, quotient (2 ^ j) (pow_pos j) u (2 ^ k) (pow_pos k), remainder (2 ^ j) (pow_pos j) u (2 ^ k) (pow_pos k), rounded_times (2 ^ j) (pow_pos j) (u / 2 ^ k) (u % 2 ^ k) (2 ^ k))

place_times : (s : ℕ) → s < 2 ^ 24 → rank (2 ^ 31) (signed_of 32 (s * 256)) ≡ rank (2 ^ 23) (signed_of 24 s) * 256
unfolding signed_of
place_times s h = elim (dec_lt s (2 ^ 23)) [
  | yes l ↦ rw (lt-ltb s (2 ^ 23) l, lt-ltb (s * 256) (2 ^ 31) (omega arith)) (omega arith)
  | no l ↦
      rw (le-ltb s (2 ^ 23) (omega arith), le-ltb (s * 256) (2 ^ 31) (omega arith), sub_lt s (2 ^ 24) h, sub_lt (s * 256) (2 ^ 32) (omega arith))
      (omega arith)
]

pub aligned : (s v : ℕ) → s < 2 ^ 24 → v < 24 → rescaled 32 v (rank (2 ^ 31) (signed_of 32 (s * 256))) ≡ rescaled 24 v (rank (2 ^ 23) (signed_of 24 s))
unfolding rescaled
aligned s v h l =
    let e : 32 - v ≡ (24 - v) + 8 = omega arith in
    rw (lt-leb 32 v (omega arith), lt-leb 24 v l, place_times s h, e) (narrowed_times (24 - v) 8 v (rank (2 ^ 23) (signed_of 24 s)))
