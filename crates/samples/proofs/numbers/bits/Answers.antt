-- The number and 2 to the w is its place among those from there on, which is not negative.
use mathlib.Core.Path.{◌≡◌}
use Prim.Native.Nat.{ℕ, ◌-◌, ◌%◌, ◌^◌, ◌≤◌, ◌<◌}
use native.Mathlib.Omega.{arith}
use lib.Dec.{T}
use lib.IntN.{ℤ, pos, nat_abs, ◌+ℤ◌}
use lib.Pow.{pow_mono}
use lib.Signed.{mag, non_neg}
use mir.Syntax.{w32, w64}
use mir.Val.{Fits, SFits}
use mir.Facts.{to_z-of_z}
use Rattle.sample_rules.specs.Convert.{rank}
use Rattle.sample_rules.specs.Bits.{bits_of}
use Rattle.formats.proofs.Machine.{Long, Int, back, wider}
use Rattle.sample_rules.proofs.Places.{placed, rank_lt}
use Rattle.sample_rules.proofs.Bits.{bits_lt}
use Rattle.samples.proofs.numbers.bits.Goals as goal

module _ (n p : ℤ) (w : ℕ) (s : SFits w32 n) (h : (1 ≤ w) × (w ≤ 32) × (mag n < 2 ^ (w - 1))) (e : p ≡ pos (2 ^ w)) where
  w_le : 2 ^ w ≤ 2 ^ 32
  w_le = pow_mono {i = w} {j = 32} h.1

  inside : mag n < 2 ^ w
  inside = omega (arith, h.2, pow_mono {i = w - 1} {j = w} (omega arith))

  power : Long p ≡ pos (2 ^ w)
  power = rw (e, back (pos (2 ^ w)) (omega (arith, w_le)))

  sum : Long (Int n) +ℤ Long p ≡ pos (rank (2 ^ w) n)
  sum = rw (to_z-of_z s, to_z-of_z (wider s), power) (placed (2 ^ w) n inside)

  fits_sum : SFits w64 (Long (Int n) +ℤ Long p)
  fits_sum = rw sum (record { sfits = omega (arith, rank_lt (2 ^ w) n inside, w_le) })

  total : Long (Long (Int n) +ℤ Long p) ≡ pos (rank (2 ^ w) n)
  total = rw sum (back (pos (rank (2 ^ w) n)) (omega (arith, rank_lt (2 ^ w) n inside, w_le)))

  whole_sum : T (non_neg (Long (Long (Int n) +ℤ Long p))) × Fits w64 (nat_abs (Long (Long (Int n) +ℤ Long p)))
  whole_sum = rw total (tt, record { fits = omega (arith, rank_lt (2 ^ w) n inside, w_le) })

  rest : nat_abs (Long (Long (Int n) +ℤ Long p)) % nat_abs (Long p) ≡ bits_of w n
  unfolding bits_of
  rest = rw (total, power)

  rest_fits : Fits w32 (nat_abs (Long (Long (Int n) +ℤ Long p)) % nat_abs (Long p))
  rest_fits = rw rest (record { fits = omega (arith, bits_lt w h.0 n, w_le) })

pub overflow_add-m : goal.overflow_add-m
overflow_add-m c = rw c.from.ensures (fits_sum _ _ _ c.ranges.n c.requires c.power-all.ensures)

pub overflow_cast-result : goal.overflow_cast-result
overflow_cast-result c = rw c.from.ensures (whole_sum _ _ _ c.ranges.n c.requires c.power-all.ensures)

pub overflow_cast-result-3 : goal.overflow_cast-result-3
overflow_cast-result-3 c = rw c.from.ensures (rest_fits _ _ _ c.ranges.n c.requires c.power-all.ensures)

pub returns : goal.returns
returns c = rw c.from.ensures (rest _ _ _ c.ranges.n c.requires c.power-all.ensures)
