-- The differences fit: half a step is less than half the numbers.
use mathlib.Core.Path.{◌≡◌, ◌∙◌}
use Prim.Native.Nat.{ℕ, ◌+◌, ◌-◌, ◌^◌, ◌≤◌, ◌<◌}
use native.Mathlib.Omega.{arith}
use lib.IntN.{ℤ, pos, ◌-ℤ◌}
use lib.Pow.{pow_pos, pow_mono}
use mir.Syntax.{w32, w64}
use mir.Val.{SFits}
use mir.Facts.{to_z-of_z}
use Rattle.formats.proofs.Machine.{Long, Int, back}
use Rattle.sample_rules.proofs.Places.{doubles, sub_le, pos_minus}
use Rattle.samples.proofs.numbers.last.Goals as goal

module _ (w k : ℕ) (pre : (1 ≤ k) × (k < w) × (w ≤ 32)) (p : ℤ) (ep : p ≡ pos (2 ^ (w - 1))) (q : ℤ) (eq : q ≡ pos (2 ^ (k - 1))) where
  few : 2 ^ (w - 1) ≤ 2 ^ 31
  few = pow_mono {i = w - 1} {j = 31} (omega arith)

  room : 2 ^ (k - 1) + 2 ^ (k - 1) ≤ 2 ^ (w - 1)
  room = rw (← doubles k pre.0) (pow_mono {i = k} {j = w - 1} (omega arith))

  first : Long p -ℤ Long q ≡ pos (2 ^ (w - 1) - 2 ^ (k - 1))
  first =
      rw (ep, eq, back (pos (2 ^ (w - 1))) (omega (arith, few)), back (pos (2 ^ (k - 1))) (omega (arith, few, room)))
      (pos_minus (2 ^ (w - 1)) (2 ^ (k - 1)) ∙ sub_le (2 ^ (w - 1)) (2 ^ (k - 1)) (omega (arith, room)))

  second : Long (Long p -ℤ Long q) -ℤ pos 1 ≡ pos (2 ^ (w - 1) - 2 ^ (k - 1) - 1)
  second =
      rw (first, back (pos (2 ^ (w - 1) - 2 ^ (k - 1))) (omega (arith, few)))
      (pos_minus (2 ^ (w - 1) - 2 ^ (k - 1)) 1 ∙ sub_le (2 ^ (w - 1) - 2 ^ (k - 1)) 1 (omega (arith, room, pow_pos (k - 1))))

  fits_second : SFits w64 (Long (Long p -ℤ Long q) -ℤ pos 1)
  fits_second = rw second (record { sfits = omega (arith, few) })

  total : Long (Long (Long p -ℤ Long q) -ℤ pos 1) ≡ pos (2 ^ (w - 1) - 2 ^ (k - 1) - 1)
  total = to_z-of_z fits_second ∙ second

  fits_int : SFits w32 (Long (Long (Long p -ℤ Long q) -ℤ pos 1))
  fits_int = rw total (record { sfits = omega (arith, few, pow_pos (w - 1)) })

  is_last : Int (Long (Long (Long p -ℤ Long q) -ℤ pos 1)) ≡ pos (2 ^ (w - 1) - 2 ^ (k - 1) - 1)
  is_last = to_z-of_z fits_int ∙ total

pub returns : goal.returns
returns c = is_last _ _ c.requires _ c.power.ensures _ c.power-2.ensures
