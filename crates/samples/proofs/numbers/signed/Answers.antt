-- The difference fits; that it is the number is `signed_place`.
use mathlib.Core.Path.{◌≡◌}
use Prim.Native.Nat.{ℕ, ◌+◌, ◌-◌, ◌*◌, ◌%◌, ◌^◌, ◌≤◌, ◌<◌}
use native.Mathlib.Nat.{mod-lt}
use native.Mathlib.Omega.{arith}
use lib.IntN.{ℤ, pos, nat_abs, sub_ℕ, ◌-ℤ◌}
use lib.Pow.{pow_pos, pow_mono}
use mir.Syntax.{w32, w64}
use mir.Val.{SFits, to_z}
use mir.Facts.{to_z-of_z, to_z_pos}
use Rattle.sample_rules.specs.Bits.{signed_of}
use Rattle.formats.proofs.Machine.{Long, Int, back, wider}
use Rattle.sample_rules.proofs.Places.{sub_mag, pos_minus}
use Rattle.sample_rules.proofs.Bits.{signed_place}
use Rattle.samples.proofs.numbers.signed.Goals as goal

module _ (u w : ℕ) (h : (1 ≤ w) × (w ≤ 32) × (u < 2 ^ w)) (p : ℤ) (e : p ≡ pos (2 ^ (w - 1))) where
  abbrev H : ℕ
  H = 2 ^ (w - 1)

  few : H ≤ 2 ^ 31
  few = pow_mono {i = w - 1} {j = 31} (omega arith)

  some : 0 < H
  some = pow_pos (w - 1)

  half : Long p ≡ pos H
  half = rw (e, back (pos H) (omega (arith, few)))

  abbrev x : ℕ
  x = (u + H) % (H * 2)

  x_lt : x < H + H
  x_lt = let l : x < H * 2 = mod-lt (u + H) (omega (arith, some)) in omega arith

  rest : (u + nat_abs (Long p)) % (nat_abs (Long p) * 2) ≡ x
  rest = rw half

  less : to_z w64 ((u + nat_abs (Long p)) % (nat_abs (Long p) * 2)) -ℤ Long p ≡ sub_ℕ x H
  less = rw (rest, to_z_pos w64 {n = x} (omega (arith, x_lt, few)), half) (pos_minus x H)

  fits_int : SFits w32 (sub_ℕ x H)
  fits_int = record { sfits = sub_mag x H (2 ^ 31) (omega (arith, x_lt, few)) few }

  is_signed : Int (Long (to_z w64 ((u + nat_abs (Long p)) % (nat_abs (Long p) * 2)) -ℤ Long p)) ≡ signed_of w u
  is_signed = rw (less, to_z-of_z (wider fits_int), to_z-of_z fits_int) (signed_place w h.0 u h.2)

pub returns : goal.returns
returns c = rw c.from.ensures (is_signed _ _ c.requires _ c.power-half.ensures)
