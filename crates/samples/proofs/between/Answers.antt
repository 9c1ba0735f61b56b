-- The number from the middle is rescaled, and the other type's middle added.
use mathlib.Core.Path.{◌≡◌, sym, ap, ◌∙◌}
use mathlib.Core.Bool.{true}
use Prim.Native.Nat.{ℕ, ◌-◌, ◌^◌, ◌≤◌, ◌<◌}
use native.Mathlib.Omega.{arith}
use lib.IntN.{ℤ, pos, sub_ℕ, ◌+ℤ◌, ◌-ℤ◌}
use lib.Pow.{pow_mono}
use lib.Signed.{mag}
use mir.Syntax.{w32, w64}
use mir.Val.{SFits}
use mir.Facts.{to_z-of_z}
use Rattle.formats.specs.declared.Integer.{Integer}
use Rattle.formats.specs.Formats.{width_of, middle_of, has}
use Rattle.sample_rules.specs.Convert.{bias_of, rank, rank_of, rescaled, converted}
use Rattle.formats.proofs.Machine.{Long, Int, back, wider}
use Rattle.sample_rules.proofs.Places.{doubles, rank_sub, sub_mag}
use Rattle.sample_rules.proofs.Formats.{width_le, width_ge, middle_is, rank_below, rank_back, centred, uncentred}
use Rattle.sample_rules.proofs.Rescaled.{rescaled_lt}
use Rattle.samples.proofs.between.Goals as goal

abbrev half : Integer → ℕ
half f = 2 ^ (width_of f - 1)

half_le : (f : Integer) → half f ≤ 2 ^ 31
half_le f = pow_mono {i = width_of f - 1} {j = 31} (omega (arith, width_le f))

middle_le : (f : Integer) → middle_of f ≤ 2 ^ 31
middle_le f = omega (arith, middle_is f, half_le f)

-- a place of the type, from the middle
place_mag : (f : Integer) (u : ℕ) → u < 2 ^ width_of f → mag (sub_ℕ u (half f)) < half f
place_mag f u h = let g : 1 ≤ width_of f = omega (arith, width_ge f) in sub_mag u (half f) (half f) (omega (arith, doubles (width_of f) g)) (omega arith)

place_fits : (f : Integer) (u : ℕ) → u < 2 ^ width_of f → SFits w32 (sub_ℕ u (half f))
place_fits f u h = record { sfits = omega (arith, place_mag f u h, half_le f) }

module _ (f : Integer) (n : ℤ) (m : ℕ) (s : SFits w64 n) (h : has f n ≡ true) (e : m ≡ middle_of f) where
  abbrev u : ℕ
  u = rank_of f n

  less : Long n -ℤ Long (pos m) ≡ sub_ℕ u (half f)
  less =
      rw (to_z-of_z s, e, back (pos (middle_of f)) (omega (arith, middle_le f)))
      (ap (λ (z : ℤ). z -ℤ pos (middle_of f)) (sym (rank_back f n h)) ∙ centred f u)

  start : Int (Long (Long n -ℤ Long (pos m))) ≡ sub_ℕ u (half f)
  start = let p = place_fits f u (rank_below f n h) in rw (less, to_z-of_z (wider p), to_z-of_z p)

  module _ (t : Integer) (w v : ℕ) (ew : w ≡ width_of f) (ev : v ≡ width_of t) where
    room : (2 ≤ w) × (w ≤ 32) × (2 ≤ v) × (v ≤ 32) × (mag (Int (Long (Long n -ℤ Long (pos m)))) < 2 ^ (w - 1))
    room = (
      omega (arith, width_ge f),
      omega (arith, width_le f),
      omega (arith, width_ge t),
      omega (arith, width_le t),
      rw (start, ew) (place_mag f u (rank_below f n h)),
    )

    module _ (r : ℤ) (k : ℕ) (fr : mag r < 2 ^ 31) (ek : k ≡ middle_of t)
        (er : r ≡ sub_ℕ (rescaled w v (rank (2 ^ (w - 1)) (Int (Long (Long n -ℤ Long (pos m)))))) (2 ^ (v - 1))) where
      sf : SFits w32 r
      sf = record { sfits = fr }

      is_there : Long (Int r) +ℤ Long (pos k) ≡ converted f t n
      unfolding converted
      is_there =
          rw (to_z-of_z sf, to_z-of_z (wider sf), ek, back (pos (middle_of t)) (omega (arith, middle_le t)), er, start, ew, ev, rank_sub (half f) u)
          (uncentred t (rescaled (width_of f) (width_of t) u))

      fits_there : SFits w64 (converted f t n)
      unfolding converted
      fits_there =
          let y = rescaled (width_of f) (width_of t) u in
          let l : y < 2 ^ width_of t = rescaled_lt (width_of f) (width_of t) u (rank_below f n h) in
          record { sfits = sub_mag y (bias_of t) (2 ^ 63) (omega (arith, pow_mono (width_le t))) (omega (arith, middle_is t, half_le t)) }

      result : Long (Long (Int r) +ℤ Long (pos k)) ≡ converted f t n
      result = rw is_there (to_z-of_z fits_there)

pub rescale-x-requires : goal.rescale-x-requires
rescale-x-requires c =
    rw c.from.ensures (room c.args.f _ _ c.ranges.n c.requires c.middle.ensures c.args.t _ _ c.width.ensures c.width-2.ensures)

pub returns : goal.returns
returns c =
    let e = rw c.from.ensures at c.rescale-x.ensures in
    rw (c.from-2.ensures, c.from-3.ensures)
    (result c.args.f _ _ c.ranges.n c.requires c.middle.ensures c.args.t _ _ c.width.ensures c.width-2.ensures
    _ _ c.rescale-x.type_inv c.middle-2.ensures e)
