-- A number rescaled as the hot forms do it: the code's calls, on plain values.
use mathlib.Core.Path.{◌≡◌, ◌∙◌}
use Prim.Native.Nat.{ℕ, ◌-◌, ◌^◌, ◌≤◌, ◌<◌}
use native.Mathlib.Omega.{arith}
use lib.IntN.{ℤ, sub_ℕ}
use lib.Signed.{mag}
use mir.Syntax.{w32}
use mir.Facts.{to_z-of_z}
use Rattle.sample_rules.specs.Convert.{rank, rescaled}
use Rattle.sample_rules.specs.Bits.{bits_of}
use Rattle.formats.proofs.Machine.{Int}
use Rattle.sample_rules.proofs.Bits.{bits_lt, rescaled_mag}

int : (z : ℤ) → mag z < 2 ^ 31 → Int z ≡ z
int z h = to_z-of_z {w = w32} (record { sfits = h })

-- z of w bits to v bits
module _ (w v : ℕ) (z : ℤ) (hw : (2 ≤ w) × (w ≤ 32)) (hv : (2 ≤ v) × (v ≤ 32)) (hz : mag z < 2 ^ (w - 1)) where
  abbrev to : ℤ
  to = sub_ℕ (rescaled w v (rank (2 ^ (w - 1)) z)) (2 ^ (v - 1))

  module _ (c : ℤ) (mc : mag c < 2 ^ 31) (ec : c ≡ z) where
    pub room : (2 ≤ w) × (w ≤ 32) × (2 ≤ v) × (v ≤ 32) × (mag (Int c) < 2 ^ (w - 1))
    room = (hw.0, hw.1, hv.0, hv.1, rw (int c mc, ec) hz)

    module _ (r : ℤ) (mr : mag r < 2 ^ 31) (er : r ≡ sub_ℕ (rescaled w v (rank (2 ^ (w - 1)) (Int c))) (2 ^ (v - 1))) where
      pub there : Int r ≡ to
      there = int r mr ∙ er ∙ rw (int c mc, ec)

      pub small : mag (Int r) < 2 ^ (v - 1)
      small = rw there (rescaled_mag w v (omega arith) (omega arith) z hz)

      pub room_bits : (1 ≤ v) × (v ≤ 32) × (mag (Int r) < 2 ^ (v - 1))
      room_bits = (omega arith, hv.1, small)

      pub bits_there : (b : ℕ) → b ≡ bits_of v (Int r) → (b ≡ bits_of v to) × (b < 2 ^ v)
      bits_there b e = (e ∙ rw there, rw e (bits_lt v (omega arith) (Int r)))
