-- The machine's signed numbers are the numbers, where they fit.
use mathlib.Core.Path.{◌≡◌}
use Prim.Native.Nat.{◌^◌, ◌<◌}
use lib.IntN.{ℤ}
use lib.Signed.{mag}
use mir.Syntax.{w32, w64}
use mir.Val.{SFits, to_z, of_z}
use mir.Facts.{to_z-of_z, sfits_widen}

-- a number as 64 bits hold it, and as 32 do
abbrev pub Long : ℤ → ℤ
Long z = to_z w64 (of_z w64 z)

abbrev pub Int : ℤ → ℤ
Int z = to_z w32 (of_z w32 z)

pub back : (z : ℤ) → mag z < 2 ^ 63 → Long z ≡ z
back z h = to_z-of_z {w = w64} (record { sfits = h })

pub wider : {z : ℤ} → SFits w32 z → SFits w64 z
wider s = sfits_widen tt s
