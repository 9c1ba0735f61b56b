-- A sample's bits, on the wire and in a slot, and the numbers that they spell.
use Rattle.std.specs.Prelude.{ℕ, ◌-◌, ◌%◌, ◌^◌, ltb, ℤ, pos, nat_abs}
use Rattle.std.proofs.Math.IntN.{sub_ℕ}
use Rattle.lists.specs.Tables.{choose}
use Rattle.formats.specs.declared.Integer.{Integer}
use Rattle.formats.specs.declared.Integer.TheVariants.{Unsigned8, Signed16, Signed24, Signed32}
use Rattle.formats.specs.declared.Format.{Format}
use Rattle.formats.specs.declared.Format.TheVariants.{Whole, Other}
use Rattle.sample_rules.specs.Convert.{rank, converted}

-- w bits as a signed number: negative where the top bit is set (document 01, "Sample numbers")
unfoldable pub signed_of : ℕ → ℕ → ℤ
signed_of w u = choose (ltb u (2 ^ (w - 1))) (pos u) (sub_ℕ u (2 ^ w))

-- the w bits of a signed number
unfoldable pub bits_of : ℕ → ℤ → ℕ
bits_of w n = rank (2 ^ w) n % 2 ^ w

-- the number that a sample's bits spell, and the bits of a number
abbrev pub sample_of : Integer → ℕ → ℤ
sample_of Unsigned8 u = pos u
sample_of Signed16 u = signed_of 16 u
sample_of Signed24 u = signed_of 24 u
sample_of Signed32 u = signed_of 32 u

abbrev pub sample_bits : Integer → ℤ → ℕ
sample_bits Unsigned8 n = nat_abs n
sample_bits Signed16 n = bits_of 16 n
sample_bits Signed24 n = bits_of 24 n
sample_bits Signed32 n = bits_of 32 n

-- the slot's bits for a sample's bits of the type; a type that is refused has no samples
unfoldable pub slot_of : Format → ℕ → ℕ
slot_of (Whole f) u = bits_of 24 (converted f Signed24 (sample_of f u))
slot_of Other u = 0

-- the sample's bits of the type for a slot's bits
unfoldable pub sent_of : Format → ℕ → ℕ
sent_of (Whole f) s = sample_bits f (converted Signed24 f (signed_of 24 s))
sent_of Other s = 0
