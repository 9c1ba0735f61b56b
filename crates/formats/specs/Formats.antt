-- The data types of a sample (document 01, "The 28 bytes" and "Sample numbers").
use Rattle.std.specs.Prelude.{Bool, ◌&&◌, ℕ, ◌≤◌, ℤ, pos, neg_ℤ, eqb, leb}
use Rattle.std.specs.Int.Signed.{le_z}
use Rattle.lists.specs.Tables.{choose}
use Rattle.formats.specs.declared.Integer.{Integer}
use Rattle.formats.specs.declared.Integer.TheVariants.{Unsigned8, Signed16, Signed24, Signed32}
use Rattle.formats.specs.declared.Format.{Format}
use Rattle.formats.specs.declared.Format.TheVariants.{Whole, Other}

-- ---- the type of an index (document 01, "The 28 bytes")

abbrev pub unsigned8 : Format
unsigned8 = Whole Unsigned8

abbrev pub signed16 : Format
signed16 = Whole Signed16

abbrev pub signed24 : Format
signed24 = Whole Signed24

abbrev pub signed32 : Format
signed32 = Whole Signed32

-- 0 unsigned 8-bit, 1, 2 and 3 signed 16, 24 and 32-bit; the others are recognised and refused
unfoldable pub format_of : ℕ → Format
format_of t = choose (eqb t 0) unsigned8 (choose (eqb t 1) signed16 (choose (eqb t 2) signed24 (choose (eqb t 3) signed32 Other)))

-- and back
abbrev pub index_of : Integer → ℕ
index_of Unsigned8 = 0
index_of Signed16 = 1
index_of Signed24 = 2
index_of Signed32 = 3

-- ---- which types are taken, as rules and as tests; the laws are in proofs/Types

-- may be read (document 01, answers 10 and 16)
unfoldable pub MayRead : ℕ → Type 0
MayRead t = t ≤ 3

unfoldable pub may_read : ℕ → Bool
may_read t = leb t 3

-- may be sent (document 01, answer 20 of writing and cutting)
unfoldable pub MaySend : ℕ → Type 0
MaySend t = t ≤ 3

unfoldable pub may_send : ℕ → Bool
may_send t = leb t 3

-- are taken by converting one number (document 01, "Sample numbers")
unfoldable pub MayConvert : ℕ → Type 0
MayConvert t = t ≤ 3

unfoldable pub may_convert : ℕ → Bool
may_convert t = leb t 3

-- ---- the bytes of a sample

abbrev pub whole_size : Integer → ℕ
whole_size Unsigned8 = 1
whole_size Signed16 = 2
whole_size Signed24 = 3
whole_size Signed32 = 4

-- none where the type is refused
abbrev pub size_of : Format → ℕ
size_of (Whole f) = whole_size f
size_of Other = 0

-- of a type's index
abbrev pub size_at : ℕ → ℕ
size_at t = size_of (format_of t)

-- ---- whole numbers

-- the bits of a sample
abbrev pub width_of : Integer → ℕ
width_of Unsigned8 = 8
width_of Signed16 = 16
width_of Signed24 = 24
width_of Signed32 = 32

abbrev pub lowest_of : Integer → ℤ
lowest_of Unsigned8 = pos 0
lowest_of Signed16 = neg_ℤ (pos 32768)
lowest_of Signed24 = neg_ℤ (pos 8388608)
lowest_of Signed32 = neg_ℤ (pos 2147483648)

abbrev pub highest_of : Integer → ℤ
highest_of Unsigned8 = pos 255
highest_of Signed16 = pos 32767
highest_of Signed24 = pos 8388607
highest_of Signed32 = pos 2147483647

-- the number that stands for 0
abbrev pub middle_of : Integer → ℕ
middle_of Unsigned8 = 128
middle_of Signed16 = 0
middle_of Signed24 = 0
middle_of Signed32 = 0

-- n is a number of the type
abbrev pub has : Integer → ℤ → Bool
has f n = le_z (lowest_of f) n && le_z n (highest_of f)
