-- A number of one type as a number of another (document 01, "Sample numbers"): by its rank among the type's numbers.
-- That it is the nearest is specs/Nearest.
use Rattle.std.specs.Prelude.{Bool, false, not, List, [], ◌∷◌, ℕ, suc, ◌+◌, ◌*◌, ◌-◌, ◌/◌, ◌%◌, ◌^◌, min, ltb, leb, eqb, ℤ, pos, negsuc}
use Rattle.std.proofs.Math.IntN.{sub_ℕ}
use Rattle.lists.specs.Tables.{choose, Row, row, first}
use Rattle.answers.specs.declared.Made.{Made}
use Rattle.answers.specs.declared.Made.TheVariants.{Done, Form, Sample}
use Rattle.answers.specs.Numbers.{number_made}
use Rattle.formats.specs.declared.Integer.{Integer}
use Rattle.formats.specs.declared.Integer.TheVariants.{Unsigned8, Signed16, Signed24, Signed32}
use Rattle.formats.specs.declared.Format.{Format}
use Rattle.formats.specs.declared.Format.TheVariants.{Whole, Other}
use Rattle.sample_rules.specs.declared.Converted.{Converted}
use Rattle.formats.specs.Formats.{format_of, may_convert, width_of, has}

-- ---- ranks

-- how far the lowest number lies below 0
abbrev pub bias_of : Integer → ℕ
bias_of Unsigned8 = 0
bias_of Signed16 = 32768
bias_of Signed24 = 8388608
bias_of Signed32 = 2147483648

-- the rank of a number among those from -b on, 0 for the lowest
abbrev pub rank : ℕ → ℤ → ℕ
rank b (pos n) = n + b
rank b (negsuc n) = b - suc n

-- its rank among the type's numbers, and the number of a rank
abbrev pub rank_of : Integer → ℤ → ℕ
rank_of f n = rank (bias_of f) n

abbrev pub number_at : Integer → ℕ → ℤ
number_at f u = sub_ℕ u (bias_of f)

-- ---- ranks of a wider and a narrower type

-- q and r of p parts, to the nearest whole; at a tie the even one
abbrev pub rounded_of : ℕ → ℕ → ℕ → ℕ
rounded_of q r p = choose (ltb (r * 2) p) q (choose (ltb p (r * 2)) (q + 1) (q + q % 2))

-- the rank u of a type of k + v bits among those of a type of v bits: past the end, the end
unfoldable pub narrowed : ℕ → ℕ → ℕ → ℕ
narrowed k v u = min (rounded_of (u / 2 ^ k) (u % 2 ^ k) (2 ^ k)) (2 ^ v - 1)

-- the rank u of a type of w bits among those of a type of v bits
unfoldable pub rescaled : ℕ → ℕ → ℕ → ℕ
rescaled w v u = choose (leb w v) (u * 2 ^ (v - w)) (narrowed (w - v) v u)

-- ---- numbers

-- the number n of the type f as a number of the type t
unfoldable pub converted : Integer → Integer → ℤ → ℤ
converted f t n = number_at t (rescaled (width_of f) (width_of t) (rank_of f n))

-- a 24-bit number as the type carries it: narrowed or widened to the type, and back
unfoldable pub carried : Format → ℤ → ℤ
carried (Whole f) n = converted f Signed24 (converted Signed24 f n)
carried Other n = pos 0

-- ---- converting one number, by the types' indexes

abbrev pub has_number : Format → ℤ → Bool
has_number (Whole f) n = has f n
has_number Other n = false

-- 20 for either type, then 26 for a number that its type doesn't have
abbrev pub convert_rows : ℕ → ℕ → ℤ → List (Row Made)
convert_rows from to n =
    row Form (not (may_convert from)) ∷ row Form (not (may_convert to)) ∷ row Sample (not (has_number (format_of from) n)) ∷ []

abbrev pub converted_as : Format → Format → ℤ → ℤ
converted_as (Whole f) (Whole t) n = converted f t n
converted_as (Whole f) Other n = pos 0
converted_as Other j n = pos 0

-- a refusal gives its number and zero
abbrev pub convert_answered : Made → ℤ → Converted
convert_answered a value = record { answer = a; value = choose (eqb (number_made a) 0) value (pos 0) }

unfoldable pub convert_of : ℕ → ℕ → ℤ → Converted
convert_of from to n = convert_answered (first Done (convert_rows from to n)) (converted_as (format_of from) (format_of to) n)
