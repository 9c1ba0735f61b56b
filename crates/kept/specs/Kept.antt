-- A take as 40 bytes, which a caller in C keeps without looking in: the name, then numbers of so many bytes each, little-endian.
use Rattle.std.specs.Prelude.{ℕ, ◌+◌, ◌^◌, ◌<◌, ◌≡◌, not, List, [], ◌∷◌, ◌++◌, length, take, get_or, eqb}
use Rattle.lists.specs.Little.{little, bytes_of}
use Rattle.lists.specs.Tables.{choose}
use Rattle.take_rules.specs.declared.Take.{Take}

-- ---- numbers of so many bytes each

-- kept one after the other
abbrev pub kept_bytes : List ℕ → List ℕ → List ℕ
kept_bytes [] values = []
kept_bytes (w ∷ widths) [] = []
kept_bytes (w ∷ widths) (v ∷ values) = bytes_of w v ++ kept_bytes widths values

-- read from byte a on
abbrev pub values_in : List ℕ → List ℕ → ℕ → List ℕ
values_in [] b a = []
values_in (w ∷ widths) b a = little w b a ∷ values_in widths b (a + w)

-- each fits its width
abbrev pub Fit : List ℕ → List ℕ → Type 0
Fit [] [] = Unit {0}
Fit [] (v ∷ values) = ⊥
Fit (w ∷ widths) [] = ⊥
Fit (w ∷ widths) (v ∷ values) = (v < 256 ^ w) × Fit widths values

-- ---- a take's numbers

-- address, begun, rate, data type, a zero, channels, N
abbrev pub fixed_widths : List ℕ
fixed_widths = 4 ∷ 1 ∷ 1 ∷ 1 ∷ 1 ∷ 2 ∷ 2 ∷ []

abbrev pub fixed_values : Take → List ℕ
fixed_values t =
    t.who.address ∷ choose t.begun 1 0 ∷ t.shape.rate ∷ t.shape.format ∷ 0 ∷ t.shape.channels ∷ t.line.n ∷ []

-- newest counter, newest place
abbrev pub newest_widths : List ℕ
newest_widths = 4 ∷ 8 ∷ []

abbrev pub newest_values : Take → List ℕ
newest_values t = t.line.newest ∷ t.line.place ∷ []

abbrev pub kept_widths : List ℕ
kept_widths = fixed_widths ++ newest_widths

abbrev pub kept_values : Take → List ℕ
kept_values t = fixed_values t ++ newest_values t

-- ---- the bytes

-- those after the name
abbrev pub tail_of : Take → List ℕ
tail_of t = kept_bytes kept_widths (kept_values t)

unfoldable pub take_bytes : Take → List ℕ
take_bytes t = t.who.name ++ tail_of t

-- the take of a name and of the numbers after it
abbrev pub take_from : List ℕ → List ℕ → Take
take_from name values = record {
  who = record { name = name; address = get_or values 0 0 };
  begun = not (eqb (get_or values 1 0) 0);
  shape = record { rate = get_or values 2 0; channels = get_or values 5 0; format = get_or values 3 0 };
  line = record { n = get_or values 6 0; newest = get_or values 7 0; place = get_or values 8 0 };
}

-- any 40 bytes are a take
unfoldable pub take_of : List ℕ → Take
take_of b = take_from (take 16 b) (values_in kept_widths b 16)

-- what the types of a take's fields give
pub record TypedTake (t : Take) : Type 0 where
  pub named : length t.who.name ≡ 16
  pub fits : Fit kept_widths (kept_values t)
