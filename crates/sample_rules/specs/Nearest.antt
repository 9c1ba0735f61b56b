-- What a conversion must give, whatever the code: of the numbers that the type has, the nearest in value; at a tie, the even one.
-- Past an end, that end is the nearest, so nothing more is said of it.
use Rattle.std.specs.Prelude.{◌≡◌, true, ℕ, ◌-◌, ◌%◌, ◌^◌, ◌≤◌, ℤ, pos, nat_abs, ◌-ℤ◌, ◌*ℤ◌, ◌≤ℤ◌}
use Rattle.lists.specs.Rules.{Rules, done, rule}
use Rattle.answers.specs.declared.Made.{Made}
use Rattle.answers.specs.declared.Made.TheVariants.{Form, Sample}
use Rattle.formats.specs.declared.Integer.{Integer}
use Rattle.formats.specs.declared.Format.{Format}
use Rattle.formats.specs.declared.Format.TheVariants.{Whole, Other}
use Rattle.formats.specs.Formats.{format_of, MayConvert, width_of, lowest_of, highest_of, middle_of, has}

-- an exact value: a whole number over a power of two
pub record Value : Type 0 where
  pub whole : ℤ
  pub over : ℕ

-- a w-bit sample s stands for s / 2^(w-1), a byte b for (b - 128) / 128 (document 01, "Sample numbers")
abbrev pub value_of : Integer → ℤ → Value
value_of f n = record { whole = n -ℤ pos (middle_of f); over = width_of f - 1 }

-- how far a number m of the type is from a value, both multiplied out
abbrev pub apart : Value → Integer → ℤ → ℕ
apart x t m = nat_abs ((x.whole *ℤ pos (2 ^ (width_of t - 1))) -ℤ ((value_of t m).whole *ℤ pos (2 ^ x.over)))

abbrev pub Even : ℤ → Type 0
Even n = nat_abs n % 2 ≡ 0

-- r, of the type t, is the nearest to the value x
pub record Nearest (x : Value) (t : Integer) (r : ℤ) : Type 0 where
  pub is_one : has t r ≡ true
  pub near : (m : ℤ) → has t m ≡ true → apart x t r ≤ apart x t m
  pub even_at_a_tie : (m : ℤ) → has t m ≡ true → apart x t r ≡ apart x t m → (m ≡ r → ⊥) → Even r

-- the number r of the type t stands for the very value of the number n of the type f
abbrev pub Exact : Integer → ℤ → Integer → ℤ → Type 0
Exact f n t r = apart (value_of f n) t r ≡ 0

-- converting one number by the types' indexes: the number given is the nearest
abbrev pub NearestAs : Format → Format → ℤ → ℤ → Type 0
NearestAs (Whole f) (Whole t) n r = Nearest (value_of f n) t r
NearestAs (Whole f) Other n r = ⊥
NearestAs Other j n r = ⊥

-- the number is one of the type's
abbrev pub Has : Format → ℤ → Type 0
Has (Whole f) n = (lowest_of f ≤ℤ n) × (n ≤ℤ highest_of f)
Has Other n = ⊥

-- the rules of converting in order: 20 for a type that is not taken, then 26 for a number that its type doesn't have
abbrev pub convert_rules : ℕ → ℕ → ℤ → Rules Made
convert_rules from to n = rule Form (MayConvert from) (rule Form (MayConvert to) (rule Sample (Has (format_of from) n) done))
