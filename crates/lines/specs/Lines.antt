-- What the programs print: decimal numbers, each with a byte after it. Document 01, "Bench table", program takelist:
-- one line a capture record, of its index, answer, place, frames and skipped, with single spaces; a line feed ends a line.
use Rattle.std.specs.Prelude.{ℕ, zero, suc, ◌^◌, List, [], ◌∷◌, ◌++◌, ltb}
use Rattle.io.specs.Digits.{last_digits}
use Rattle.lists.specs.Tables.{choose}

-- how many digits a number below 10 ^ (k + 1) takes, at least one: takelist's lines print 0 as one digit
unfoldable pub places : ℕ → ℕ → ℕ
places zero n = 1
places (suc k) n = choose (ltb n (10 ^ suc k)) (places k n) (suc (suc k))

-- the same of any number that takelist prints: each is below 10 ^ 20
abbrev pub places_of : ℕ → ℕ
places_of n = places 19 n

-- a number as takelist prints it: in decimal, with no zero in front
unfoldable pub decimal_of : ℕ → List ℕ
decimal_of n = last_digits 10 (places_of n) n

-- a number and the byte that stands after it on takelist's line: a space, or a line feed
unfoldable pub field_of : ℕ → ℕ → List ℕ
field_of n after = decimal_of n ++ (after ∷ [])

-- takelist's line for one capture record
unfoldable pub line_of : ℕ → ℕ → ℕ → ℕ → ℕ → List ℕ
line_of index answer place frames skipped =
    field_of index 32 ++ (field_of answer 32 ++ (field_of place 32 ++ (field_of frames 32 ++ field_of skipped 10)))

-- room for any of takelist's lines: five numbers of at most 20 digits, each with the byte after it
abbrev pub line_room : ℕ
line_room = 105
