-- What the exported functions write for their caller, beside the number that they answer.
use Rattle.std.specs.Prelude.{ℕ, List, [], ◌∷◌, not, ◌&&◌, get_or, replicate, ltb, eqb}
use Rattle.lists.specs.Tables.{choose}
use Rattle.answers.specs.declared.Answer.{Answer}
use Rattle.answers.specs.declared.Answer.TheVariants.{Accepted, State}
use Rattle.answers.specs.Numbers.{number_of, counts_kept, count_of}
use Rattle.wire_rules.specs.declared.Header.{Header}
use Rattle.take_rules.specs.declared.Take.{Take}
use Rattle.take_rules.specs.declared.Told.{Told}
use Rattle.take_rules.specs.declared.Followed.{Followed}
use Rattle.take_rules.specs.declared.Tallied.{Tallied}
use Rattle.take_rules.specs.Take.{bad_state}
use Rattle.take_rules.specs.Tally.{tally_of, tallied_of}
use Rattle.kept.specs.Kept.{take_of, take_bytes}

-- a header's numbers in the order of the C header
abbrev pub fields_of : Header → List ℕ
fields_of h = h.rate ∷ h.frames ∷ h.channels ∷ h.format ∷ h.counter ∷ []

-- the header that a caller's arguments make
abbrev pub header_from : ℕ → ℕ → ℕ → ℕ → List ℕ → ℕ → Header
header_from rate frames channels format name counter =
    record { rate = rate; frames = frames; channels = channels; format = format; name = name; counter = counter }

-- following, by the bytes and counts that the caller keeps
abbrev pub followed_for : List ℕ → List ℕ → ℕ → List ℕ → List ℕ → Tallied
followed_for kept counts address d track = tallied_of (take_of kept) (tally_of counts) address d track

-- what is told as the words of the C header's struct: place, frames, skipped, and five that are zero
abbrev pub laid_for : Told → List ℕ
laid_for t = t.place ∷ t.frames ∷ t.skipped ∷ 0 ∷ 0 ∷ 0 ∷ 0 ∷ 0 ∷ []

-- a refusal leaves the caller's bytes
abbrev pub kept_after : List ℕ → Followed → List ℕ
kept_after kept f = choose (eqb (number_of f.told.answer) 0) (take_bytes f.take) kept

-- the count of an answer's number, 0 where no answer has it
abbrev pub count_for : List ℕ → ℕ → ℕ
count_for counts number = choose (ltb (count_of number) counts_kept) (get_or counts (count_of number) 0) 0

-- row 16 alone, of the take that the bytes are
abbrev pub state_for : List ℕ → Answer
state_for kept = choose (bad_state (take_of kept)) State Accepted

-- what a begun take has fixed: rate index, channels, data type, N
abbrev pub shape_fixed : Take → List ℕ
shape_fixed t = t.shape.rate ∷ t.shape.channels ∷ t.shape.format ∷ t.line.n ∷ []

-- the same of the take that the bytes are, zeros where it is not in good state or has not begun
abbrev pub shape_for : List ℕ → List ℕ
shape_for kept = let t = take_of kept in choose (not (bad_state t) && t.begun) (shape_fixed t) (replicate 4 0)
