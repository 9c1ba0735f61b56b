-- What takelist prints (document 01, "Bench table"): one line a capture record.
use Rattle.std.specs.Prelude.{ℕ, ◌+◌, List, [], ◌∷◌, ◌++◌}
use Rattle.answers.specs.Numbers.{number_of}
use Rattle.take_rules.specs.declared.Told.{Told}
use Rattle.take_rules.specs.Box.{Box}
use Rattle.lines.specs.Lines.{line_of}
use Rattle.takelist.specs.declared.block.Follower.{Follower}

-- the box, of what is kept beside its track
abbrev pub box_of : Follower → List ℕ → Box
box_of f track = record { take = f.take; tally = f.tally; track = track }

-- the line of what is told of a record with an index: index, answer, place, frames, skipped
abbrev pub answer_line : ℕ → Told → List ℕ
answer_line index t = line_of index (number_of t.answer) t.place t.frames t.skipped

-- the lines of what is told of records one after the other; the first has an index
unfoldable pub lines_of : ℕ → List Told → List ℕ
lines_of index [] = []
lines_of index (t ∷ rest) = answer_line index t ++ lines_of (index + 1) rest
