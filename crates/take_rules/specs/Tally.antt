-- The house tally (document 01, "Following a take"): one count for each answer 0 to 16.
use Rattle.std.specs.Prelude.{ℕ, ◌+◌, List, get_or, set, replicate, ltb}
use Rattle.lists.specs.Tables.{choose}
use Rattle.answers.specs.declared.Answer.{Answer}
use Rattle.answers.specs.Numbers.{number_of, counts_kept, count_of}
use Rattle.take_rules.specs.declared.Take.{Take}
use Rattle.take_rules.specs.declared.Tally.{Tally}
use Rattle.take_rules.specs.declared.Tallied.{Tallied}
use Rattle.take_rules.specs.Follow.{followed_of}

-- a tally by its counts
abbrev pub tally_of : List ℕ → Tally
tally_of counts = record { counts = counts }

abbrev pub cleared : Tally
cleared = tally_of (replicate counts_kept 0)

-- one more, holding at 4,294,967,295
abbrev pub one_more : ℕ → ℕ
one_more n = choose (ltb n 4294967295) (n + 1) n

-- the count of an answer raised, and no other
abbrev pub raised_of : Tally → Answer → Tally
raised_of t a = let i = count_of (number_of a) in tally_of (set t.counts i (one_more (get_or t.counts i 0)))

-- following, and the answer's count raised
unfoldable pub tallied_of : Take → Tally → ℕ → List ℕ → List ℕ → Tallied
tallied_of t tally address d track =
    let f = followed_of t address d track in
    record { followed = f; tally = raised_of tally f.told.answer }
