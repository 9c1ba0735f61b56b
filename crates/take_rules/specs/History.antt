-- The tally over a history of following calls (document 01, "Following a take").
use Rattle.std.specs.Prelude.{ℕ, suc, ◌+◌, ◌≤◌, List, [], ◌∷◌, eqb}
use Rattle.lists.specs.Tables.{choose}
use Rattle.answers.specs.declared.Answer.{Answer}
use Rattle.answers.specs.Numbers.{number_of}
use Rattle.track_rules.specs.Records.{records_held}
use Rattle.take_rules.specs.declared.Take.{Take}
use Rattle.take_rules.specs.declared.Tally.{Tally}
use Rattle.take_rules.specs.Follow.{answer_of}
use Rattle.take_rules.specs.Tally.{tallied_of}
use Rattle.take_rules.specs.Box.{Box, Event, tells_of, after}

-- what a following call is given, the tally apart: any take, address, datagram and track
pub record Call : Type 0 where
  pub take : Take
  pub address : ℕ
  pub datagram : List ℕ
  pub track : List ℕ

-- what following answers to it
abbrev pub answer_to : Call → Answer
answer_to c = answer_of c.take c.address c.datagram (records_held c.track)

-- the tally after a history of calls in their order, each handed the tally of the one before
abbrev pub tally_after : Tally → List Call → Tally
tally_after tally [] = tally
tally_after tally (c ∷ calls) = tally_after (tallied_of c.take tally c.address c.datagram c.track).tally calls

-- how many calls of a history were answered the paper's number n (document 01: "The house tally has one count for each answer 0 to 16")
abbrev pub answered_so : ℕ → List Call → ℕ
answered_so n [] = 0
answered_so n (c ∷ calls) = choose (eqb (number_of (answer_to c)) n) (suc (answered_so n calls)) (answered_so n calls)

-- the counts added up
abbrev pub sum : List ℕ → ℕ
sum [] = 0
sum (n ∷ rest) = n + sum rest

-- no answer came more often than its count can tell, where each number came so many times
abbrev pub Few : (ℕ → ℕ) → Type 0
Few times = (a : Answer) → times (number_of a) ≤ 4294967295

-- ---- one box

-- what it answered to the events of a history, the latest first
abbrev pub answers_after : Box → List Event → List Answer
answers_after b [] = []
answers_after b (e ∷ past) = (tells_of (after b past) e).answer ∷ answers_after b past

-- how many of these have the paper's number n
abbrev pub told_so : ℕ → List Answer → ℕ
told_so n [] = 0
told_so n (a ∷ past) = choose (eqb (number_of a) n) (suc (told_so n past)) (told_so n past)
