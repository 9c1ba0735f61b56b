-- A history of lent calls leaves behind the reference what a history of calls by value gives back, so what is proved of the tally by value
-- holds of the lent one.
use mathlib.Core.Path.{◌≡◌, refl, ap, ◌∙◌}
use mathlib.Core.List.{List, [], ◌∷◌}
use Prim.Native.Nat.{◌≤◌, min}
use lib.ListN.{length, get_or}
use Rattle.answers.specs.declared.Answer.{Answer}
use Rattle.answers.specs.Numbers.{number_of, count_of}
use Rattle.take_rules.specs.declared.Tally.{Tally}
use Rattle.take_rules.specs.Follow.{followed_of}
use Rattle.take_rules.specs.Tally.{cleared, tallied_of}
use Rattle.take_rules.specs.History.{Call, answer_to, tally_after, answered_so, sum, Few}
use Rattle.take_rules.specs.Lending.{LeavesAfter}
use Rattle.take_rules.proofs.Counting.{tally_counts, tally_below, tally_sum, tally_sum_few}

module _ (c : Call) where
  -- what a lent call answers, with the tally that it leaves, is all that the call by value gives
  pub lent_by_value : (entry : Tally) → let whole = tallied_of c.take entry c.address c.datagram c.track in
      record { followed = followed_of c.take c.address c.datagram c.track; tally = whole.tally } ≡ whole
  unfolding tallied_of
  lent_by_value entry = refl

  -- and what it answers is what the history counts
  pub lent_answer : (followed_of c.take c.address c.datagram c.track).told.answer ≡ answer_to c
  unfolding followed_of
  lent_answer = refl

-- a history leaves the tally that the calls by value give, and nothing else
pub lent_after : (calls : List Call) (entry exit : Tally) → LeavesAfter entry calls exit → exit ≡ tally_after entry calls
lent_after [] entry exit h = h
lent_after (c ∷ calls) entry exit h = lent_after calls h.0 exit h.1.1 ∙ ap (λ (t : Tally). tally_after t calls) h.1.0

-- and it does leave that
pub lent_left : (calls : List Call) (entry : Tally) → LeavesAfter entry calls (tally_after entry calls)
lent_left [] entry = refl
lent_left (c ∷ calls) entry = (_, (refl, lent_left calls _))

module _ (calls : List Call) (exit : Tally) (h : LeavesAfter cleared calls exit) where
  pub lent_counts : (a : Answer) → get_or exit.counts (count_of (number_of a)) 0 ≡ min 4294967295 (answered_so (number_of a) calls)
  lent_counts a = rw (lent_after calls cleared exit h) (tally_counts a calls)

  pub lent_below : (a : Answer) → answered_so (number_of a) calls ≤ 4294967295 → get_or exit.counts (count_of (number_of a)) 0 ≡ answered_so (number_of a) calls
  lent_below a few = rw (lent_after calls cleared exit h) (tally_below a calls few)

  pub lent_sum : length calls ≤ 4294967295 → sum exit.counts ≡ length calls
  lent_sum few = rw (lent_after calls cleared exit h) (tally_sum calls few)

  pub lent_sum_few : Few (λ n. answered_so n calls) → sum exit.counts ≡ length calls
  lent_sum_few few = rw (lent_after calls cleared exit h) (tally_sum_few calls few)
