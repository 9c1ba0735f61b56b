-- The box over a history: opened, then following one datagram after another, by the definitions that the contracts of opening and
-- following cite.
use Rattle.std.specs.Prelude.{ℕ, List, [], ◌∷◌}
use Rattle.take_rules.specs.declared.Take.{Take}
use Rattle.take_rules.specs.declared.Tally.{Tally}
use Rattle.take_rules.specs.declared.Told.{Told}
use Rattle.take_rules.specs.Take.{open_of, opened_track}
use Rattle.take_rules.specs.Follow.{followed_of, followed_track}
use Rattle.take_rules.specs.Tally.{tallied_of}

-- a datagram and its sender's address
pub record Event : Type 0 where
  pub datagram : List ℕ
  pub address : ℕ

pub record Box : Type 0 where
  pub take : Take
  pub tally : Tally
  pub track : List ℕ

-- opened for a name and an address on a lent track
abbrev pub opened : List ℕ → ℕ → Tally → List ℕ → Box
opened name address tally track = record { take = (open_of name address).take; tally = tally; track = opened_track name track }

-- what following tells of a datagram
abbrev pub tells_of : Box → Event → Told
tells_of b e = (followed_of b.take e.address e.datagram b.track).told

-- one datagram followed
abbrev pub follows : Box → Event → Box
follows b e = record {
  take = (followed_of b.take e.address e.datagram b.track).take;
  tally = (tallied_of b.take b.tally e.address e.datagram b.track).tally;
  track = followed_track b.take e.address e.datagram b.track;
}

-- after a history, the latest event first
abbrev pub after : Box → List Event → Box
after b [] = b
after b (e ∷ past) = follows (after b past) e
