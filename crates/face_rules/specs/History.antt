-- What a caller in C keeps: what the contracts of tashmirok_open and tashmirok_follow say that a call leaves, and that over a history.
use Rattle.std.specs.Prelude.{ℕ, ◌<◌, ◌≡◌, List, [], ◌∷◌}
use Rattle.lists.specs.Lists.{byte}
use Rattle.take_rules.specs.declared.Told.{Told}
use Rattle.take_rules.specs.declared.Tallied.{Tallied}
use Rattle.take_rules.specs.Take.{open_of, opened_track}
use Rattle.take_rules.specs.Follow.{followed_track}
use Rattle.take_rules.specs.Box.{Event, Box}
use Rattle.kept.specs.Kept.{take_of, take_bytes}
use Rattle.firmware.specs.Face.{followed_for, kept_after}

-- the take's bytes, the tally's counts and the track's bytes
pub record Kept : Type 0 where
  pub take : List ℕ
  pub counts : List ℕ
  pub track : List ℕ

-- what a call finds, and what it hears from an address
abbrev pub kept_of : List ℕ → List ℕ → List ℕ → Kept
kept_of take counts track = record { take = take; counts = counts; track = track }

abbrev pub heard_from : ℕ → List ℕ → Event
heard_from address d = record { datagram = d; address = address }

-- the bytes of a take that was opened
abbrev pub bytes_opened : List ℕ → ℕ → List ℕ
bytes_opened name address = take_bytes (open_of name address).take

-- what tashmirok_open leaves, with a tally beside it
abbrev pub opened_for : List ℕ → ℕ → List ℕ → List ℕ → Kept
opened_for name address counts track = kept_of (bytes_opened name address) counts (opened_track name track)

-- following, by what the caller keeps
abbrev pub followed_from : Kept → Event → Tallied
followed_from k e = followed_for k.take k.counts e.address e.datagram k.track

-- what tashmirok_follow tells
abbrev pub told_by : Kept → Event → Told
told_by k e = (followed_from k e).followed.told

-- what it leaves
abbrev pub left_by : Kept → Event → Kept
left_by k e = record {
  take = kept_after k.take (followed_from k e).followed;
  counts = (followed_from k e).tally.counts;
  track = followed_track (take_of k.take) e.address e.datagram k.track;
}

-- after a history, the latest event first
abbrev pub left_after : Kept → List Event → Kept
left_after k [] = k
left_after k (e ∷ past) = left_by (left_after k past) e

-- what is kept is a box
pub record Holds (k : Kept) (b : Box) : Type 0 where
  pub take : take_of k.take ≡ b.take
  pub counts : k.counts ≡ b.tally.counts
  pub track : k.track ≡ b.track

-- what the type of a datagram in C gives
abbrev pub OfBytes : Event → Type 0
OfBytes e = (i : ℕ) → byte e.datagram i < 256
