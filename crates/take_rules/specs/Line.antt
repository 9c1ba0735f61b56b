-- A take's line (document 01, "Following a take"): what a packet's counter makes of it, and by that its place, the packets skipped before
-- it and the line after it. A rule that is new is a clause of these; nothing else tells one packet from another by its counter.
use Rattle.std.specs.Prelude.{ℕ, ◌+◌, ◌-◌, ◌*◌, Bool, true, false}
use Rattle.lists.specs.Tables.{choose}
use Rattle.take_rules.specs.declared.Line.{Line}
use Rattle.take_rules.specs.declared.Decision.{Decision}
use Rattle.take_rules.specs.declared.Decision.TheVariants.{Opening, Ahead, Late}
use Rattle.take_rules.specs.Counter.{away, newer}

-- a packet that is late is refused
abbrev pub is_late : Decision → Bool
is_late Opening = false
is_late Ahead = false
is_late Late = true

-- a packet by its counter and its frames
module _ (l : Line) (counter frames : ℕ) where
  -- d: its counter less the newest accepted, modulo 2^32
  abbrev pub distance : ℕ
  distance = away 32 counter l.newest

  -- the first one; then d from 1 to 2^31 - 1 is newer, and every other d late
  abbrev pub decision_of : Bool → Decision
  decision_of begun = choose begun (choose (newer 32 distance) Ahead Late) Opening

  -- the newest place plus d x N
  abbrev pub ahead_place : ℕ
  ahead_place = l.place + distance * l.n

  -- the first one lies at place 0
  abbrev pub place_for : Decision → ℕ
  place_for Opening = 0
  place_for Ahead = ahead_place
  place_for Late = 0

  -- the packets skipped: d - 1, and 0 for the first
  abbrev pub skipped_for : Decision → ℕ
  skipped_for Opening = 0
  skipped_for Ahead = distance - 1
  skipped_for Late = 0

  -- the line after acceptance: the first fixes N; the newest counter and place are the packet's
  abbrev pub next_for : Decision → Line
  next_for Opening = record { n = frames; newest = counter; place = 0 }
  next_for Ahead = record { n = l.n; newest = counter; place = ahead_place }
  next_for Late = l
