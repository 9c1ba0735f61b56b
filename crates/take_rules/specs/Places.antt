-- What a take keeps, and where its packets lie, over every history of calls on one take (document 01, "Following a take"): by the packets
-- accepted so far, the latest first, and document 01's rule summed up from the first.
use Rattle.std.specs.Prelude.{ℕ, ◌+◌, ◌-◌, ◌*◌, ◌≡◌, true, false, List, [], ◌∷◌, eqb}
use Rattle.lists.specs.Tables.{choose}
use Rattle.answers.specs.Numbers.{number_of}
use Rattle.wire_rules.specs.declared.Header.{Header}
use Rattle.wire_rules.specs.Header.{header_of}
use Rattle.take_rules.specs.declared.Who.{Who}
use Rattle.take_rules.specs.declared.Take.{Take}
use Rattle.take_rules.specs.Counter.{away}
use Rattle.take_rules.specs.Follow.{shape_of}
use Rattle.take_rules.specs.Box.{Box, Event, tells_of, after}

-- the headers of the packets that a box answered 0
abbrev pub accepted_after : Box → List Event → List Header
accepted_after b [] = []
accepted_after b (e ∷ past) =
    choose (eqb (number_of (tells_of (after b past) e).answer) 0) (header_of e.datagram ∷ accepted_after b past) (accepted_after b past)

-- the first of a packet and those accepted before it
abbrev pub first_of : Header → List Header → Header
first_of h [] = h
first_of h (g ∷ past) = first_of g past

-- d of a packet: its counter less that of the one accepted before it; the first has none
abbrev pub step_of : Header → List Header → ℕ
step_of h [] = 0
step_of h (g ∷ past) = away 32 h.counter g.counter

-- the steps from the first to a packet
abbrev pub steps_of : Header → List Header → ℕ
steps_of h [] = 0
steps_of h (g ∷ past) = step_of h (g ∷ past) + steps_of g past

-- its place: the steps from the first, each of N frames, N being the first one's frames
abbrev pub summed_place : Header → List Header → ℕ
summed_place h past = steps_of h past * (first_of h past).frames

-- the packets skipped before it: d - 1, and 0 for the first
abbrev pub summed_skipped : Header → List Header → ℕ
summed_skipped h past = step_of h past - 1

-- what a begun take keeps: the first packet's rate, channels, type and N, and the newest one's counter and place
pub record KeepsFrom (h : Header) (past : List Header) (t : Take) : Type 0 where
  pub begun : t.begun ≡ true
  pub shape : t.shape ≡ shape_of (first_of h past)
  pub line : t.line ≡ record { n = (first_of h past).frames; newest = h.counter; place = summed_place h past }

-- by the packets accepted; the name and address are those that it was opened for
abbrev pub Keeps : Who → List Header → Take → Type 0
Keeps who [] t = (t.who ≡ who) × (t.begun ≡ false)
Keeps who (h ∷ past) t = (t.who ≡ who) × KeepsFrom h past t
