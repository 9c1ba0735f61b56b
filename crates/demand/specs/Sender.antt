-- A sender, the events that a box hears, and what the track holds then (demand 3).
use Rattle.std.specs.Prelude.{◌≡◌, ◌⊎◌, ℕ, ◌*◌, ◌≤◌, ◌<◌, List, [], ◌∷◌, ltb, ℤ, pos, length}
use Rattle.lists.specs.Lists.{byte}
use Rattle.lists.specs.Tables.{choose}
use Rattle.answers.specs.declared.Answer.TheVariants.{Accepted}
use Rattle.formats.specs.Formats.{format_of}
use Rattle.sample_rules.specs.Convert.{carried}
use Rattle.wire_rules.specs.declared.Header.{Header}
use Rattle.wire_rules.specs.Names.{name_of}
use Rattle.wire_rules.specs.Header.{name_field}
use Rattle.wire_rules.specs.Read.{read_of}
use Rattle.track_rules.specs.Records.{records_held, slot_number, record_bytes}
use Rattle.cutter_rules.specs.Schedule.{Schedule, Holds}
use Rattle.cutter_rules.specs.Cut.{cut_schedule, cut_packet}
use Rattle.demand.specs.Took.{Took, took_after, Joins}
use Rattle.demand.specs.Shows.{Shows}
use Rattle.take_rules.specs.Box.{Event}

-- a sender: its header and address, its packets as bytes, and its frame x in slot c as the box should lay it
pub record Sender : Type 0 where
  pub header : Header
  pub address : ℕ
  pub schedule : Schedule
  pub packet : ℕ → List ℕ
  pub number : ℕ → ℕ → ℤ

-- ---- our sender

-- the sender's frame x in slot c: its number as the type carries it if the channel is sent, else silence
abbrev pub sent_number : Header → List ℕ → ℕ → ℕ → ℤ
sent_number h track x c = choose (ltb c h.channels) (carried (format_of h.format) (slot_number track x c)) (pos 0)

-- the cutter's packets of a track, from an address
abbrev pub our_sender : Header → List ℕ → ℕ → Sender
our_sender h track address = record {
  header = h;
  address = address;
  schedule = cut_schedule h track;
  packet = cut_packet h track;
  number = sent_number h track;
}

-- ---- the events

module _ (x : Sender) where
  -- the event is packet k, from the sender's address: said of its bytes
  pub record Heard (e : Event) (k : ℕ) : Type 0 where
    pub below : k < x.schedule.packets
    pub bytes : e.datagram ≡ x.packet k
    pub from : e.address ≡ x.address

  -- the event is audio of the sender's name and address
  pub record Audio (e : Event) : Type 0 where
    pub read : (read_of e.datagram).answer ≡ Accepted
    pub name : name_of (name_field e.datagram) ≡ name_of x.header.name
    pub address : e.address ≡ x.address

  -- one of the sender's packets, or another: refused by reading alone, or of another name or address
  abbrev pub Comes : Event → Type 0
  Comes e = ((k : ℕ) × Heard e k) ⊎ (Audio e → ⊥)

  -- any datagram but other audio of that name and address
  abbrev pub NoOtherAudio : Event → Type 0
  NoOtherAudio e = Audio e → (k : ℕ) × Heard e k

-- each event of a history
abbrev pub Each : (Event → Type 0) → List Event → Type 0
Each P [] = Unit {0}
Each P (e ∷ past) = P e × Each P past

-- which packet each event of a history is
abbrev pub which_of : (Event → ℕ → Type 0) → List Event → List (ℕ → Type 0)
which_of is [] = []
which_of is (e ∷ past) = is e ∷ which_of is past

-- what is accepted in a history by a track that holds R records
abbrev pub accepted_in : Sender → ℕ → List Event → Took
accepted_in x R past = took_after (Joins x.schedule R) (which_of (Heard x) past)

-- ---- a history that says itself which packet each event is, for senders whose bytes do not tell

module _ (x : Sender) where
  -- the event is packet k, and is says so
  pub record IsPacket (is : ℕ → Type 0) (e : Event) (k : ℕ) : Type 0 where
    pub this : is k
    pub only : (m : ℕ) → is m → m ≡ k
    pub heard : Heard x e k

  -- one of the sender's packets, or another; is says which
  abbrev pub Arrives : (ℕ → Type 0) → Event → Type 0
  Arrives is e = ((k : ℕ) × IsPacket is e k) ⊎ (((m : ℕ) → is m → ⊥) × (Audio x e → ⊥))

  -- each event of a history
  abbrev pub Arrive : List (ℕ → Type 0) → List Event → Type 0
  Arrive [] [] = Unit {0}
  Arrive [] (e ∷ past) = ⊥
  Arrive (is ∷ which) [] = ⊥
  Arrive (is ∷ which) (e ∷ past) = Arrives is e × Arrive which past

-- ---- the track

-- the track now, which was before: every slot of every record, and the bytes past the last whole record. The sender's packet k begins with
-- frame from k, and its frame x in slot c is number x c
pub record Recorded (from : ℕ → ℕ) (holds : ℕ → ℕ → Type 0) (number : ℕ → ℕ → ℤ) (A : Took) (before now : List ℕ) : Type 0 where
  pub same_length : length now ≡ length before
  pub slots : (c : ℕ) → c < 8 → Shows (pos 0) (λ x. number x c) from holds (records_held before) A (λ i. slot_number now i c)
  pub rest : (j : ℕ) → records_held before * record_bytes ≤ j → byte now j ≡ byte before j

-- the same of a sender
abbrev pub RecordedOf : Sender → Took → List ℕ → List ℕ → Type 0
RecordedOf x A before now = Recorded x.schedule.from (Holds x.schedule) x.number A before now
