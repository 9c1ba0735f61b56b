-- Demand 3 of what a caller in C keeps: opened by tashmirok_open, then tashmirok_follow for each datagram that it hears.
use mathlib.Core.Path.{◌≡◌}
use mathlib.Core.List.{List}
use Prim.Native.Nat.{ℕ, ◌^◌, ◌≤◌, ◌<◌}
use lib.ListN.{length}
use Rattle.lists.specs.Lists.{byte}
use Rattle.answers.specs.declared.Made.TheVariants.{Done}
use Rattle.wire_rules.specs.declared.Header.{Header}
use Rattle.wire_rules.specs.Names.{name_of}
use Rattle.track_rules.specs.Records.{records_held}
use Rattle.take_rules.specs.Tally.{tally_of}
use Rattle.take_rules.specs.Box.{Event}
use Rattle.cutter_rules.specs.Cut.{cut_of}
use Rattle.demand.specs.Sender.{Sender, our_sender, Comes, NoOtherAudio, Each, accepted_in, RecordedOf}
use Rattle.demand.proofs.Demand.{recorded, recorded_among}
use Rattle.face_rules.specs.History.{opened_for, left_after, OfBytes}
use Rattle.face_rules.proofs.History.{face_history}

-- the sender, as in demand 3
module _ (h : Header) (sixteen : length h.name ≡ 16) (sent : List ℕ) (sent-bytes : (j : ℕ) → byte sent j < 256) (out : List ℕ)
    (cuts : (cut_of h sent 0 out).answer ≡ Done) (address : ℕ) where
  abbrev sender : Sender
  sender = our_sender h sent address

  -- the box, with its address and its track as their types in C have them
  module _ (fits : address < 2 ^ 32) (name : List ℕ) (short : length name ≤ 16) (same : name_of name ≡ name_of h.name) (counts track : List ℕ)
      (room : length track < 2 ^ 64) where
    -- the track that is kept shows what demand 3 says
    abbrev Shown : List Event → Type 0
    Shown past = RecordedOf sender (accepted_in sender (records_held track) past) track (left_after (opened_for name address counts track) past).track

    -- after every history
    pub face_recorded : (past : List Event) → Each OfBytes past → Each (Comes sender) past → Shown past
    face_recorded past v w = rw (face_history name short address fits counts track room past v).track
        (recorded h sixteen sent sent-bytes out cuts address name short same (tally_of counts) track past w)

    -- among any datagrams but other audio of that name and address
    pub face_recorded_among : (past : List Event) → Each OfBytes past → Each (NoOtherAudio sender) past → Shown past
    face_recorded_among past v w = rw (face_history name short address fits counts track room past v).track
        (recorded_among h sixteen sent sent-bytes out cuts address name short same (tally_of counts) track past w)
