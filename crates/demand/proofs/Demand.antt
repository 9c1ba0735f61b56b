-- Demand 3, of the contracts' own definitions: the cutter's packets on one side, opening and following on the other.
use mathlib.Core.Path.{◌≡◌, refl, sym, ap, ◌∙◌}
use mathlib.Core.Logic.{inl, inr, ⊎_elim}
use mathlib.Core.Bool.{true, Bool-discrete}
use mathlib.Core.List.{List, [], ◌∷◌}
use Prim.Native.Nat.{ℕ, ◌≤◌, ◌<◌, min}
use native.Mathlib.Decide.{ℕ_discrete}
use native.Mathlib.Nat.{le_of_eq}
use native.Mathlib.Omega.{arith}
use lib.ListN.{length, get_or}
use Rattle.lists.specs.Lists.{byte}
use Rattle.answers.specs.declared.Made.TheVariants.{Done}
use Rattle.answers.specs.declared.Answer.{Answer}
use Rattle.answers.specs.Numbers.{number_of, count_of}
use Rattle.answers.proofs.Numbers.{accepts}
use Rattle.wire_rules.specs.declared.Header.{Header}
use Rattle.wire_rules.specs.Names.{name_of, same_name}
use Rattle.wire_rules.specs.Header.{name_field}
use Rattle.wire_rules.specs.Read.{read_of}
use Rattle.wire_rules.proofs.Names.{same_exactly, kept_name_is}
use Rattle.wire_rules.proofs.Reading.{read_accepted_exactly}
use Rattle.track_rules.specs.Records.{records_held}
use Rattle.take_rules.specs.declared.Tally.{Tally}
use Rattle.cutter_rules.specs.Cut.{cut_schedule, cut_packet, cut_of, Cuttable}
use Rattle.cutter_rules.proofs.Scheduling.{held_known, held_once}
use Rattle.cutter_rules.proofs.Exactly.{cut_answer_is, cut_done_exactly}
use Rattle.cutter_rules.proofs.Whole.{packets_differ}
use Rattle.demand.specs.Took.{Took}
use Rattle.take_rules.specs.Box.{Event, Box, opened, tells_of, after}
use Rattle.take_rules.specs.Tally.{cleared}
use Rattle.take_rules.specs.History.{answers_after, told_so}
use Rattle.take_rules.proofs.Counting.{box_counts}
use Rattle.demand.specs.Answers.{Answered}
use Rattle.demand.specs.Sender.{Sender, our_sender, Heard, Audio, Comes, NoOtherAudio, Each, which_of, accepted_in, Arrives, Arrive, RecordedOf}
use Rattle.demand.proofs.Accepting.{Settled, Ordered}
use Rattle.demand.proofs.Sends.{Sends}
use Rattle.demand.proofs.Steps.{Good, good, answered, shows}
use Rattle.demand.proofs.Sent.{our_sends}
use Rattle.demand.proofs.Determined.{recorded_one}

-- the sender: a header, and a track of bytes, of which packet 0 is cut with room
module _ (h : Header) (sixteen : length h.name ≡ 16) (sent : List ℕ) (sent-bytes : (j : ℕ) → byte sent j < 256) (out : List ℕ)
    (cuts : (cut_of h sent 0 out).answer ≡ Done) (address : ℕ) where
  abbrev sender : Sender
  sender = our_sender h sent address

  rules : Cuttable h sent 0 (length out)
  rules = (cut_done_exactly h (le_of_eq sixteen) sent 0 (length out)).0 (sym (cut_answer_is h sent 0 out) ∙ cuts)

  sends : Sends sender
  sends = our_sends h sixteen sent sent-bytes (length out) rules address

  -- a datagram is one packet at most
  pub heard_one : (e : Event) (j k : ℕ) → Heard sender e j → Heard sender e k → j ≡ k
  heard_one e j k a b =
      let few = rules.number.few in
      packets_differ h sixteen (cut_schedule h sent) sent j k (omega (arith, a.below)) (omega (arith, b.below)) (sym a.bytes ∙ b.bytes)

  -- a packet is audio of the sender's name and address
  packet_audio : (e : Event) (k : ℕ) → Heard sender e k → Audio sender e
  packet_audio e k p =
      let r = sends.reads k p.below in
      record {
        read = rw p.bytes ((read_accepted_exactly (cut_packet h sent k)).1 r.readable);
        name = rw p.bytes (sym (kept_name_is (name_field (cut_packet h sent k))) ∙ ap (λ (y : Header). name_of y.name) r.header ∙ kept_name_is h.name);
        address = p.from;
      }

  -- by its bytes, each event says which packet it is
  arrives : (e : Event) → Comes sender e → Arrives sender (Heard sender e) e
  arrives e = ⊎_elim
      (λ y. inl (y.0, record { this = y.1; only = λ m a. heard_one e m y.0 a y.1; heard = y.1 }))
      (λ n. inr ((λ m a. n (packet_audio e m a)), n))

  arrive : (past : List Event) → Each (Comes sender) past → Arrive sender (which_of (Heard sender) past) past
  arrive [] w = tt
  arrive (e ∷ past) w = (arrives e w.0, arrive past w.1)

  -- the box: opened for that name and address on a lent track, whatever it holds
  module _ (name : List ℕ) (short : length name ≤ 16) (same : name_of name ≡ name_of h.name) (tally : Tally) (track : List ℕ) where
    abbrev box : List Event → Box
    box past = after (opened name address tally track) past

    abbrev took : List Event → Took
    took past = accepted_in sender (records_held track) past

    each : (past : List Event) → Each (Comes sender) past → Good sender track (took past) (box past)
    each past w = good sends tally name short same track (which_of (Heard sender) past) past (arrive past w)

    -- after every history
    pub recorded : (past : List Event) → Each (Comes sender) past → RecordedOf sender (took past) track (box past).track
    recorded past w = shows sends track (took past) (box past) (each past w)

    -- what the box answers to each event, in the sender's terms
    pub answered_along : (past : List Event) → Each (Comes sender) past → (e : Event) → Comes sender e
        → Answered sender.schedule (records_held track) (took past) (Heard sender e) (tells_of (box past) e)
    answered_along past w e c = answered sends track (took past) (box past) e (Heard sender e) (each past w) (arrives e c)

    -- and from a cleared tally, its counts are the numbers of those answers
    pub tallied_along : tally ≡ cleared → (past : List Event) (a : Answer)
        → get_or (box past).tally.counts (count_of (number_of a)) 0 ≡ min 4294967295 (told_so (number_of a) (answers_after (box []) past))
    tallied_along z past = box_counts (box []) z past

    -- what was accepted is settled by the history
    pub accepted_settled : (past : List Event) → Each (Comes sender) past → Settled (took past)
    accepted_settled past w = (each past w).settled

    -- the packet accepted first is one, and the lowest
    pub accepted_ordered : (past : List Event) → Each (Comes sender) past → Ordered (took past)
    accepted_ordered past w = (each past w).ordered

    -- no other track meets the statement
    pub recorded_alone : (past : List Event) → Each (Comes sender) past → (t u : List ℕ) → ((j : ℕ) → byte t j < 256) → ((j : ℕ) → byte u j < 256)
        → RecordedOf sender (took past) track t → RecordedOf sender (took past) track u → t ≡ u
    recorded_alone past w t u =
        recorded_one _ _ _ (held_known sends.divides) (held_once sends.divides) (took past) (accepted_settled past w) track t u

    -- among any datagrams but other audio of that name and address
    pub recorded_among : (past : List Event) → Each (NoOtherAudio sender) past → RecordedOf sender (took past) track (box past).track
    recorded_among past w = recorded past (comes past w)
      where
        audio : (e : Event) → Dec (Audio sender e)
        audio e = elim (ℕ_discrete (number_of (read_of e.datagram).answer) 0) [
          | no n ↦ no (λ a. n (ap number_of a.read))
          | yes r ↦ elim (Bool-discrete (same_name (name_field e.datagram) h.name) true) [
            | no n ↦ no (λ a. n ((same_exactly (name_field e.datagram) h.name).1 a.name))
            | yes m ↦ elim (ℕ_discrete e.address address) [
              | no n ↦ no (λ a. n a.address)
              | yes l ↦ yes (record {
                read = accepts _ (number_of (read_of e.datagram).answer) refl r;
                name = (same_exactly (name_field e.datagram) h.name).0 m;
                address = l;
              })
            ]
          ]
        ]

        come : (e : Event) → NoOtherAudio sender e → Comes sender e
        come e n = elim (audio e) [ yes a ↦ inl (n a) | no a ↦ inr a ]

        comes : (past : List Event) → Each (NoOtherAudio sender) past → Each (Comes sender) past
        comes [] w = tt
        comes (e ∷ past) w = (come e w.0, comes past w.1)
