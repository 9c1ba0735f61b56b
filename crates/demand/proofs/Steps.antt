-- One event more, and every history: the track shows what was accepted and nothing else.
use mathlib.Core.Path.{◌≡◌, refl, sym, ap, ◌∙◌, subst}
use mathlib.Core.Logic.{inl, inr, ⊎_elim, ◌↔◌}
use mathlib.Core.List.{List, [], ◌∷◌}
use Prim.Native.Nat.{ℕ, ◌+◌, ◌-◌, ◌*◌, ◌/◌, ◌^◌, ◌≤◌, ◌<◌}
use native.Mathlib.Decide.{ℕ_discrete, dec_lt}
use native.Mathlib.Omega.{arith}
use lib.IntN.{pos}
use lib.ListN.{length}
use Rattle.lists.specs.Lists.{byte}
use Rattle.answers.specs.declared.Answer.{Answer}
use Rattle.answers.specs.declared.Answer.TheVariants.{Accepted}
use Rattle.answers.specs.Numbers.{number_of}
use Rattle.answers.proofs.Numbers.{accepts}
use Rattle.formats.specs.Formats.{format_of}
use Rattle.sample_rules.specs.Bits.{signed_of}
use Rattle.wire_rules.specs.declared.Header.{Header}
use Rattle.wire_rules.specs.Names.{name_of, kept_name, GoodName}
use Rattle.wire_rules.specs.Header.{header_of, header_size}
use Rattle.wire_rules.proofs.Reading.{read_accepted_exactly}
use Rattle.track_rules.specs.Records.{records_held, slot_number, laid_of, packet_slot, record_bytes}
use Rattle.track_rules.proofs.Laws.{laid_length, laid_slot, slot_before, slot_after, laid_after, cleared_length, cleared_slot, cleared_rest, silence}
use Rattle.take_rules.specs.declared.Tally.{Tally}
use Rattle.take_rules.specs.Take.{unbegun}
use Rattle.take_rules.specs.Follow.{place_of, skipped_of, followed_by, answer_of, laid_by, Followable}
use Rattle.take_rules.proofs.Exactly.{told_answer, follow_accepted_exactly, follow_refused, follow_accepted, refused_track, follow_track, open_accepted}
use Rattle.cutter_rules.specs.Schedule.{Schedule}
use Rattle.cutter_rules.proofs.Scheduling.{apart, from_rises}
use Rattle.demand.specs.Took.{Took, Joining, nothing, Fits, Joins, hears, took_after}
use Rattle.take_rules.specs.Box.{Event, Box, opened, tells_of, follows, after}
use Rattle.demand.specs.Answers.{Tells, Newest, Answered}
use Rattle.demand.specs.Sender.{Sender, Audio, IsPacket, Arrives, Arrive, RecordedOf}
use Rattle.demand.proofs.Accepting.{Settled, Ordered, nothing_settled, nothing_ordered, JoinsAlone, NoneJoins, hears_settled, hears_ordered}
use Rattle.demand.proofs.Paint.{Within, Paints, Laid, paint, repaint, unpainted}
use Rattle.demand.proofs.Sends.{ReadAs, Sends}
use Rattle.demand.proofs.Standing.{Stands, Follows, follows_same, name_short, same_name, same_address, followed, late_refused, longer_refused, beyond_refused, first_refused, skipped_first, skipped_next, joined, next, placed}

-- ---- what following gives, of a box

module _ (b : Box) (e : Event) where
  abbrev answer : Answer
  answer = answer_of b.take e.address e.datagram (records_held b.track)

  abbrev place : ℕ
  place = place_of b.take (header_of e.datagram)

  record Stays : Type 0 where
    pub take : (follows b e).take ≡ b.take
    pub track : (follows b e).track ≡ b.track

  stays : (answer ≡ Accepted → ⊥) → Stays
  stays z = record {
    take = ap (λ r. r.take) (follow_refused b.take e.address e.datagram b.track z);
    track = refused_track b.take e.address e.datagram b.track z;
  }

  record Takes : Type 0 where
    pub take : (follows b e).take ≡ followed_by b.take (header_of e.datagram)
    pub track : (follows b e).track ≡ laid_by (header_of e.datagram) e.datagram place b.track

  takes : answer ≡ Accepted → Takes
  takes a = record {
    take = ap (λ r. r.take) (follow_accepted b.take e.address e.datagram b.track a);
    track = follow_track b.take e.address e.datagram b.track a;
  }

-- ---- the box and what was accepted

module _ (x : Sender) (track₀ : List ℕ) where
  -- slot c of every record, where packet k₀ was accepted first
  abbrev Painted : Took → ℕ → ℕ → List ℕ → Type 0
  Painted A k₀ c t =
      let s = x.schedule in
      Paints (pos 0) (records_held track₀) (λ j. s.from j - s.from k₀) s.count (λ j o. x.number (s.from j + o) c) A.taken (λ i. slot_number t i c)

  pub record Good (A : Took) (b : Box) : Type 0 where
    pub sized : length b.track ≡ length track₀
    pub stands : Follows x A b.take
    pub ordered : Ordered A
    pub settled : Settled A
    pub sent : (j : ℕ) → A.taken j → j < x.schedule.packets
    pub rest : (j : ℕ) → records_held track₀ * record_bytes ≤ j → byte b.track j ≡ byte track₀ j
    pub silent : ((j : ℕ) → A.taken j → ⊥) → (i c : ℕ) → i < records_held track₀ → c < 8 → slot_number b.track i c ≡ pos 0
    pub paints : (k₀ : ℕ) → A.earliest k₀ → (c : ℕ) → c < 8 → Painted A k₀ c b.track

-- ---- one event more

module _ {x : Sender} (w : Sends x) (track₀ : List ℕ) (A : Took) (b : Box) (e : Event) (is : ℕ → Type 0) (g : Good x track₀ A b) where
  abbrev s : Schedule
  s = x.schedule

  abbrev R : ℕ
  R = records_held track₀

  abbrev joins : Joining
  joins = Joins s R

  abbrev B : Took
  B = hears joins A is

  held : records_held b.track ≡ R
  held = ap (λ (n : ℕ). n / record_bytes) g.sized

  -- what the box accepts, in the terms of its opening
  accepts_exactly : answer b e ≡ Accepted ↔ Followable b.take e.address e.datagram R
  accepts_exactly =
      subst (λ (m : ℕ). answer b e ≡ Accepted ↔ Followable b.take e.address e.datagram m) held
      (follow_accepted_exactly b.take e.address e.datagram (records_held b.track) (name_short x g.stands w.short))

  -- nothing joins before the first, and nothing joins again
  later : (k₀ k : ℕ) → A.earliest k₀ → joins A k → k₀ ≤ k
  later k₀ k a j = omega (arith, j.newer k₀ (g.ordered.is_taken k₀ a))

  fresh : (m k : ℕ) → A.taken m → joins A k → m ≡ k → ⊥
  fresh m k a j q = omega (arith, j.newer m a)

  -- a datagram that is refused, where no packet joins: all is as it was
  refused_good : (answer b e ≡ Accepted → ⊥) → NoneJoins joins A is → Good x track₀ B (follows b e)
  refused_good z none =
      let kept = stays b e z in
      let back : (j : ℕ) → B.taken j → A.taken j = λ j. ⊎_elim (λ a. a) (λ y. absurd (none j y.0 y.1)) in
      record {
        sized = ap length kept.track ∙ g.sized;
        stands = rw kept.take (follows_same x (λ j. inl) back (λ j. inl) g.stands);
        ordered = hears_ordered joins A is (inr none) g.ordered later;
        settled = hears_settled joins A is (inr none) g.settled;
        sent = λ j a. g.sent j (back j a);
        rest = λ j l. ap (λ (t : List ℕ). byte t j) kept.track ∙ g.rest j l;
        silent = λ n i c l m. ap (λ (t : List ℕ). slot_number t i c) kept.track ∙ g.silent (λ j a. n j (inl a)) i c l m;
        paints = λ k₀ a c m.
            let old = g.paints k₀ (⊎_elim (λ y. y) (λ y. absurd (none k₀ y.1 y.2)) a) c m in
            subst (λ (t : List ℕ). Painted x track₀ B k₀ c t) (sym kept.track) (repaint (pos 0) R _ _ _ (λ j. inl) back old);
      }

  -- packet k
  module _ (k : ℕ) (p : IsPacket x is e k) where
    reads_now : ReadAs x k e.datagram
    reads_now = rw p.heard.bytes (w.reads k p.heard.below)

    joins_now : answer b e ≡ Accepted → joins A k
    joins_now a = joined w reads_now R g.ordered g.stands (rw p.heard.from at (accepts_exactly.0 a))

    -- where it joins, it is accepted, and laid behind the first
    module _ (j : joins A k) where
      followable : Followable b.take x.address e.datagram R
      followable = followed w reads_now R g.ordered g.stands j

      accepted : answer b e ≡ Accepted
      accepted = accepts_exactly.1 (rw p.heard.from followable)

      abbrev slots : ℕ → ℕ → ℕ
      slots = packet_slot (format_of x.header.format) e.datagram header_size x.header.channels

      abbrev count : ℕ
      count = s.count k

      abbrev laid : List ℕ
      laid = laid_of b.track (place b e) count slots

      track_is : (follows b e).track ≡ laid
      track_is = (takes b e accepted).track ∙ subst (λ (y : Header). laid_by y e.datagram (place b e) b.track ≡ laid) (sym reads_now.header) refl

      placed_at : (k₀ : ℕ) → B.earliest k₀ → place b e ≡ s.from k - s.from k₀
      placed_at = placed w reads_now R g.ordered g.stands is p.this p.only j

      room : place b e + count ≤ R
      room = omega (arith, followable.fits, ap (λ (y : Header). y.frames) reads_now.header)

      in_track : place b e * record_bytes + count * record_bytes ≤ length b.track
      in_track = omega (arith, room, held)

      slot_below : (o c : ℕ) → o < count → slots o c < 2 ^ 24
      slot_below o c l = rw p.heard.bytes (w.below k o c p.heard.below l)

      slot_shown : (o c : ℕ) → o < count → c < 8 → signed_of 24 (slots o c) ≡ x.number (s.from k + o) c
      slot_shown o c l m = rw p.heard.bytes (w.shown k o c p.heard.below l m)

      -- slot c of the records laid, at a place
      abbrev LaidAt : ℕ → ℕ → Type 0
      LaidAt at c =
          Laid (pos 0) R at count (λ o. x.number (s.from k + o) c) (λ i. slot_number b.track i c) (λ i. slot_number laid i c)

      slots_laid : (c : ℕ) → c < 8 → LaidAt (place b e) c
      slots_laid c m = record {
        inside = λ i l v.
            let o : i - place b e < count = omega (arith, v.0, v.1) in
            ap (signed_of 24) (laid_slot b.track (place b e) count slots in_track i c v.0 v.1 m (slot_below (i - place b e) c o))
            ∙ slot_shown (i - place b e) c o m;
        outside = λ i l n. elim (dec_lt i (place b e)) [
          | yes v ↦ ap (signed_of 24) (slot_before b.track (place b e) count slots in_track i c v m)
          | no v ↦ ap (signed_of 24) (slot_after b.track (place b e) count slots in_track i c (past i n v))
        ];
      }
        where
          past : (i : ℕ) → (Within (place b e) count i → ⊥) → (i < place b e → ⊥) → place b e + count ≤ i
          past i n v = elim (dec_lt i (place b e + count)) [ yes u ↦ absurd (n (omega arith, u)) | no u ↦ omega arith ]

      -- packets of a schedule lie apart
      lies_apart : (k₀ i m : ℕ) → A.taken m → k₀ ≤ m → k₀ ≤ k
          → Within (s.from m - s.from k₀) (s.count m) i → Within (s.from k - s.from k₀) count i → ⊥
      lies_apart k₀ i m a l n u v =
          let f = from_rises w.divides k₀ m l (g.sent m a) in
          let h = from_rises w.divides k₀ k n p.heard.below in
          elim (dec_lt m k) [
            | yes q ↦ omega (arith, apart w.divides m k q p.heard.below, u.1, v.0)
            | no q ↦ omega (arith, apart w.divides k m (before m a q) (g.sent m a), u.0, v.1)
          ]
        where
          before : (m : ℕ) → A.taken m → (m < k → ⊥) → k < m
          before m a q = elim (dec_lt k m) [ yes r ↦ r | no r ↦ absurd (fresh m k a j (omega arith)) ]

      joins_alone : JoinsAlone joins A is k
      joins_alone = record { this = p.this; only = p.only; joined = j }

      ordered_now : Ordered B
      ordered_now = hears_ordered joins A is (inl (k, joins_alone)) g.ordered later

      -- the frames of packet k, painted on what lay there
      painted_now : (k₀ : ℕ) → B.earliest k₀ → (c : ℕ) → c < 8 → Painted x track₀ A k₀ c b.track → Painted x track₀ B k₀ c laid
      painted_now k₀ a c m old =
          let lowest : (n : ℕ) → B.taken n → k₀ ≤ n = λ n t. ordered_now.is_lowest k₀ n a t in
          repaint (pos 0) R _ _ _
          (λ n. ⊎_elim inl (λ q. inr (rw q (p.this, j))))
          (λ n. ⊎_elim inl (λ y. inr (p.only n y.0)))
          (paint (pos 0) R (λ n. s.from n - s.from k₀) s.count (λ n o. x.number (s.from n + o) c) k
          (subst (λ (y : ℕ). LaidAt y c) (placed_at k₀ a) (slots_laid c m)) (λ i n t. lies_apart k₀ i n t (lowest n (inl t)) (lowest k (inr (p.this, j)))) old)

      accepted_good : Good x track₀ B (follows b e)
      accepted_good = record {
        sized = ap length track_is ∙ laid_length b.track (place b e) count slots in_track ∙ g.sized;
        stands = inr (rw (takes b e accepted).take
            (next w reads_now R g.ordered g.stands is p.this p.only j));
        ordered = ordered_now;
        settled = hears_settled joins A is (inl (k, joins_alone)) g.settled;
        sent = λ n. ⊎_elim (g.sent n) (λ y. rw (p.only n y.0) p.heard.below);
        rest = λ n l. ap (λ (t : List ℕ). byte t n) track_is ∙ laid_after b.track (place b e) count slots in_track n (omega (arith, room)) ∙ g.rest n l;
        silent = λ n. absurd (n k (inr (p.this, j)));
        paints = λ k₀ a c m.
            subst (λ (t : List ℕ). Painted x track₀ B k₀ c t) (sym track_is)
            (painted_now k₀ a c m (⊎_elim
            (λ y. g.paints k₀ y c m)
            (λ y. unpainted (pos 0) R _ _ _ y.0 (λ i l. g.silent y.0 i c l m))
            a));
      }

  -- the box accepts no datagram but audio of the sender's name and address
  stranger : (Audio x e → ⊥) → answer b e ≡ Accepted → ⊥
  stranger n a =
      let f = accepts_exactly.0 a in
      n (record {
        read = (read_accepted_exactly e.datagram).1 f.readable;
        name = same_name x g.stands f.ours;
        address = same_address x g.stands f.ours;
      })

  pub step : Arrives x is e → Good x track₀ B (follows b e)
  step = ⊎_elim packet (λ n. refused_good (stranger n.1) (λ m a q. n.0 m a))
    where
      packet : (k : ℕ) × IsPacket x is e k → Good x track₀ B (follows b e)
      packet (k, p) = elim (ℕ_discrete (number_of (answer b e)) 0) [
        | yes q ↦ accepted_good k p (joins_now k p (accepts (answer b e) (number_of (answer b e)) refl q))
        | no q ↦
            let z : answer b e ≡ Accepted → ⊥ = λ a. q (ap number_of a) in
            refused_good z (λ m a y. z (accepted k p (rw (p.only m a) at y)))
      ]

  -- ---- what is told

  refused_told : (n : ℕ) → (n ≡ 0 → ⊥) → number_of (answer b e) ≡ n → Tells n 0 0 0 (tells_of b e)
  refused_told n z q =
      rw (tells_of, follow_refused b.take e.address e.datagram b.track (λ a. z (sym q ∙ ap number_of a))) (q, refl, refl, refl)

  same_number : number_of (tells_of b e).answer ≡ number_of (answer b e)
  same_number = ap number_of (told_answer b.take e.address e.datagram b.track)

  other_told : (answer b e ≡ Accepted → ⊥) → (number_of (tells_of b e).answer ≡ 0 → ⊥) × Tells (number_of (tells_of b e).answer) 0 0 0 (tells_of b e)
  other_told z =
      let n : number_of (tells_of b e).answer ≡ 0 → ⊥ = λ q. z (accepts (answer b e) _ refl (sym same_number ∙ q)) in
      (n, refused_told (number_of (tells_of b e).answer) n (sym same_number))

  module _ (k : ℕ) (p : IsPacket x is e k) where
    reads_as : ReadAs x k e.datagram
    reads_as = reads_now k p

    accepted_told : joins A k → (place' skipped : ℕ) → place b e ≡ place' → skipped_of b.take (header_of e.datagram) ≡ skipped
        → Tells 0 place' (s.count k) skipped (tells_of b e)
    accepted_told j place' skipped q r =
        rw (tells_of, follow_accepted b.take e.address e.datagram b.track (accepted k p j)) (refl, q, ap (λ (y : Header). y.frames) reads_as.header, r)

    -- a number that the box gives to the sender's packets, in the terms of its opening
    number_told_now : (n : ℕ) → (n ≡ 0 → ⊥) → number_of (answer_of b.take x.address e.datagram R) ≡ n → Tells n 0 0 0 (tells_of b e)
    number_told_now n z q = refused_told n z (rw (held, p.heard.from) q)

    -- whatever is said of packet k holds of the packet that the event is
    at_packet : (P : ℕ → Type 0) → P k → (j : ℕ) → is j → P j
    at_packet P q j i = subst P (sym (p.only j i)) q

    first_told : joins A k → ((j : ℕ) → A.taken j → ⊥) → Tells 0 0 (s.count k) 0 (tells_of b e)
    first_told j none =
        accepted_told j 0 0 (placed_at k p j k (inr (none, p.this, j)) ∙ omega arith)
        (⊎_elim (λ y. skipped_first w reads_as R g.ordered g.stands y.1) (λ (st : Stands x A b.take). absurd (none st.newest st.is_in)) g.stands)

    next_told : (k₀ m : ℕ) → joins A k → A.earliest k₀ → Newest A m → Tells 0 (s.from k - s.from k₀) (s.count k) (k - m - 1) (tells_of b e)
    next_told k₀ m j a new =
        accepted_told j (s.from k - s.from k₀) (k - m - 1) (placed_at k p j k₀ (inl a))
        (⊎_elim (λ y. absurd (y.0 m new.0))
        (λ (st : Stands x A b.take).
        skipped_next w reads_as R g.ordered g.stands st (j.newer st.newest st.is_in) ∙ omega (arith, new.1 st.newest st.is_in, st.is_newest m new.0))
        g.stands)

    beyond_told : ((m : ℕ) → A.taken m → m < k) → (Fits s R A k → ⊥) → Tells 15 0 0 0 (tells_of b e)
    beyond_told newer z = number_told_now 15 (λ q. omega arith) (⊎_elim
        (λ y. first_refused w reads_as R g.ordered g.stands y.1
        (λ f. z (record { alone = f; behind = λ k₀ a. absurd (y.0 k₀ (g.ordered.is_taken k₀ a)) })))
        (λ (st : Stands x A b.take).
        beyond_refused w reads_as R g.ordered g.stands st (newer st.newest st.is_in)
        (λ f. z (record { alone = omega arith; behind = λ k₀ a. rw (g.ordered.is_one k₀ st.earliest a st.is_earliest) f })))
        g.stands)

    -- a packet that is not newer, by what the first one is
    module _ (k₀ m : ℕ) (a : A.earliest k₀) (t : A.taken m) (l : k ≤ m) where
      by_first : (n : ℕ) → (n ≡ 0 → ⊥)
          → ((st : Stands x A b.take) → st.earliest ≡ k₀ → k ≤ st.newest → number_of (answer_of b.take x.address e.datagram R) ≡ n)
          → Tells n 0 0 0 (tells_of b e)
      by_first n z f = number_told_now n z (⊎_elim
          (λ y. absurd (y.0 m t))
          (λ (st : Stands x A b.take). f st (g.ordered.is_one st.earliest k₀ st.is_earliest a) (omega (arith, l, st.is_newest m t)))
          g.stands)

      late_told : s.count k ≤ s.count k₀ → Tells 14 0 0 0 (tells_of b e)
      late_told q = by_first 14 (λ z. omega arith) (λ st f n. late_refused w reads_as R g.ordered g.stands st n (rw f q))

      longer_told : s.count k₀ < s.count k → Tells 13 0 0 0 (tells_of b e)
      longer_told q = by_first 13 (λ z. omega arith) (λ st f n. longer_refused w reads_as R g.ordered g.stands st (rw f q))

    packet_answered : Answered s R A is (tells_of b e)
    packet_answered = record {
      joins = (
        (λ q. (k, (p.this, joins_now k p (accepts (answer b e) _ refl (sym same_number ∙ q))))),
        (λ y. same_number ∙ ap number_of (accepted k p (rw (p.only y.0 y.1.0) at y.1.1))),
      );
      first = at_packet (λ j. joins A j → ((m : ℕ) → A.taken m → ⊥) → Tells 0 0 (s.count j) 0 (tells_of b e)) first_told;
      next = λ j k₀ m i. at_packet
          (λ n. joins A n → A.earliest k₀ → Newest A m → Tells 0 (s.from n - s.from k₀) (s.count n) (n - m - 1) (tells_of b e)) (next_told k₀ m) j i;
      beyond = at_packet (λ j. ((m : ℕ) → A.taken m → m < j) → (Fits s R A j → ⊥) → Tells 15 0 0 0 (tells_of b e)) beyond_told;
      late = λ j k₀ m i a t. at_packet (λ n. n ≤ m → s.count n ≤ s.count k₀ → Tells 14 0 0 0 (tells_of b e)) (late_told k₀ m a t) j i;
      longer = λ j k₀ m i a t. at_packet (λ n. n ≤ m → s.count k₀ < s.count n → Tells 13 0 0 0 (tells_of b e)) (longer_told k₀ m a t) j i;
      other = λ n. absurd (n k p.this);
    }

  pub answered : Arrives x is e → Answered s R A is (tells_of b e)
  answered = ⊎_elim (λ y. packet_answered y.0 y.1) (λ n.
      let none = other_told (stranger n.1) in
      record {
        joins = ((λ q. absurd (none.0 q)), (λ y. absurd (n.0 y.0 y.1.0)));
        first = λ k i. absurd (n.0 k i);
        next = λ k k₀ m i. absurd (n.0 k i);
        beyond = λ k i. absurd (n.0 k i);
        late = λ k k₀ m i. absurd (n.0 k i);
        longer = λ k k₀ m i. absurd (n.0 k i);
        other = λ i. none;
      })

-- ---- every history

module _ {x : Sender} (w : Sends x) (tally : Tally) (name : List ℕ) (short : length name ≤ 16) (same : name_of name ≡ name_of x.header.name)
    (track₀ : List ℕ) where
  abbrev box : Box
  box = opened name x.address tally track₀

  good_name_is : GoodName name
  good_name_is = let n = w.formed.named in record { some = rw same n.some; few = rw same n.few; each = rw same n.each }

  kept_same : unbegun name x.address ≡ unbegun x.header.name x.address
  unfolding kept_name
  kept_same = rw same

  open_good : Good x track₀ nothing box
  open_good =
      let o = open_accepted name x.address short good_name_is track₀ in
      record {
        sized = ap length o.1 ∙ cleared_length track₀;
        stands = inl ((λ j a. a), ap (λ r. r.take) o.0 ∙ kept_same);
        ordered = nothing_ordered;
        settled = nothing_settled;
        sent = λ j a. absurd a;
        rest = λ j l. ap (λ (t : List ℕ). byte t j) o.1 ∙ cleared_rest track₀ j l;
        silent = λ n i c l m. ap (λ (t : List ℕ). slot_number t i c) o.1 ∙ ap (signed_of 24) (cleared_slot track₀ i c l m) ∙ silence;
        paints = λ k₀ a. absurd a;
      }

  pub good : (which : List (ℕ → Type 0)) (past : List Event) → Arrive x which past
      → Good x track₀ (took_after (Joins x.schedule (records_held track₀)) which) (after box past)
  good [] [] v = open_good
  good [] (e ∷ past) v = absurd v
  good (is ∷ which) [] v = absurd v
  good (is ∷ which) (e ∷ past) v = step w track₀ _ (after box past) e is (good which past v.1) v.0

-- ---- what the track shows

module _ {x : Sender} (w : Sends x) (track₀ : List ℕ) (A : Took) (b : Box) (g : Good x track₀ A b) where
  pub shows : RecordedOf x A track₀ b.track
  shows = record {
    same_length = g.sized;
    slots = λ c m. record {
      none = λ n i l. g.silent n i c l m;
      begun = λ k₀ a.
          let rises : (j : ℕ) → A.taken j → x.schedule.from k₀ ≤ x.schedule.from j
          = λ j t. from_rises w.divides k₀ j (g.ordered.is_lowest k₀ j a t) (g.sent j t) in
          let p = g.paints k₀ a c m in
          record {
            accepted = λ i j l t u.
                let q = rises j t in
                let v = u.begins in
                let z = u.ends in
                let e : x.schedule.from j + (i - (x.schedule.from j - x.schedule.from k₀)) ≡ x.schedule.from k₀ + i = omega arith in
                p.painted i j l t (omega arith, omega arith) ∙ ap (λ (y : ℕ). x.number y c) e;
            other = λ i l n. p.blank i l (λ j t u.
                let q = rises j t in
                n j t (record { below = g.sent j t; begins = omega arith; ends = omega arith }));
          };
    };
    rest = g.rest;
  }
