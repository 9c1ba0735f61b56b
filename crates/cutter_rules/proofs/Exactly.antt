-- Cutting answers as the paper's rules say.
use mathlib.Core.Path.{◌≡◌, refl}
use mathlib.Core.Logic.{◌↔◌}
use mathlib.Core.Bool.{false}
use mathlib.Core.List.{List, [], ◌∷◌}
use Prim.Native.Nat.{ℕ, ◌+◌, ◌*◌, ◌%◌, ◌^◌, ◌≤◌, ◌<◌, zero-le}
use native.Mathlib.Omega.{arith}
use lib.Dec.{ltb, leb, eqb}
use lib.ListN.{length}
use borrow.Author.Tests.{ltb-false, le-ltb, leb-false, lt-leb, eqb-true, eqb-false, ne_eqb}
use Rattle.lists.specs.Lists.{put}
use Rattle.lists.specs.Tables.{choose, NoneRefuses}
use Rattle.lists.specs.Rules.{numbers_of, AllHold, FirstBroken}
use Rattle.lists.proofs.Tables.{by_test, like_by, none_holds, none_says, passes_exactly}
use Rattle.lists.proofs.Rules.{Judges, judged, judged_unlike, none_answers, all_hold_exactly, first_broken_exactly}
use Rattle.answers.specs.declared.Made.{Made}
use Rattle.answers.specs.declared.Made.TheVariants.{Done}
use Rattle.answers.specs.Numbers.{number_made}
use Rattle.answers.proofs.Numbers.{made_told}
use Rattle.wire_rules.specs.declared.Header.{Header}
use Rattle.wire_rules.specs.Header.{data_size, header_size}
use Rattle.formats.specs.Formats.{size_at}
use Rattle.wire_rules.specs.Write.{bad_form, GoodForm}
use Rattle.wire_rules.proofs.Writing.{form_by, by_form, write_judges}
use Rattle.track_rules.specs.Records.{records_held, record_bytes}
use Rattle.cutter_rules.specs.Schedule.{Schedule}
use Rattle.cutter_rules.specs.Largest.{largest_frames}
use Rattle.cutter_rules.specs.Cut.{cut_schedule, packet_header, cut_packet, bad_cut, bad_number, cut_rows, cut_answer, cut_of, cut_output, GoodCut, GoodNumber, Cuttable, cut_rules}
use Rattle.cutter_rules.proofs.Scheduling.{divided, equalled}
use Rattle.cutter_rules.proofs.Sizes.{largest_exactly, frame_some, never_big, packet_formed}

-- ---- each row judges its rule

module _ (h : Header) (short : length h.name ≤ 16) where
  pub cut_by : bad_cut h ≡ false → GoodCut h
  cut_by e =
      let c = none_holds (bad_form h ∷ ltb 8 h.channels ∷ ltb (largest_frames h.format h.channels) h.frames ∷ []) e in
      record { formed = form_by h short c.0; channels_few = ltb-false _ _ c.1.0; no_larger = ltb-false _ _ c.1.1.0 }

  by_cut : GoodCut h → bad_cut h ≡ false
  by_cut g =
      rw (by_form h short g.formed, le-ltb 8 h.channels g.channels_few, le-ltb (largest_frames h.format h.channels) h.frames g.no_larger)

module _ (s : Schedule) (frames k : ℕ) where
  pub number_by : bad_number s frames k ≡ false → GoodNumber s frames k
  number_by e =
      let c = none_holds (eqb frames 0 ∷ ltb (2 ^ 31) s.packets ∷ leb s.packets k ∷ []) e in
      let z : frames ≡ 0 → ⊥ = eqb-false _ _ c.0 in
      record { some = omega arith; few = ltb-false _ _ c.1.0; below = leb-false _ _ c.1.1.0 }

  by_number : GoodNumber s frames k → bad_number s frames k ≡ false
  by_number g =
      rw (ne_eqb frames 0 (λ z. omega (arith, g.some)), le-ltb (2 ^ 31) s.packets g.few, lt-leb s.packets k g.below)

-- ---- exactly when

-- every packet of a good cut has the largest N at most
pub count_few : (h : Header) (track : List ℕ) → GoodCut h → (k : ℕ) → k < (cut_schedule h track).packets
    → (cut_schedule h track).count k ≤ largest_frames h.format h.channels
count_few h track g k l = omega (arith, g.no_larger, (equalled (records_held track) h.frames g.formed.frames_few.0).no_larger k l)

module _ (h : Header) (short : length h.name ≤ 16) (track : List ℕ) (k room : ℕ) where
  judges : Judges (cut_rows h track k room) (cut_rules h track k room)
  judges =
      let s = cut_schedule h track in
      let hk = packet_header h s k in
      judged (bad_cut h) (by_cut h short) (cut_by h short)
      (judged_unlike (length track % record_bytes) 0
      (judged (bad_number s (records_held track) k) (by_number s (records_held track) k) (number_by s (records_held track) k)
      (write_judges hk short (data_size hk) room)))

  -- 20, 22 and 24, then the writer's
  pub cut_numbers : numbers_of number_made (cut_rules h track k room) ≡ 20 ∷ 22 ∷ 24 ∷ 20 ∷ 21 ∷ 22 ∷ 23 ∷ []
  cut_numbers = refl

  -- every rule in a record, and in the paper's order
  cuttable : AllHold (cut_rules h track k room) → Cuttable h track k room
  cuttable (good, (whole, (number, (_, (_, (_, (roomy, _))))))) =
      record { good = good; whole = whole; number = number; roomy = roomy }

  -- what the packet writer is handed passes its own rules, but for the room
  all_hold : Cuttable h track k room → AllHold (cut_rules h track k room)
  all_hold c =
      let s = cut_schedule h track in
      let g = c.good.formed in
      let few = count_few h track c.good k c.number.below in
      let some = (divided (records_held track) h.frames g.frames_few.0).some k c.number.below in
      (c.good, (c.whole, (c.number, (packet_formed h g s k few some, (never_big h g s k few, (refl, (c.roomy, tt)))))))

  pub cut_done_exactly : cut_answer h track k room ≡ Done ↔ Cuttable h track k room
  unfolding cut_answer
  cut_done_exactly =
      let e = all_hold_exactly Done (cut_rows h track k room) (cut_rules h track k room) judges
      (none_answers Done (cut_rows h track k room) (cut_rules h track k room) judges (none_says Done number_made (cut_rows h track k room) tt)) in
      ((λ d. cuttable (e.0 d)), (λ c. e.1 (all_hold c)))

  pub cut_refused_exactly : (a : Made) → (a ≡ Done → ⊥) → cut_answer h track k room ≡ a ↔ FirstBroken (cut_rules h track k room) a
  unfolding cut_answer
  cut_refused_exactly = first_broken_exactly Done (cut_rows h track k room) (cut_rules h track k room) judges

-- ---- what comes with the answer

module _ (h : Header) (track : List ℕ) (k : ℕ) (out : List ℕ) where
  pub cut_answer_is : (cut_of h track k out).answer ≡ cut_answer h track k (length out)
  unfolding cut_of
  cut_answer_is = refl

  module _ (a : Made) (e : a ≡ cut_answer h track k (length out)) where
    pub done_gives : a ≡ Done → cut_of h track k out ≡ record { answer = a; length = header_size + data_size (packet_header h (cut_schedule h track) k) }
    unfolding cut_of
    done_gives d = rw (← e, d)

    pub done_output : a ≡ Done → cut_output h track k out ≡ put out 0 (cut_packet h track k)
    unfolding cut_output
    done_output d = rw (← e, d)

    -- a refusal gives a zero length and leaves the output
    module _ (other : a ≡ Done → ⊥) where
      refusal_number : eqb (number_made a) 0 ≡ false
      refusal_number = ne_eqb (number_made a) 0 (λ z. other (made_told a Done z))

      pub refused_gives : cut_of h track k out ≡ record { answer = a; length = 0 }
      unfolding cut_of
      refused_gives = rw (← e, refusal_number)

      pub refused_output : cut_output h track k out ≡ out
      unfolding cut_output
      refused_output = rw (← e, refusal_number)

-- what is written lies within the output
pub cut_within : (h : Header) (track : List ℕ) (k : ℕ) (out : List ℕ) → length h.name ≤ 16 → (cut_of h track k out).length ≤ length out
unfolding cut_of
cut_within h track k out short =
    let a = cut_answer h track k (length out) in
    let size = header_size + data_size (packet_header h (cut_schedule h track) k) in
    by_test (λ b. choose b size 0 ≤ length out) (eqb (number_made a) 0)
    (λ t. ((cut_done_exactly h short track k (length out)).0 (made_told a Done (eqb-true _ _ t))).roomy) (λ t. zero-le)

-- ---- what is not refused

-- a header of good form whose channels have slots, and whose packets are small enough, can be cut
pub cut_formed : (h : Header) → GoodForm h → h.channels * 3 ≤ 24 → h.frames * (h.channels * size_at h.format) ≤ 1436 → GoodCut h
cut_formed h g c l = record {
  formed = g;
  channels_few = omega arith;
  no_larger = (largest_exactly h.format h.channels h.frames (frame_some h g)).1 (g.frames_few.1, l);
}

-- 2,147,483,648 packets are not too many
pub number_few : (s : Schedule) (frames k : ℕ) → 1 ≤ frames → s.packets ≤ 2147483648 → k < s.packets → GoodNumber s frames k
number_few s frames k a b c = record { some = a; few = omega arith; below = c }

-- a track that is cut is whole records
pub cut_whole : (h : Header) (track : List ℕ) (k room : ℕ) → cut_answer h track k room ≡ Done → records_held track * 24 ≡ length track
unfolding cut_answer
cut_whole h track k room e =
    let rows = cut_rows h track k room in
    let p : NoneRefuses rows = (passes_exactly Done rows (none_says Done number_made rows tt)).0 e in
    let whole : length track % record_bytes ≡ 0 = like_by _ _ p.1.0 in
    omega arith
