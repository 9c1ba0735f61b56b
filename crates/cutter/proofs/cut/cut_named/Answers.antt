-- A refusal, or the packet.
use Rattle.std.proofs.Common.{◌≡◌, ℕ, ◌+◌, ◌*◌, ◌≤◌, List, length, Ok, Err, sym, refl, ap, ◌∙◌, le_of_eq, rules}
use Rattle.lists.specs.Lists.{put}
use Rattle.answers.specs.declared.Made.{Made}
use Rattle.answers.specs.declared.Made.TheVariants.{Done}
use Rattle.answers.specs.Numbers.{number_made}
use Rattle.wire_rules.specs.declared.Header.{Header}
use Rattle.wire_rules.specs.Header.{data_size, header_size}
use Rattle.wire_rules.specs.Write.{packet_of, GoodForm}
use Rattle.track_rules.specs.Records.{records_held}
use Rattle.cutter_rules.specs.Schedule.{Schedule, schedule_of}
use Rattle.cutter_rules.specs.Cut.{cut_schedule, packet_header, taken_by, packet_by, cut_rows, cut_answer, cut_of, cut_output, Cuttable}
use Rattle.cutter_rules.proofs.Scheduling.{divided, within_track}
use Rattle.cutter_rules.proofs.Sizes.{packet_formed}
use Rattle.cutter_rules.proofs.Exactly.{count_few, cut_done_exactly, done_gives, done_output, refused_gives, refused_output}
use borrow.Author.Tests.{eqb-false}
use Rattle.writer.specs.Checks.{passing}
use Rattle.writer.proofs.Passing.{passes_done, refuses_made}
use Rattle.cutter.proofs.cut.cut_named.Goals as goal

-- a packet's name is the header's
packet_named : (h : Header) (k frames : ℕ) (hk : Header) → hk ≡ packet_header h (schedule_of frames h.frames) k
    → (name : List ℕ) → name ≡ h.name → name ≡ hk.name
packet_named h k frames hk m name n = n ∙ sym (ap (λ (x : Header). x.name) m)

module _ (h : Header) (track : List ℕ) (k : ℕ) (out : List ℕ) (n : ℕ) where
  refused : (a : Made) → Err a ≡ passing n (cut_rows h track k (length out))
      → (record { answer = a; length = 0 } ≡ cut_of h track k out) × (out ≡ cut_output h track k out)
  unfolding cut_answer
  refused a e =
      let r = refuses_made n (cut_rows h track k (length out)) a tt e in
      let o : a ≡ Done → ⊥ = λ d. eqb-false (number_made a) 0 r.1 (ap number_made d) in
      (sym (refused_gives h track k out a (sym r.0) o), sym (refused_output h track k out a (sym r.0) o))

  module _ (named : ℕ) (e : Ok named ≡ passing n (cut_rows h track k (length out))) where
    done : Done ≡ cut_answer h track k (length out)
    unfolding cut_answer
    done = sym (passes_done n (cut_rows h track k (length out)) named e).0

    name_length : named ≡ n
    name_length = (passes_done n (cut_rows h track k (length out)) named e).1

    module _ (t : ℕ) (p : t ≡ records_held track) (hk : Header) (m : hk ≡ packet_header h (schedule_of t h.frames) k)
        (from : ℕ) (f : from ≡ k * h.frames) where
      abbrev s : Schedule
      s = cut_schedule h track

      is_packet : hk ≡ packet_header h s k
      is_packet = m ∙ rw p

      module _ (sixteen : length h.name ≡ 16) where
        kept_rules : Cuttable h track k (length out)
        kept_rules = (cut_done_exactly h (le_of_eq sixteen) track k (length out)).0 (sym done)

        good_form : GoodForm hk
        good_form =
            let r = kept_rules in
            let g = r.good.formed in
            rw is_packet (packet_formed h g s k (count_few h track r.good k r.number.below)
            ((divided (records_held track) h.frames g.frames_few.0).some k r.number.below))

        in_range : (hk.channels ≤ 8) × (from + hk.frames ≤ records_held track) × (header_size + data_size hk ≤ length out)
        in_range =
            let r = kept_rules in
            let d = divided (records_held track) h.frames r.good.formed.frames_few.0 in
            rw (is_packet, f) (r.good.channels_few, within_track d k r.number.below, r.roomy)

      written : (o : List ℕ) (size : ℕ) → size ≡ data_size hk
          → o ≡ put out 0 (packet_of hk (taken_by hk track from))
          → (record { answer = Done; length = header_size + size } ≡ cut_of h track k out) × (o ≡ cut_output h track k out)
      unfolding packet_by
      written o size u w = (
        ap (λ (l : ℕ). record { answer = Done; length = header_size + l }) (u ∙ rw is_packet) ∙ sym (done_gives h track k out Done done refl),
        w ∙ rw (is_packet, f) (sym (done_output h track k out Done done refl)),
      )

pub invariant_of-named : goal.invariant_of-named
invariant_of-named c =
    let e = sym c.in-Ok.is ∙ c.check.ensures in
    record { counted = rw c.requires (name_length c.args.h c.args.track.now c.args.k c.args.out.now _ _ e) }

pub emit-requires : goal.emit-requires
emit-requires c =
    let sixteen : length c.args.h.name ≡ 16 = search rules in
    let e = sym c.in-Ok.is ∙ c.check.ensures in
    record {
      name_value = search packet_named;
      good_form = good_form c.args.h c.args.track.now c.args.k c.args.out.now _ _ e _ c.held.ensures _ c.packet_header-hk.ensures _ c.from-from.ensures sixteen;
      channels_bound = in_range c.args.h c.args.track.now c.args.k c.args.out.now _ _ e _ c.held.ensures _ c.packet_header-hk.ensures _ c.from-from.ensures sixteen;
    }

pub returns-in-Ok : goal.returns-in-Ok
returns-in-Ok c =
    let e = sym c.in-Ok.is ∙ c.check.ensures in
    let r =
    written c.args.h c.args.track.now c.args.k c.args.out.now _ _ e _ c.held.ensures _ c.packet_header-hk.ensures _ c.from-from.ensures _ _ c.data_size.ensures c.emit.ensures in
    record { answer = r.0; output = r.1 }

pub returns-in-Err : goal.returns-in-Err
returns-in-Err c =
    let r = refused c.args.h c.args.track.now c.args.k c.args.out.now _ _ (sym c.in-Err.is ∙ c.check.ensures) in
    record { answer = r.0; output = r.1 }
