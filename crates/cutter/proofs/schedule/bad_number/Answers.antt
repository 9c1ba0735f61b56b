-- Products in place of the number of packets.
use Rattle.std.proofs.Common.{◌≡◌, ℕ, ◌+◌, ◌-◌, ◌*◌, ◌<◌, ◌≤◌, Bool, true, false, leb, refl, sym, ◌∙◌, arith, le-ltb, lt-ltb, eq-eqb, ne_eqb, le-leb}
use native.Mathlib.Nat.{div-zero}
use native.Mathlib.Decide.{dec_lt}
use lib.Dec.{leb-zero}
use borrow.Author.Tests.{lt-leb, ltb-true, ltb-false, eqb-false}
use Rattle.lists.specs.Tables.{choose}
use Rattle.cutter_rules.specs.Schedule.{schedule_of}
use Rattle.cutter_rules.specs.Cut.{bad_number}
use Rattle.cutter_rules.proofs.Scheduling.{packet_exactly}
use Rattle.cutter.proofs.schedule.bad_number.Goals as goal
use Rattle.cutter.proofs.schedule.bad_number.Goals.{then-frames-eq0, else-frames-eq0}

whole : (b : Bool) → b ≡ choose b true false
whole true = refl
whole false = refl

-- at most m packets, exactly where packet m would begin at the track's end or after it
module _ (frames n m : ℕ) (some : 0 < n) where
  few : frames ≤ m * n → (schedule_of frames n).packets ≤ m
  few l =
      elim (dec_lt m (schedule_of frames n).packets) [ yes g ↦ absurd (omega (arith, (packet_exactly frames n some m).0 g)) | no g ↦ omega arith ]

  same_test : leb frames (m * n) ≡ leb (schedule_of frames n).packets m
  same_test =
      let p = (schedule_of frames n).packets in
      elim (dec_lt (m * n) frames) [
        | yes g ↦ rw (lt-leb frames (m * n) g, lt-leb p m ((packet_exactly frames n some m).1 g))
        | no g ↦ rw (le-leb frames (m * n) (omega arith), le-leb p m (few (omega arith)))
      ]

module _ (frames n k : ℕ) where
  no_frames : frames ≡ 0 → true ≡ bad_number (schedule_of frames n) frames k
  no_frames z = rw (eq-eqb frames 0 z)

  module _ (h : frames ≡ 0 → ⊥) (end : ℕ) (e : end ≡ 2147483648 * n) where
    -- at an N of 0 there is no packet, and k is not below their number
    too_many : end < frames → true ≡ bad_number (schedule_of frames n) frames k
    too_many l =
        elim (dec_lt 0 n) [
          | yes some ↦ rw (ne_eqb frames 0 h, lt-ltb 2147483648 (schedule_of frames n).packets ((packet_exactly frames n some 2147483648).1 (omega arith)))
          | no g ↦
              let z : n ≡ 0 = omega arith in
              rw (ne_eqb frames 0 h, z, div-zero (frames + (0 - 1)), leb-zero k)
        ]

    by_number : frames ≤ end → (from : ℕ) → from ≡ k * n → leb frames from ≡ bad_number (schedule_of frames n) frames k
    by_number l from f =
        let some : 0 < n = omega arith in
        rw (f, ne_eqb frames 0 h, le-ltb 2147483648 (schedule_of frames n).packets (few frames n 2147483648 some (omega arith)), same_test frames n k some)
        (whole (leb (schedule_of frames n).packets k))

pub returns-then-frames-from : goal.returns-then-frames-from
returns-then-frames-from c =
    let t = c.if-frames-from.true in
    elim c.if-frames-eq0.branch [
      | then-frames-eq0 w ↦ t ∙ no_frames c.args.frames c.args.n c.args.k w.if-frames-eq0.true
      | else-frames-eq0 w ↦
          t ∙ too_many c.args.frames c.args.n c.args.k w.if-frames-eq0.false _ w.from.ensures (ltb-true _ _ (sym w.value-is ∙ t))
    ]

pub returns-else-frames-from : goal.returns-else-frames-from
returns-else-frames-from c =
    let t = c.if-frames-from.false in
    elim c.if-frames-eq0.branch [
      | then-frames-eq0 w ↦ absurd (eqb-false _ _ (sym w.value-is ∙ t) w.if-frames-eq0.true)
      | else-frames-eq0 w ↦
          by_number c.args.frames c.args.n c.args.k w.if-frames-eq0.false _ w.from.ensures (ltb-false _ _ (sym w.value-is ∙ t)) _ c.from-else-frames-from.ensures
    ]
