-- Packets of one cut are answered alike: the first is the largest.
use mathlib.Core.Path.{◌≡◌}
use mathlib.Core.Logic.{◌↔◌}
use mathlib.Core.List.{List}
use Prim.Native.Nat.{ℕ, ◌≤◌, ◌<◌}
use native.Mathlib.Nat.{mul-le-mul_right}
use native.Mathlib.Omega.{arith}
use lib.ListN.{length}
use Rattle.answers.specs.declared.Made.TheVariants.{Done}
use Rattle.formats.specs.Formats.{size_at}
use Rattle.wire_rules.specs.declared.Header.{Header}
use Rattle.wire_rules.specs.Header.{data_size}
use Rattle.track_rules.specs.Records.{records_held}
use Rattle.cutter_rules.specs.Cut.{cut_schedule, packet_header, cut_answer}
use Rattle.cutter_rules.proofs.Scheduling.{packet_exactly}
use Rattle.cutter_rules.proofs.Exactly.{cut_done_exactly}

module _ (h : Header) (track : List ℕ) where
  no_larger : (k : ℕ) → data_size (packet_header h (cut_schedule h track) k) ≤ data_size (packet_header h (cut_schedule h track) 0)
  no_larger k =
      let l : (cut_schedule h track).count k ≤ (cut_schedule h track).count 0 = omega arith in
      mul-le-mul_right (size_at h.format) (mul-le-mul_right h.channels l)

  module _ (short : length h.name ≤ 16) (room : ℕ) where
    pub each_as_first : cut_answer h track 0 room ≡ Done → (k : ℕ) → k < (cut_schedule h track).packets → cut_answer h track k room ≡ Done
    each_as_first e k l =
        let c = (cut_done_exactly h short track 0 room).0 e in
        let n = c.number in
        (cut_done_exactly h short track k room).1 (record {
          good = c.good;
          whole = c.whole;
          number = record { some = n.some; few = n.few; below = l };
          roomy = omega (arith, no_larger k, c.roomy);
        })

    -- with frames to send, the first packet is cut exactly when every packet is
    pub first_for_all : 1 ≤ h.frames → 1 ≤ records_held track
        → cut_answer h track 0 room ≡ Done ↔ ((k : ℕ) → k < (cut_schedule h track).packets → cut_answer h track k room ≡ Done)
    first_for_all n t = (each_as_first, (λ all. all 0 ((packet_exactly (records_held track) h.frames n 0).1 (omega arith))))
