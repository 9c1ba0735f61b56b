-- A record of a datagram that fits has 1,472 bytes, and so has that of every packet that is cut.
use mathlib.Core.Path.{◌≡◌}
use mathlib.Core.List.{List}
use Prim.Native.Nat.{ℕ, ◌≤◌}
use native.Mathlib.Nat.{le_of_eq}
use native.Mathlib.Omega.{arith}
use lib.ListN.{length, length-append, length-replicate}
use Rattle.lists.proofs.Little.{bytes_length}
use Rattle.answers.specs.declared.Made.TheVariants.{Done}
use Rattle.wire_rules.specs.declared.Header.{Header}
use Rattle.cutter_rules.specs.Cut.{cut_schedule, cut_answer, cut_packet}
use Rattle.cutter_rules.proofs.Exactly.{cut_done_exactly}
use Rattle.cutter_rules.proofs.Packets.{packet_length}
use Rattle.wire_rules.specs.Header.{datagram_most}
use Rattle.capture_rules.specs.Records.{record_size, capture_record}

pub record_length : (address : ℕ) (d : List ℕ) → length d ≤ datagram_most → length (capture_record address d) ≡ record_size
unfolding capture_record
record_length address d h = simp (length-append, length-replicate, bytes_length) (omega arith)

pub cut_length : (h : Header) (track : List ℕ) (k address : ℕ) → length h.name ≡ 16 → cut_answer h track k datagram_most ≡ Done
    → length (capture_record address (cut_packet h track k)) ≡ record_size
cut_length h track k address sixteen done =
    let fits = ((cut_done_exactly h (le_of_eq sixteen) track k datagram_most).0 done).roomy in
    record_length address (cut_packet h track k) (rw (packet_length h (cut_schedule h track) track k sixteen) fits)
