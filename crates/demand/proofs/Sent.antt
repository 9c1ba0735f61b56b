-- Our sender is such a sender: what the box reads and lays of the cutter's packets, by the cutter's laws.
use mathlib.Core.Path.{◌≡◌, sym, ap, ◌∙◌}
use mathlib.Core.Bool.{true}
use mathlib.Core.List.{List}
use Prim.Native.Nat.{ℕ, ◌+◌, ◌^◌, ◌<◌}
use native.Mathlib.Nat.{le_of_eq}
use lib.Dec.{ltb, lit<}
use lib.IntN.{ℤ, pos}
use lib.ListN.{length}
use Rattle.lists.specs.Lists.{byte}
use Rattle.lists.specs.Tables.{choose}
use Rattle.lists.proofs.Tables.{by_test}
use Rattle.formats.specs.declared.Integer.TheVariants.{Signed24}
use Rattle.formats.specs.declared.Format.{Format}
use Rattle.formats.specs.Formats.{format_of, has}
use Rattle.sample_rules.specs.Convert.{carried}
use Rattle.sample_rules.specs.Bits.{signed_of, bits_of}
use Rattle.sample_rules.proofs.Bits.{bits_sample, bits_below, sample_has, carried_has}
use Rattle.wire_rules.specs.declared.Header.{Header}
use Rattle.wire_rules.proofs.Reading.{read_accepted_exactly, read_accepted_fields}
use Rattle.track_rules.specs.Records.{records_held, slot_number, packet_slot}
use Rattle.track_rules.proofs.Laws.{slot_fits, silence}
use Rattle.wire_rules.specs.Header.{header_size}
use Rattle.cutter_rules.specs.Schedule.{Schedule, Divides}
use Rattle.cutter_rules.specs.Cut.{cut_schedule, cut_packet, Cuttable}
use Rattle.cutter_rules.proofs.Scheduling.{divided, equalled}
use Rattle.cutter_rules.proofs.Exactly.{count_few}
use Rattle.cutter_rules.proofs.Packets.{packet_read, cut_laid}
use Rattle.demand.specs.Sender.{our_sender, sent_number}
use Rattle.demand.proofs.Sends.{ReadAs, Sends}

-- what the type carries is a 24-bit number
carried_slot : (f : Format) (n : ℤ) → has Signed24 n ≡ true → (bits_of 24 (carried f n) < 2 ^ 24) × (signed_of 24 (bits_of 24 (carried f n)) ≡ carried f n)
carried_slot f n q = let z = carried_has f n q in (bits_below Signed24 (carried f n) z, bits_sample Signed24 (carried f n) z)

-- our sender: a header and a track of bytes, of which packet 0 is cut with room
module _ (h : Header) (sixteen : length h.name ≡ 16) (track : List ℕ) (bytes : (j : ℕ) → byte track j < 256) (room : ℕ)
    (rules : Cuttable h track 0 room) (address : ℕ) where
  abbrev s : Schedule
  s = cut_schedule h track

  abbrev f : Format
  f = format_of h.format

  pub divides : Divides (records_held track) s
  divides = divided (records_held track) h.frames rules.good.formed.frames_few.0

  reads : (k : ℕ) → k < s.packets → ReadAs (our_sender h track address) k (cut_packet h track k)
  reads k l =
      let g = rules.good in
      let e = packet_read h s track k sixteen g.formed (divides.some k l) (count_few h track g k l) in
      let a = ap (λ r. r.answer) e in
      record {
        below = l;
        readable = (read_accepted_exactly (cut_packet h track k)).0 a;
        header = ap (λ r. r.header) (sym (read_accepted_fields (cut_packet h track k) a) ∙ e);
      }

  -- a slot as it is laid, sent or not
  slot_is : (k o c : ℕ) → o < s.count k
      → (packet_slot f (cut_packet h track k) header_size h.channels o c < 2 ^ 24)
      × (signed_of 24 (packet_slot f (cut_packet h track k) header_size h.channels o c) ≡ sent_number h track (s.from k + o) c)
  slot_is k o c m =
      let n = slot_number track (s.from k + o) c in
      let p = carried_slot f n (sample_has Signed24 _ (slot_fits track (s.from k + o) c bytes)) in
      rw (cut_laid h sixteen s track bytes k o m c)
      (by_test (λ b. (choose b (bits_of 24 (carried f n)) 0 < 2 ^ 24) × (signed_of 24 (choose b (bits_of 24 (carried f n)) 0) ≡ choose b (carried f n) (pos 0)))
      (ltb c h.channels) (λ q. p) (λ q. (lit< tt, silence)))

  pub our_sends : Sends (our_sender h track address)
  our_sends = record {
    formed = rules.good.formed;
    short = le_of_eq sixteen;
    channels_few = rules.good.channels_few;
    total = records_held track;
    divides = divides;
    equal = equalled (records_held track) h.frames rules.good.formed.frames_few.0;
    few = rules.number.few;
    reads = reads;
    below = λ k o c l m. (slot_is k o c m).0;
    shown = λ k o c l m u. (slot_is k o c m).1;
  }
