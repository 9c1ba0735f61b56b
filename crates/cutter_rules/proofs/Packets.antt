-- Packets by a schedule: what the packet writer writes, read back, and the samples are the track's.
use mathlib.Core.Path.{◌≡◌, refl, sym, ap, ◌∙◌}
use mathlib.Core.List.{List, ◌++◌}
use Prim.Native.Nat.{ℕ, ◌+◌, ◌*◌, ◌%◌, ◌^◌, ◌≤◌, ◌<◌}
use native.Mathlib.Nat.{add_assoc, mul_assoc, le_of_eq, mod-lt}
use lib.Dec.{ltb, lit<}
use lib.ListN.{length, take, drop, replicate, length-append, length-replicate}
use Rattle.lists.specs.Lists.{byte}
use Rattle.lists.specs.Tables.{choose}
use Rattle.answers.specs.declared.Answer.TheVariants.{Accepted}
use Rattle.answers.specs.declared.Made.TheVariants.{Done}
use Rattle.formats.specs.declared.Integer.{Integer}
use Rattle.formats.specs.declared.Integer.TheVariants.{Signed24}
use Rattle.formats.specs.declared.Format.{Format}
use Rattle.formats.specs.declared.Format.TheVariants.{Whole}
use Rattle.formats.specs.Formats.{format_of, size_of, size_at}
use Rattle.sample_rules.specs.Convert.{carried}
use Rattle.sample_rules.specs.Nearest.{value_of, Nearest}
use Rattle.sample_rules.specs.Bits.{bits_of, sample_of, sent_of}
use Rattle.sample_rules.proofs.Bits.{sent_nearest, sent_slot}
use Rattle.wire_rules.specs.declared.Header.{Header}
use Rattle.wire_rules.specs.Header.{data_size, header_size}
use Rattle.wire_rules.specs.declared.Read.{Read}
use Rattle.wire_rules.specs.Names.{kept_name}
use Rattle.wire_rules.specs.Read.{read_of}
use Rattle.wire_rules.specs.Write.{header_bytes, write_of, output_of, GoodForm}
use Rattle.wire_rules.specs.Again.{kept_header, ReadsBack}
use Rattle.wire_rules.proofs.Writing.{write_done_exactly, write_done_gives}
use Rattle.wire_rules.proofs.RoundTrip.{lead_length, written_reads_back}
use Rattle.lists.specs.Little.{little}
use Rattle.lists.proofs.Little.{little_after}
use Rattle.track_rules.specs.Records.{records_held, slot_at, slot_number, packet_slot, taken_of}
use Rattle.track_rules.proofs.Laws.{slot_fits, taken_length, taken_sample, taken_packet}
use Rattle.cutter_rules.specs.Schedule.{Schedule}
use Rattle.cutter_rules.specs.Largest.{largest_frames}
use Rattle.cutter_rules.specs.Cut.{cut_schedule, packet_header, packet_samples, packet_by, cut_packet, cut_answer, cut_output, Cuttable}
use Rattle.cutter_rules.proofs.Scheduling.{divided}
use Rattle.cutter_rules.proofs.Sizes.{never_big, packet_formed}
use Rattle.cutter_rules.proofs.Exactly.{count_few, cut_done_exactly, done_output}

-- ---- by any schedule: the bytes, and what reading gives

module _ (h : Header) (s : Schedule) (track : List ℕ) (k : ℕ) where
  abbrev hk : Header
  hk = packet_header h s k

  abbrev data_k : List ℕ
  data_k = packet_samples h s track k

  pub samples_length : length data_k ≡ data_size hk
  samples_length =
      taken_length (format_of h.format) track (s.from k) (s.count k) h.channels ∙ sym (mul_assoc (s.count k) h.channels (size_at h.format))

  module _ (sixteen : length h.name ≡ 16) where
    pub packet_length : length (packet_by h s track k) ≡ header_size + data_size hk
    unfolding packet_by
    packet_length = length-append (header_bytes hk) data_k ∙ rw (lead_length hk sixteen, samples_length)

    -- a packet of 1 to the largest N frames
    module _ (g : GoodForm h) (some : 1 ≤ s.count k) (few : s.count k ≤ largest_frames h.format h.channels) where
      write_done : (out : List ℕ) → header_size + data_size hk ≤ length out → (write_of hk data_k out).answer ≡ Done
      write_done out l =
          (write_done_exactly hk (le_of_eq sixteen) data_k out).1
          (rw samples_length (record { formed = packet_formed h g s k few some; small = never_big h g s k few; full = refl; roomy = l }))

      pub written_back : (out : List ℕ) → header_size + data_size hk ≤ length out → ReadsBack hk data_k out
      written_back out l = written_reads_back hk data_k out (record { sixteen = sixteen; counter = mod-lt _ (lit< tt) }) (write_done out l)

      pub packet_read : read_of (packet_by h s track k) ≡ record { answer = Accepted; header = kept_header hk; size = data_size hk }
      unfolding packet_by
      packet_read =
          let n = header_size + data_size hk in
          (written_back (replicate n 0) (le_of_eq (sym (length-replicate n 0)))).fields ∙ rw samples_length

-- ---- what is cut is written and read back

module _ (h : Header) (sixteen : length h.name ≡ 16) (track : List ℕ) (k : ℕ) (out : List ℕ) (done : cut_answer h track k (length out) ≡ Done) where
  abbrev s : Schedule
  s = cut_schedule h track

  rules : Cuttable h track k (length out)
  rules = (cut_done_exactly h (le_of_eq sixteen) track k (length out)).0 done

  some : 1 ≤ s.count k
  some = (divided (records_held track) h.frames rules.good.formed.frames_few.0).some k rules.number.below

  few : s.count k ≤ largest_frames h.format h.channels
  few = count_few h track rules.good k rules.number.below

  -- what is written is what the packet writer writes of that header and those data
  pub cut_writes : cut_output h track k out ≡ output_of (packet_header h s k) (packet_samples h s track k) out
  unfolding packet_by
  cut_writes =
      done_output h track k out Done (sym done) refl
      ∙ sym (write_done_gives (packet_header h s k) (packet_samples h s track k) out
      (write_done h s track k sixteen rules.good.formed some few out rules.roomy)).1

  back : ReadsBack (packet_header h s k) (packet_samples h s track k) out
  back = written_back h s track k sixteen rules.good.formed some few out rules.roomy

  pub cut_read : read_of (cut_packet h track k) ≡ record { answer = Accepted; header = kept_header (packet_header h s k); size = data_size (packet_header h s k) }
  cut_read = packet_read h s track k sixteen rules.good.formed some few

  -- its header, written out
  pub cut_header : (read_of (cut_packet h track k)).header ≡ record {
    rate = h.rate;
    frames = s.count k;
    channels = h.channels;
    format = h.format;
    name = kept_name h.name;
    counter = (h.counter + k) % 2 ^ 32;
  }
  cut_header = ap (λ (r : Read). r.header) cut_read

  -- the packet at the front, and the bytes past it as they were
  pub cut_front : take (header_size + data_size (packet_header h s k)) (cut_output h track k out) ≡ cut_packet h track k
  unfolding packet_by
  cut_front = rw (cut_writes, ← samples_length h s track k) back.packet

  pub cut_past : drop (header_size + data_size (packet_header h s k)) (cut_output h track k out) ≡ drop (header_size + data_size (packet_header h s k)) out
  cut_past = rw (cut_writes, ← samples_length h s track k) back.past

-- ---- the samples, by any schedule

module _ (h : Header) (sixteen : length h.name ≡ 16) (s : Schedule) (track : List ℕ) (bytes : (j : ℕ) → byte track j < 256) (k i : ℕ) (l : i < s.count k) (c : ℕ) where
  abbrev f : Format
  f = format_of h.format

  abbrev lead : List ℕ
  lead = header_bytes (packet_header h s k)

  abbrev taken : List ℕ
  taken = taken_of f track (s.from k) (s.count k) h.channels

  -- the bits of slot c of the packet's frame i
  abbrev slot : ℕ
  slot = slot_at track (s.from k + i) c

  -- where its sample stands
  abbrev at : ℕ
  at = header_size + i * (h.channels * size_of f) + c * size_of f

  fits : slot < 2 ^ 24
  fits = slot_fits track (s.from k + i) c bytes

  after_lead : (a b : ℕ) → little (size_of f) (lead ++ taken) (header_size + a + b) ≡ little (size_of f) taken (a + b)
  after_lead a b = rw (add_assoc header_size a b, ← lead_length (packet_header h s k) sixteen) (little_after (size_of f) lead taken (a + b))

  module _ (sent : c < h.channels) where
    -- a sample is the slot's, as the type sends it
    pub cut_sample : little (size_of f) (packet_by h s track k) at ≡ sent_of f slot
    unfolding packet_by
    cut_sample =
        after_lead (i * (h.channels * size_of f)) (c * size_of f)
        ∙ taken_sample f track (s.from k) (s.count k) h.channels i c l sent fits

    -- and of its type's numbers the nearest to it
    pub cut_nearest : (w : Integer) → f ≡ Whole w → Nearest (value_of Signed24 (slot_number track (s.from k + i) c)) w (sample_of w (little (size_of f) (packet_by h s track k) at))
    cut_nearest w e = rw (cut_sample, e) (sent_nearest w slot fits)

  -- laid again, it is the slot as the type carries it
  pub cut_laid : packet_slot f (packet_by h s track k) header_size h.channels i c
      ≡ choose (ltb c h.channels) (bits_of 24 (carried f (slot_number track (s.from k + i) c))) 0
  unfolding packet_by
  cut_laid =
      rw (← lead_length (packet_header h s k) sixteen, ← sent_slot f slot fits)
      (taken_packet f track (s.from k) (s.count k) h.channels lead i c l fits)
