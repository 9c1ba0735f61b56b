-- Reading what was written, and writing what was read.
use mathlib.Core.Path.{◌≡◌, refl, sym, ap, ◌∙◌}
use mathlib.Core.List.{List, [], ◌∷◌, ◌++◌, append_assoc}
use Prim.Native.Nat.{ℕ, ◌+◌, ◌-◌, ◌*◌, ◌%◌, ◌^◌, ◌≤◌, ◌<◌}
use native.Mathlib.Nat.{le_of_eq}
use native.Mathlib.Omega.{arith}
use lib.Dec.{lit<}
use lib.ListN.{length, take, drop, length-append, length-drop, take-append-drop}
use lib.Seq.{take_at, drop_at, drop-drop}
use Rattle.lists.specs.Lists.{byte}
use Rattle.lists.specs.Little.{bytes_of}
use Rattle.lists.proofs.Little.{bytes_length, little_front, little_after, bytes_back}
use Rattle.formats.specs.Formats.{MaySend}
use Rattle.formats.proofs.Types.{sent_read}
use Rattle.answers.specs.declared.Answer.TheVariants.{Accepted}
use Rattle.answers.specs.declared.Made.TheVariants.{Done}
use Rattle.wire_rules.specs.declared.Header.{Header}
use Rattle.wire_rules.specs.declared.Read.{Read}
use Rattle.wire_rules.specs.Names.{kept_name, GoodName}
use Rattle.wire_rules.specs.Header.{rate_bits, format_bits, joined_four, joined_seven, name_field, counter_of, header_of, data_size}
use Rattle.wire_rules.specs.Read.{read_of, Readable}
use Rattle.wire_rules.specs.Write.{lead_of, header_bytes, packet_of, write_of, GoodForm}
use Rattle.wire_rules.specs.Again.{kept_header, Repeats, Typed, ReadsBack, WritesBack}
use Rattle.wire_rules.proofs.Names.{kept_good_name, kept_again, kept_length}
use Rattle.lists.proofs.Lists.{take_put, drop_put}
use Rattle.wire_rules.proofs.Reading.{run, run_is, marked_bytes, field_short, read_accepted_exactly, read_accepted_fields}
use Rattle.wire_rules.proofs.Writing.{form_bits, write_done_exactly, write_done_gives}

-- ---- reading what was written

answered : {x y : Header} {m n : ℕ} → x ≡ y → m ≡ n
    → ◌≡◌ {A = Read} (record { answer = Accepted; header = x; size = m }) (record { answer = Accepted; header = y; size = n })
answered p q = rw (p, q)

module _ (h : Header) (sixteen : length h.name ≡ 16) where
  name_sixteen : length (kept_name h.name) ≡ 16
  name_sixteen = kept_length h.name (le_of_eq sixteen)

  pub lead_length : length (header_bytes h) ≡ 28
  unfolding lead_of
  lead_length = simp (length-append, bytes_length) (omega (arith, name_sixteen))

  module _ (samples : List ℕ) (fits : h.counter < 2 ^ 32) where
    pub counter_back : counter_of (packet_of h samples) ≡ h.counter
    unfolding lead_of
    counter_back =
        let c : List ℕ = bytes_of 4 h.counter in
        let p : List ℕ =
        0x56 ∷ 0x42 ∷ 0x41 ∷ 0x4E ∷ joined_four h.rate 0 ∷ (h.frames - 1) ∷ (h.channels - 1) ∷ joined_seven h.format 0 0 ∷ kept_name h.name in
        let l : length p + 0 ≡ 24 = omega (arith, name_sixteen) in
        rw (append_assoc p c samples)
        ((rw l at (little_after 4 p (c ++ samples) 0))
        ∙ little_front 4 h.counter samples fits)

  module _ (samples : List ℕ) (fits : h.counter < 2 ^ 32) (good : GoodForm h) where
    rate_back : rate_bits (byte (packet_of h samples) 4) ≡ h.rate
    unfolding lead_of
    rate_back = omega arith

    frames_back : byte (packet_of h samples) 5 + 1 ≡ h.frames
    unfolding lead_of
    frames_back = omega arith

    channels_back : byte (packet_of h samples) 6 + 1 ≡ h.channels
    unfolding lead_of
    channels_back = omega arith

    bits : h.format < 8
    bits = form_bits h good

    format_back : format_bits (byte (packet_of h samples) 7) ≡ h.format
    unfolding lead_of
    format_back = omega (arith, bits)

    field_back : name_field (packet_of h samples) ≡ kept_name h.name
    unfolding lead_of
    field_back = rw append_assoc (take_at (kept_name h.name) _ 16 name_sixteen)

    header_back : header_of (packet_of h samples) ≡ kept_header h
    header_back = rw (rate_back, frames_back, channels_back, format_back, field_back, kept_again h.name, counter_back samples fits)

    packet_length : length (packet_of h samples) ≡ 28 + length samples
    packet_length = length-append (header_bytes h) samples ∙ rw lead_length

    module _ (full : length samples ≡ data_size h) (small : data_size h ≤ 1436) where
      size_back : data_size (header_of (packet_of h samples)) ≡ length samples
      size_back = ap data_size header_back ∙ sym full

      named_back : GoodName (name_field (packet_of h samples))
      named_back = rw field_back (kept_good_name h.name (le_of_eq sixteen) good.named)

      readable : Readable (packet_of h samples)
      unfolding lead_of
      readable = record {
        not_short = omega (arith, packet_length);
        not_long = omega (arith, packet_length);
        marked = refl;
        named = named_back;
        audio = omega arith;
        pcm = omega (arith, bits);
        unreserved = omega (arith, bits);
        rated = omega arith;
        typed = rw format_back (sent_read _ good.typed);
        exact = packet_length ∙ rw size_back;
      }

      reads : read_of (packet_of h samples) ≡ record { answer = Accepted; header = kept_header h; size = length samples }
      reads = read_accepted_fields (packet_of h samples) ((read_accepted_exactly (packet_of h samples)).1 readable) ∙ answered header_back size_back

pub written_reads_back : (h : Header) (samples out : List ℕ) → Typed h → (write_of h samples out).answer ≡ Done → ReadsBack h samples out
written_reads_back h samples out t e =
    let s = t.sixteen in
    let w = (write_done_exactly h (le_of_eq s) samples out).0 e in
    let l = packet_length h s samples t.counter w.formed in
    let o = (write_done_gives h samples out e).1 in
    record {
      fields = reads h s samples t.counter w.formed w.full w.small;
      samples_back = drop_at (header_bytes h) samples 28 (lead_length h s);
      packet = rw o (take_put out (packet_of h samples) (28 + length samples) l);
      past = rw o (drop_put out (packet_of h samples) (28 + length samples) l);
    }

-- ---- writing what was read

parts : (d : List ℕ) → 28 ≤ length d → run d 0 8 ++ name_field d ++ take 4 (drop 24 d) ++ drop 28 d ≡ d
parts d h = sym (run_is d 0 8 (omega arith) ∙ ap (λ (l : List ℕ). run d 0 8 ++ l) rest)
  where
    rest : drop 8 d ≡ name_field d ++ take 4 (drop 24 d) ++ drop 28 d
    rest =
        sym (take-append-drop 16 (drop 8 d))
        ∙ ap (λ (l : List ℕ). name_field d ++ l) (drop-drop 16 8 d ∙ sym (take-append-drop 4 (drop 24 d)) ∙ ap (λ (l : List ℕ). take 4 (drop 24 d) ++ l) (drop-drop 4 24 d))
        ∙ sym (append_assoc (name_field d) (take 4 (drop 24 d)) (drop 28 d))

together : {a a' b b' c c' : List ℕ} (e : List ℕ) → a ≡ a' → b ≡ b' → c ≡ c' → (a ++ (b ++ c)) ++ e ≡ a' ++ b' ++ c' ++ e
together {a} {a'} {b} {b'} {c} {c'} e p q r = rw (p, q, r) (simp append_assoc)

module _ (d : List ℕ) (bytes : (i : ℕ) → byte d i < 256) (r : Readable d) where
  front_bytes : 0x56 ∷ 0x42 ∷ 0x41 ∷ 0x4E ∷ (byte d 4 % 32 + 0 * 32) ∷ (byte d 5 + 1 - 1) ∷ (byte d 6 + 1 - 1) ∷ (byte d 7 % 8 + 0 * 8 + 0 * 16) ∷ []
      ≡ run d 0 8
  front_bytes =
      let m = marked_bytes d r.marked in
      let p₄ : byte d 4 % 32 + 0 * 32 ≡ byte d 4 = omega arith in
      let p₅ : byte d 5 + 1 - 1 ≡ byte d 5 = omega arith in
      let p₆ : byte d 6 + 1 - 1 ≡ byte d 6 = omega arith in
      let p₇ : byte d 7 % 8 + 0 * 8 + 0 * 16 ≡ byte d 7 = omega arith in
      rw (m 0 (lit< tt), m 1 (lit< tt), m 2 (lit< tt), m 3 (lit< tt), p₄, p₅, p₆, p₇)

  same_bytes_is : kept_name (name_field d) ≡ name_field d → packet_of (header_of d) (drop 28 d) ≡ d
  unfolding lead_of
  same_bytes_is zeros =
      together (drop 28 d) front_bytes (kept_again (name_field d) ∙ zeros)
      (bytes_back 4 d 24 r.not_short bytes)
      ∙ parts d r.not_short

  good_form : MaySend (format_bits (byte d 7)) → GoodForm (header_of d)
  good_form sent =
      let f = bytes 5 in
      let c = bytes 6 in
      record {
        rated = r.rated;
        typed = sent;
        frames_few = (omega arith, omega arith);
        channels_few = (omega arith, omega arith);
        named = kept_good_name (name_field d) (field_short d) r.named;
      }

pub read_writes_back : (d out : List ℕ) → ((i : ℕ) → byte d i < 256) → Repeats d out → WritesBack d out
read_writes_back d out bytes w =
    let r = (read_accepted_exactly d).0 w.accepted in
    let h = header_of d in
    let l : length (drop 28 d) ≡ length d - 28 = length-drop 28 d in
    let s : length d ≡ 28 + length (drop 28 d) = omega arith in
    let x : length d ≡ 28 + data_size h = r.exact in
    let e =
    (write_done_exactly h (le_of_eq (kept_length (name_field d) (field_short d))) (drop 28 d) out).1
    (record { formed = good_form d bytes r w.sent; small = omega arith; full = omega arith; roomy = omega (arith, w.room) }) in
    let g = write_done_gives h (drop 28 d) out e in
    let p = same_bytes_is d bytes r w.zeros in
    let f : (read_of d).header ≡ h = ap (λ (a : Read). a.header) (read_accepted_fields d w.accepted) in
    record { packet = rw f p; answer = rw f (g.0 ∙ rw (← s)); output = rw f (g.1 ∙ rw p) }

-- the writer puts zeros after the name
pub written_name : (h : Header) (samples out : List ℕ) → Typed h → (write_of h samples out).answer ≡ Done
    → take 16 (drop 8 (packet_of h samples)) ≡ kept_name h.name
written_name h samples out t e =
    field_back h t.sixteen samples t.counter ((write_done_exactly h (le_of_eq t.sixteen) samples out).0 e).formed
