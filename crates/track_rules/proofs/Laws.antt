-- What callers know of a track: which bytes clearing and laying change, and to what; and what frames taken out hold.
use mathlib.Core.Path.{◌≡◌, refl, sym, ap, ◌∙◌}
use mathlib.Core.Logic.{◌↔◌}
use mathlib.Core.List.{List, ◌++◌}
use Prim.Native.Nat.{ℕ, ◌+◌, ◌*◌, ◌-◌, ◌^◌, ◌≤◌, ◌<◌, zero-le}
use native.Mathlib.Nat.{add_assoc, zero-add}
use native.Mathlib.Omega.{arith}
use native.Mathlib.Decide.{dec_lt}
use lib.Dec.{ltb, lit<}
use lib.IntN.{pos}
use lib.ListN.{length, replicate, length-replicate, get_or-replicate}
use borrow.Author.Tests.{lt-ltb, le-ltb}
use Rattle.lists.specs.Lists.{byte, up_to}
use Rattle.lists.specs.Little.{little, weighed, bytes_of}
use Rattle.lists.specs.Tables.{choose}
use Rattle.lists.proofs.Lists.{within, put_length, put_before, put_inside, put_after, up_to_length, up_to_at}
use Rattle.lists.proofs.Little.{bytes_length, little_below, little_same, little_spelled, little_zero, little_after, little_weighs}
use Rattle.formats.specs.declared.Format.{Format}
use Rattle.formats.specs.declared.Integer.{Integer}
use Rattle.formats.specs.Formats.{whole_size, size_of, width_of}
use Rattle.sample_rules.specs.Bits.{signed_of, slot_of, sent_of}
use Rattle.sample_rules.proofs.Bits.{whole_bytes, slot_below, sent_below}
use Rattle.track_rules.specs.Records.{records_held, cleared_of, slot_at, record_of, records_of, laid_of, frame_slot, packet_slot, taken_of}

-- a slot of zero bits is silence
pub silence : signed_of 24 0 ≡ pos 0
unfolding signed_of
silence = refl

-- ---- a sample's bytes hold its bits

pub sample_below : (f : Integer) (d : List ℕ) (a : ℕ) → ((i : ℕ) → byte d i < 256) → little (whole_size f) d a < 2 ^ width_of f
sample_below f d a h = rw (← whole_bytes f) (little_below (whole_size f) d a h)

pub slot_fits : (t : List ℕ) (i c : ℕ) → ((j : ℕ) → byte t j < 256) → slot_at t i c < 2 ^ 24
slot_fits t i c h = little_below 3 t (i * 24 + c * 3) h

-- ---- whole records

-- a track holds n records exactly when it has their bytes
pub held_exactly : (t : List ℕ) (n : ℕ) → n ≤ records_held t ↔ n * 24 ≤ length t
held_exactly t n = ((λ h. omega arith), (λ h. omega arith))

-- a slot is three bytes, each weighing what its place says
pub slot_weighs : (t : List ℕ) (i c : ℕ) → weighed 3 t (i * 24 + c * 3) ≡ slot_at t i c
slot_weighs t i c = little_weighs 3 t (i * 24 + c * 3)

-- ---- clearing

module _ (t : List ℕ) where
  pub cleared_length : length (cleared_of t) ≡ length t
  unfolding cleared_of
  cleared_length = put_length t (replicate (records_held t * 24) 0) 0 (rw length-replicate (omega arith))

  pub cleared_byte : (j : ℕ) → j < records_held t * 24 → byte (cleared_of t) j ≡ 0
  unfolding cleared_of
  cleared_byte j h =
      ap (byte (cleared_of t)) (sym (zero-add j))
      ∙ put_inside t (replicate (records_held t * 24) 0) 0 zero-le j (rw length-replicate h)
      ∙ get_or-replicate (records_held t * 24) j 0 0 h

  pub cleared_slot : (i c : ℕ) → i < records_held t → c < 8 → slot_at (cleared_of t) i c ≡ 0
  cleared_slot i c h l = little_zero 3 (cleared_of t) (i * 24 + c * 3) (λ j g. cleared_byte (i * 24 + c * 3 + j) (omega arith))

  pub cleared_rest : (j : ℕ) → records_held t * 24 ≤ j → byte (cleared_of t) j ≡ byte t j
  unfolding cleared_of
  cleared_rest j h = put_after t (replicate (records_held t * 24) 0) 0 zero-le j (rw length-replicate (omega arith))

-- ---- laying

pub record_length : (slots : ℕ → ℕ) → length (record_of slots) ≡ 24
unfolding record_of
record_length slots = up_to_length 3 (λ c. bytes_of 3 (slots c)) (λ c. bytes_length 3 (slots c)) 8

records_length : (n : ℕ) (frames : ℕ → ℕ → ℕ) → length (records_of n frames) ≡ n * 24
unfolding records_of
records_length n frames = up_to_length 24 (λ k. record_of (frames k)) (λ k. record_length (frames k)) n

module _ (t : List ℕ) (place n : ℕ) (frames : ℕ → ℕ → ℕ) (room : place * 24 + n * 24 ≤ length t) where
  pub laid_length : length (laid_of t place n frames) ≡ length t
  unfolding laid_of
  laid_length = put_length t (records_of n frames) (place * 24) (rw (records_length n frames) room)

  laid_byte : (k c j : ℕ) → k < n → c < 8 → j < 3
      → byte (laid_of t place n frames) (place * 24 + (k * 24 + (c * 3 + j))) ≡ byte (bytes_of 3 (frames k c)) j
  unfolding laid_of records_of record_of
  laid_byte k c j hk hc hj =
      put_inside t (records_of n frames) (place * 24) (omega arith) (k * 24 + (c * 3 + j)) (rw (records_length n frames) (omega (arith, within k n 24 hk)))
      ∙ up_to_at 24 (λ i. record_of (frames i)) (λ i. record_length (frames i)) n k (c * 3 + j) hk (omega arith)
      ∙ up_to_at 3 (λ i. bytes_of 3 (frames k i)) (λ i. bytes_length 3 (frames k i)) 8 c j hc hj

  pub laid_slot : (i c : ℕ) → place ≤ i → i < place + n → c < 8 → frames (i - place) c < 2 ^ 24
      → slot_at (laid_of t place n frames) i c ≡ frames (i - place) c
  laid_slot i c a b hc l = little_spelled 3 (laid_of t place n frames) (i * 24 + c * 3) (frames (i - place) c) l (λ j hj.
      let e : i * 24 + c * 3 + j ≡ place * 24 + ((i - place) * 24 + (c * 3 + j)) = omega arith in
      rw e (laid_byte (i - place) c j (omega arith) hc hj))

  pub laid_before : (j : ℕ) → j < place * 24 → byte (laid_of t place n frames) j ≡ byte t j
  unfolding laid_of
  laid_before j h = put_before t (records_of n frames) (place * 24) (omega arith) j h

  pub laid_after : (j : ℕ) → (place + n) * 24 ≤ j → byte (laid_of t place n frames) j ≡ byte t j
  unfolding laid_of
  laid_after j h = put_after t (records_of n frames) (place * 24) (omega arith) j (rw (records_length n frames) (omega arith))

  -- records outside are as they were
  pub slot_before : (i c : ℕ) → i < place → c < 8 → slot_at (laid_of t place n frames) i c ≡ slot_at t i c
  slot_before i c h l = little_same 3 (laid_of t place n frames) t (i * 24 + c * 3) (i * 24 + c * 3) (λ j hj. laid_before (i * 24 + c * 3 + j) (omega arith))

  pub slot_after : (i c : ℕ) → place + n ≤ i → slot_at (laid_of t place n frames) i c ≡ slot_at t i c
  slot_after i c h = little_same 3 (laid_of t place n frames) t (i * 24 + c * 3) (i * 24 + c * 3) (λ j hj. laid_after (i * 24 + c * 3 + j) (omega arith))

-- ---- a packet's slots

module _ (f : Format) (d : List ℕ) (from channels k c : ℕ) where
  pub packet_silent : channels ≤ c → packet_slot f d from channels k c ≡ 0
  unfolding packet_slot frame_slot
  packet_silent h = rw (le-ltb c channels h)

  pub packet_heard : c < channels → packet_slot f d from channels k c ≡ slot_of f (little (size_of f) d (from + k * (channels * size_of f) + c * size_of f))
  unfolding packet_slot frame_slot
  packet_heard h = rw (lt-ltb c channels h)

  pub packet_below : packet_slot f d from channels k c < 2 ^ 24
  packet_below = elim (dec_lt c channels) [
    | yes g ↦ rw (packet_heard g) (slot_below f _)
    | no g ↦ rw (packet_silent (omega arith)) (lit< tt)
  ]

-- ---- frames taken out

module _ (f : Format) (t : List ℕ) (first n channels : ℕ) where
  -- sample c of frame k
  abbrev one : ℕ → ℕ → List ℕ
  one k c = bytes_of (size_of f) (sent_of f (slot_at t (first + k) c))

  one_length : (k c : ℕ) → length (one k c) ≡ size_of f
  one_length k c = bytes_length (size_of f) (sent_of f (slot_at t (first + k) c))

  frame_length : (k : ℕ) → length (up_to channels (one k)) ≡ channels * size_of f
  frame_length k = up_to_length (size_of f) (one k) (one_length k) channels

  pub taken_length : length (taken_of f t first n channels) ≡ n * (channels * size_of f)
  unfolding taken_of
  taken_length = up_to_length (channels * size_of f) (λ k. up_to channels (one k)) frame_length n

  taken_byte : (k c j : ℕ) → k < n → c < channels → j < size_of f
      → byte (taken_of f t first n channels) (k * (channels * size_of f) + (c * size_of f + j)) ≡ byte (one k c) j
  unfolding taken_of
  taken_byte k c j hk hc hj =
      up_to_at (channels * size_of f) (λ i. up_to channels (one i)) frame_length n k (c * size_of f + j) hk (omega (arith, within c channels (size_of f) hc))
      ∙ up_to_at (size_of f) (one k) (one_length k) channels c j hc hj

  -- a sample of what was taken out is the slot's, as the type sends it
  pub taken_sample : (k c : ℕ) → k < n → c < channels → slot_at t (first + k) c < 2 ^ 24
      → little (size_of f) (taken_of f t first n channels) (k * (channels * size_of f) + c * size_of f) ≡ sent_of f (slot_at t (first + k) c)
  taken_sample k c hk hc l =
      little_spelled (size_of f) (taken_of f t first n channels) (k * (channels * size_of f) + c * size_of f) _
      (sent_below f (slot_at t (first + k) c) l)
      (λ j hj. rw (add_assoc (k * (channels * size_of f)) (c * size_of f) j) (taken_byte k c j hk hc hj))

  -- laid again, it is the slot as the type carries it
  pub taken_packet : (pre : List ℕ) (k c : ℕ) → k < n → slot_at t (first + k) c < 2 ^ 24
      → packet_slot f (pre ++ taken_of f t first n channels) (length pre) channels k c
      ≡ choose (ltb c channels) (slot_of f (sent_of f (slot_at t (first + k) c))) 0
  unfolding packet_slot frame_slot
  taken_packet pre k c hk l = elim (dec_lt c channels) [
    | yes g ↦
        rw (lt-ltb c channels g, add_assoc (length pre) (k * (channels * size_of f)) (c * size_of f))
        (ap (slot_of f) (little_after (size_of f) pre (taken_of f t first n channels) (k * (channels * size_of f) + c * size_of f) ∙ taken_sample k c hk g l))
    | no g ↦ rw (le-ltb c channels (omega arith))
  ]
