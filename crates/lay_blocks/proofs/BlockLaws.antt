-- A block of slots: filled sample by sample, laid frame by frame; and blocks laid one after the other.
use mathlib.Core.Path.{◌≡◌, refl, ap, ◌∙◌}
use mathlib.Core.List.{List}
use Prim.Native.Nat.{ℕ, ◌+◌, ◌*◌, ◌-◌, ◌≤◌, ◌<◌, min, zero-le}
use native.Mathlib.Nat.{mul-le-mul_right, add-mul, mul_assoc, mul-one}
use native.Mathlib.Omega.{arith}
use native.Mathlib.Decide.{dec_lt}
use lib.Dec.{lit<}
use lib.ListN.{length, get_or, set, replicate}
use borrow.Author.Tests.{lt-ltb, le-ltb}
use Rattle.lists.specs.Lists.{byte, put}
use Rattle.lists.specs.Little.{little, bytes_of}
use Rattle.lists.proofs.Lists.{within, zero_at, put_inside, put_after, up_to_same, up_to_length, up_to_at}
use Rattle.lists.proofs.Loops.{Pieces, start, more, next_set, end}
use Rattle.formats.specs.declared.Format.{Format}
use Rattle.formats.specs.Formats.{size_of}
use Rattle.sample_rules.specs.Bits.{slot_of}
use Rattle.sample_rules.proofs.Bits.{slot_below}
use Rattle.track_rules.specs.Records.{record_of, records_of, laid_of, frame_slot, packet_slot}
use Rattle.records.proofs.Laid.{Laying}
use Rattle.lay_blocks.specs.Blocks.{sample_slot, slots_from, Slots, block_frames}

-- ---- filling: after i turns i samples are brought to slots

module _ (f : Format) (d : List ℕ) (from n : ℕ) (block₀ : List ℕ) where
  pub fill_start : n ≤ length block₀ → Pieces 1 (sample_slot f d from) n block₀ 0 block₀ 0
  fill_start m = start 1 (sample_slot f d from) (λ i. refl) n block₀ 0 (omega arith)

  module _ (block : List ℕ) (i : ℕ) (l : Pieces 1 (sample_slot f d from) n block₀ 0 block i) where
    -- by sizes that are the type's
    pub fill_next : (size m u v : ℕ) → i < n → u ≡ little size d (from + i * m) → v ≡ slot_of f u → size ≡ size_of f → m ≡ size
        → Pieces 1 (sample_slot f d from) n block₀ 0 (set block i v) (i + 1)
    fill_next size m u v h p q z y = next_set (sample_slot f d from) n block₀ block i l v h (rw (q, p, y, z))

    pub fill_end : n ≤ i → block ≡ put block₀ 0 (slots_from f d from n)
    unfolding slots_from
    fill_end h = end 1 (sample_slot f d from) n block₀ 0 block i l h

-- ---- what a block holds once slots are put over one that holds slots

module _ (f : Format) (d : List ℕ) (from n : ℕ) (block₀ block : List ℕ)
    (e : block ≡ put block₀ 0 (slots_from f d from n)) where
  slots_length : length (slots_from f d from n) ≡ n
  unfolding slots_from
  slots_length = up_to_length 1 (sample_slot f d from) (λ i. refl) n ∙ mul-one n

  entry : (j : ℕ) → j < n → get_or block j 0 ≡ slot_of f (little (size_of f) d (from + j * size_of f))
  unfolding slots_from
  entry j h =
      let s = slots_from f d from n in
      let a : byte (put block₀ 0 s) (0 + j) ≡ byte s j = put_inside block₀ s 0 zero-le j (rw slots_length h) in
      let b : byte s (j * 1 + 0) ≡ slot_of f (little (size_of f) d (from + j * size_of f)) = up_to_at 1 (sample_slot f d from) (λ i. refl) n j 0 h (lit< tt) in
      let u : 0 + j ≡ j = omega arith in
      let w : j * 1 + 0 ≡ j = omega arith in
      rw e ((rw u at a) ∙ (rw w at b))

  rest : (j : ℕ) → n ≤ j → get_or block j 0 ≡ get_or block₀ j 0
  rest j h = rw e (put_after block₀ (slots_from f d from n) 0 zero-le j (rw slots_length (omega arith)))

  pub all_slots : Slots block₀ → Slots block
  all_slots s = record {
    below = λ j. elim (dec_lt j n) [
      | yes h ↦ rw (entry j h) (slot_below f (little (size_of f) d (from + j * size_of f)))
      | no h ↦ rw (rest j (omega arith)) (s.below j)
    ];
  }

-- its frames are the packet's from the k-th on, s being the size of a sample
module _ (f : Format) (d : List ℕ) (from k channels n s : ℕ) (q : s ≡ size_of f) (block₀ block : List ℕ)
    (e : block ≡ put block₀ 0 (slots_from f d (from + k * (channels * s)) (n * channels))) where
  same_slot : (i c : ℕ) → i < n → block_frames block channels i c ≡ packet_slot f d from channels (k + i) c
  unfolding packet_slot frame_slot
  same_slot i c h = elim (dec_lt c channels) [
    | yes l ↦
        (let x : from + k * (channels * size_of f) + (i * channels + c) * size_of f ≡ from + (k + i) * (channels * size_of f) + c * size_of f =
        omega (arith, add-mul (i * channels) c (size_of f), mul_assoc i channels (size_of f), add-mul k i (channels * size_of f)) in
        rw (lt-ltb c channels l)
        (entry f d (from + k * (channels * size_of f)) (n * channels) block₀ block (e ∙ rw q) (i * channels + c) (omega (arith, within i n channels h))
        ∙ ap (λ (y : ℕ). slot_of f (little (size_of f) d y)) x))
    | no l ↦ rw (le-ltb c channels (omega arith))
  ]

  -- so they are the next of the packet's that are laid
  pub blocks_next : (frames : ℕ) (track₀ : List ℕ) (place : ℕ) (track track' : List ℕ) → Laying (packet_slot f d from channels) frames track₀ place track k
      → k + n ≤ frames → track' ≡ laid_of track (place + k) n (block_frames block channels)
      → Laying (packet_slot f d from channels) frames track₀ place track' (k + n)
  unfolding laid_of records_of record_of
  blocks_next frames track₀ place track track' l h p =
      more 24 _ frames track₀ (place * 24) track k l n ((place + k) * 24) (records_of n (block_frames block channels)) track' h (add-mul place k 24)
      (up_to_same n _ _ (λ i g. up_to_same 8 _ _ (λ c m. ap (bytes_of 3) (same_slot i c g)))) p

-- a block of zeros holds slots
pub zeros : Slots (replicate 128 0)
zeros = record { below = λ j. rw (zero_at 128 j) (lit< tt) }

-- ---- a turn's numbers: n frames from the k-th on

module _ (k frames channels most n : ℕ) (h : k < frames) (e : n ≡ min (frames - k) most) where
  pub no_more : k + n ≤ frames
  no_more = omega arith

  pub few : most * channels ≤ 128 → n * channels ≤ 128
  few m = let l : n ≤ most = omega arith in omega (arith, mul-le-mul_right channels l)

  pub data_room : (from s length : ℕ) → from + frames * (channels * s) ≤ length → from + k * (channels * s) + n * channels * s ≤ length
  data_room from s length m = omega (arith, mul-le-mul_right (channels * s) no_more, add-mul k n (channels * s), mul_assoc n channels s)

  pub track_room : (place length : ℕ) → place * 24 + frames * 24 ≤ length → (place + k) * 24 + n * 24 ≤ length
  track_room place length m = omega (arith, no_more)
