-- Laying, over the type: a sample as a slot, eight slots as a record, and the loop that lays a record a turn.
use mathlib.Core.Path.{◌≡◌, refl, ap, ◌∙◌}
use mathlib.Core.List.{List, ◌∷◌, []}
use Prim.Native.Nat.{ℕ, ◌+◌, ◌*◌, ◌-◌, ◌≤◌, ◌<◌}
use native.Mathlib.Nat.{add-mul}
use lib.ListN.{length}
use borrow.Rule.Slice.PartMut.{put_mid}
use Rattle.lists.specs.Lists.{byte, up_to}
use Rattle.lists.specs.Little.{little}
use Rattle.lists.proofs.Loops.{Pieces, start, next, end}
use Rattle.lists.proofs.Branches.{less_yes, less_no}
use Rattle.formats.specs.declared.Format.{Format}
use Rattle.formats.specs.Formats.{size_of}
use Rattle.sample_rules.specs.Bits.{slot_of}
use Rattle.track_rules.specs.Records.{record_of, records_of, laid_of, frame_slot, packet_slot}
use Rattle.track_rules.proofs.Laws.{record_length}

-- ---- a frame

module _ (f : Format) (d : List ℕ) (from channels : ℕ) where
  pub heard : (c u s r : ℕ) → c < channels → u ≡ little (size_of f) d (from + c * size_of f) → s ≡ slot_of f u → r ≡ s
      → r ≡ frame_slot f d from channels c
  unfolding frame_slot
  heard c u s r h p q e = e ∙ q ∙ ap (slot_of f) p ∙ less_yes _ _ _ _ h

  -- by sizes that are the type's
  pub sampled : (size n c u s r : ℕ) → c < channels → u ≡ little size d (from + c * n) → s ≡ slot_of f u → r ≡ s → size ≡ size_of f → n ≡ size
      → r ≡ frame_slot f d from channels c
  sampled size n c u s r h p q e z y = heard c u s r h (p ∙ rw (y, z)) q e

  pub silent : (c : ℕ) → channels ≤ c → 0 ≡ frame_slot f d from channels c
  unfolding frame_slot
  silent c h = less_no _ _ _ _ _ h refl

-- the slot by another place, which is the frame's
pub placed : (f : Format) (d : List ℕ) (from channels c m r : ℕ) → r ≡ frame_slot f d m channels c → m ≡ from → r ≡ frame_slot f d from channels c
placed f d from channels c m r p e = rw e at p

-- eight slots as a record, whatever says which they are
pub framed : (g : ℕ → ℕ) (out : List ℕ) (r0 r1 r2 r3 r4 r5 r6 r7 : ℕ) → out ≡ record_of (byte (r0 ∷ r1 ∷ r2 ∷ r3 ∷ r4 ∷ r5 ∷ r6 ∷ r7 ∷ []))
    → r0 ≡ g 0 → r1 ≡ g 1 → r2 ≡ g 2 → r3 ≡ g 3 → r4 ≡ g 4 → r5 ≡ g 5 → r6 ≡ g 6 → r7 ≡ g 7 → out ≡ record_of g
unfolding record_of up_to
framed g out r0 r1 r2 r3 r4 r5 r6 r7 p e0 e1 e2 e3 e4 e5 e6 e7 = rw (p, e0, e1, e2, e3, e4, e5, e6, e7)

-- ---- the loop: after k turns k records are laid

abbrev pub Laying : (ℕ → ℕ → ℕ) → ℕ → List ℕ → ℕ → List ℕ → ℕ → Type 0
Laying g frames track₀ place track k = Pieces 24 (λ i. record_of (g i)) frames track₀ (place * 24) track k

module _ (g : ℕ → ℕ → ℕ) (frames : ℕ) (track₀ : List ℕ) (place : ℕ) where
  pub lay_start : place * 24 + frames * 24 ≤ length track₀ → Laying g frames track₀ place track₀ 0
  lay_start m = start 24 (λ i. record_of (g i)) (λ i. record_length (g i)) frames track₀ (place * 24) m

  module _ (track : List ℕ) (k : ℕ) (l : Laying g frames track₀ place track k) where
    pub lay_next : (ys : List ℕ) → k < frames → ys ≡ record_of (g k)
        → Laying g frames track₀ place (put_mid ((place + k) * 24) ((place + k) * 24 + 24 - (place + k) * 24) track ys) (k + 1)
    lay_next ys h p = next 24 _ frames track₀ (place * 24) track k l ((place + k) * 24) ys h (add-mul place k 24) p

    pub lay_end : frames ≤ k → track ≡ laid_of track₀ place frames g
    unfolding laid_of records_of
    lay_end h = end 24 _ frames track₀ (place * 24) track k l h

-- a packet's frame is the one that starts so many bytes on
pub packet_next : (f : Format) (d : List ℕ) (from frames channels : ℕ) (track₀ : List ℕ) (place : ℕ) (track : List ℕ) (k : ℕ)
    → Laying (packet_slot f d from channels) frames track₀ place track k → (ys : List ℕ) → k < frames
    → ys ≡ record_of (frame_slot f d (from + k * (channels * size_of f)) channels)
    → Laying (packet_slot f d from channels) frames track₀ place (put_mid ((place + k) * 24) ((place + k) * 24 + 24 - (place + k) * 24) track ys) (k + 1)
unfolding packet_slot
packet_next f d from frames channels track₀ place = lay_next (packet_slot f d from channels) frames track₀ place

-- by a size that is the type's, and by frame m, which is k
pub packet_sized : (f : Format) (d : List ℕ) (from frames channels : ℕ) (track₀ : List ℕ) (place : ℕ) (track : List ℕ) (k : ℕ)
    → Laying (packet_slot f d from channels) frames track₀ place track k → (ys : List ℕ) (size m : ℕ) → k < frames
    → ys ≡ record_of (frame_slot f d (from + m * (channels * size)) channels) → size ≡ size_of f → m ≡ k
    → Laying (packet_slot f d from channels) frames track₀ place (put_mid ((place + k) * 24) ((place + k) * 24 + 24 - (place + k) * 24) track ys) (k + 1)
packet_sized f d from frames channels track₀ place track k l ys size m h p z e =
    packet_next f d from frames channels track₀ place track k l ys h (rw (e, z) at p)
