-- Taking out, over the type: a slot as a sample, the loop over a frame's channels, and the loop over the frames.
use mathlib.Core.Path.{◌≡◌, sym, ap, ◌∙◌}
use mathlib.Core.List.{List, ◌++◌}
use Prim.Native.Nat.{ℕ, ◌+◌, ◌*◌, ◌-◌, ◌≤◌, ◌<◌}
use native.Mathlib.Nat.{zero-add, add-mul, add_assoc}
use native.Mathlib.Omega.{arith}
use lib.ListN.{length}
use borrow.Rule.Slice.PartMut.{put_mid}
use Rattle.lists.specs.Lists.{put, up_to}
use Rattle.lists.specs.Little.{little, bytes_of}
use Rattle.lists.proofs.Lists.{up_to_length, up_to_same, up_to_more, put_none}
use Rattle.lists.proofs.Little.{bytes_length}
use Rattle.lists.proofs.Loops.{Pieces, start, next, end, end_whole}
use Rattle.formats.specs.declared.Format.{Format}
use Rattle.formats.specs.Formats.{size_of}
use Rattle.sample_rules.specs.Bits.{sent_of}
use Rattle.track_rules.specs.Records.{taken_of}
use Rattle.records.specs.Frames.{sent_at, sent_bytes, frame_out, frames_out}

-- ---- a frame

module _ (f : Format) (t : List ℕ) (at : ℕ) where
  pub sent : (c s r : ℕ) → s ≡ little 3 t (at + c * 3) → r ≡ sent_of f s → r ≡ sent_at f t at c
  unfolding sent_at
  sent c s r p q = q ∙ ap (sent_of f) p

  sent_length : (c : ℕ) → length (sent_bytes f t at c) ≡ size_of f
  sent_length c = bytes_length (size_of f) (sent_at f t at c)

  pub frame_length : (channels : ℕ) → length (frame_out f t at channels) ≡ channels * size_of f
  unfolding frame_out
  frame_length channels = up_to_length (size_of f) (sent_bytes f t at) sent_length channels

  -- the loop over its channels, of w bytes each: after c turns c samples are written
  module _ (w : ℕ) (e : w ≡ size_of f) (channels : ℕ) (out₀ : List ℕ) (h : length out₀ ≡ channels * size_of f) where
    pub frame_start : Pieces w (sent_bytes f t at) channels out₀ 0 out₀ 0
    frame_start = rw e (start (size_of f) (sent_bytes f t at) sent_length channels out₀ 0 (omega arith))

    module _ (out : List ℕ) (c : ℕ) (l : Pieces w (sent_bytes f t at) channels out₀ 0 out c) where
      pub frame_next : (a v : ℕ) (ys : List ℕ) → c < channels → a ≡ c * w → ys ≡ bytes_of w v → v ≡ sent_at f t at c
          → Pieces w (sent_bytes f t at) channels out₀ 0 (put_mid a (a + w - a) out ys) (c + 1)
      frame_next a v ys g i p q =
          next w (sent_bytes f t at) channels out₀ 0 out c l a ys g (i ∙ sym (zero-add (c * w))) (p ∙ rw (e, q))

      pub frame_end : channels ≤ c → out ≡ frame_out f t at channels
      unfolding frame_out
      frame_end g = end_whole w (sent_bytes f t at) channels out₀ out c l (rw e h) g

-- ---- frames

pub frames_length : (f : Format) (t : List ℕ) (s step n channels : ℕ) → length (frames_out f t s step n channels) ≡ n * (channels * size_of f)
unfolding frames_out
frames_length f t s step n channels =
    up_to_length (channels * size_of f) (λ k. frame_out f t (s + k * step) channels) (λ k. frame_length f t (s + k * step) channels) n

-- m frames, and n after them
pub frames_joined : (f : Format) (t : List ℕ) (s step m n channels : ℕ)
    → frames_out f t s step (m + n) channels ≡ frames_out f t s step m channels ++ frames_out f t (s + m * step) step n channels
unfolding frames_out
frames_joined f t s step m n channels =
    up_to_more m n (λ k. frame_out f t (s + k * step) channels)
    ∙ ap (λ (l : List ℕ). frames_out f t s step m channels ++ l) (up_to_same n _ _ (λ i h.
    let e : s + (m + i) * step ≡ s + m * step + i * step = ap (λ (x : ℕ). s + x) (add-mul m i step) ∙ sym (add_assoc s (m * step) (i * step)) in
    ap (λ (x : ℕ). frame_out f t x channels) e))

-- frames of a track, a record each
pub taken_frames : (f : Format) (t : List ℕ) (first n channels : ℕ) → frames_out f t (first * 24) 24 n channels ≡ taken_of f t first n channels
unfolding taken_of frames_out frame_out sent_at
taken_frames f t first n channels = up_to_same n _ _ (λ k h.
    let e : first * 24 + k * 24 ≡ (first + k) * 24 = omega arith in rw e)

-- m of them, and n after them
pub taken_joined : (f : Format) (t : List ℕ) (first m n channels : ℕ)
    → taken_of f t first (m + n) channels ≡ taken_of f t first m channels ++ taken_of f t (first + m) n channels
taken_joined f t first m n channels =
    rw (
      ← taken_frames f t first (m + n) channels,
      ← taken_frames f t first m channels,
      ← taken_frames f t (first + m) n channels,
      add-mul first m 24,
    )
    (frames_joined f t (first * 24) 24 m n channels)

pub taken_length : (f : Format) (t : List ℕ) (first n channels : ℕ) → length (taken_of f t first n channels) ≡ n * (channels * size_of f)
taken_length f t first n channels = rw (← taken_frames f t first n channels) (frames_length f t (first * 24) 24 n channels)

-- no frames are none
pub none : (f : Format) (t : List ℕ) (first frames channels : ℕ) (out₀ : List ℕ) (place : ℕ) → frames ≡ 0
    → out₀ ≡ put out₀ place (taken_of f t first frames channels)
unfolding taken_of up_to
none f t first frames channels out₀ place e = rw e (put_none out₀ place)

-- the loop: after k turns k frames are written, each read step bytes after the one before
abbrev pub Taking : Format → ℕ → List ℕ → ℕ → ℕ → ℕ → List ℕ → ℕ → List ℕ → ℕ → Type 0
Taking f channels t s step frames out₀ place out k =
    Pieces (channels * size_of f) (λ i. frame_out f t (s + i * step) channels) frames out₀ place out k

module _ (f : Format) (channels : ℕ) (t : List ℕ) (s step frames : ℕ) (out₀ : List ℕ) (place : ℕ) where
  pub take_start : place + frames * (channels * size_of f) ≤ length out₀ → Taking f channels t s step frames out₀ place out₀ 0
  take_start m = start (channels * size_of f) _ (λ i. frame_length f t (s + i * step) channels) frames out₀ place m

  module _ (out : List ℕ) (k : ℕ) (l : Taking f channels t s step frames out₀ place out k) where
    -- the next is read at at and written at a, w bytes of it
    pub take_next : (at a w : ℕ) (ys : List ℕ) → k < frames → at ≡ s + k * step → a ≡ place + k * w → w ≡ channels * size_of f
        → ys ≡ frame_out f t at channels → Taking f channels t s step frames out₀ place (put_mid a (a + w - a) out ys) (k + 1)
    take_next at a w ys h i j e p = rw e (next (channels * size_of f) _ frames out₀ place out k l a ys h (rw (← e) j) (p ∙ rw i))

    pub take_end : frames ≤ k → out ≡ put out₀ place (frames_out f t s step frames channels)
    unfolding frames_out
    take_end h = end (channels * size_of f) _ frames out₀ place out k l h

pub taken : (f : Format) (channels : ℕ) (t : List ℕ) (first frames : ℕ) (out₀ : List ℕ) (place : ℕ) (out : List ℕ) (k : ℕ)
    → Taking f channels t (first * 24) 24 frames out₀ place out k → frames ≤ k → out ≡ put out₀ place (taken_of f t first frames channels)
taken f channels t first frames out₀ place out k l h =
    take_end f channels t (first * 24) 24 frames out₀ place out k l h ∙ rw (taken_frames f t first frames channels)
