-- A loop over several frames a turn, which make a word or more, and the frames that are left.
use mathlib.Core.Path.{◌≡◌, ap, ◌∙◌}
use mathlib.Core.List.{List}
use Prim.Native.Nat.{ℕ, ◌+◌, ◌-◌, ◌*◌, ◌/◌, ◌%◌, ◌≤◌, ◌<◌}
use native.Mathlib.Nat.{mul_assoc, div-add-mod'}
use native.Mathlib.Omega.{arith}
use lib.ListN.{length}
use borrow.Rule.Slice.PartMut.{put_mid}
use Rattle.lists.specs.Lists.{put, up_to}
use Rattle.lists.proofs.Lists.{put_more, up_to_same, up_to_flat}
use Rattle.lists.proofs.Loops.{Pieces, start, next, end}
use Rattle.formats.specs.declared.Format.{Format}
use Rattle.formats.specs.Formats.{size_of}
use Rattle.track_rules.specs.Records.{taken_of}
use Rattle.records.specs.Frames.{frame_out, frames_out}
use Rattle.records.proofs.Taking.{frames_length, frames_joined, taken_frames}

-- after k turns of n frames each, from record first on
abbrev pub Turns : Format → ℕ → ℕ → List ℕ → ℕ → ℕ → List ℕ → ℕ → List ℕ → ℕ → Type 0
Turns f n channels t first count out₀ place out k =
    Pieces (n * (channels * size_of f)) (λ i. frames_out f t (first * 24 + i * (n * 24)) 24 n channels) count out₀ place out k

module _ (f : Format) (n channels : ℕ) (t : List ℕ) (first count : ℕ) (out₀ : List ℕ) (place : ℕ) where
  abbrev size : ℕ
  size = n * (channels * size_of f)

  pub turns_start : place + count * size ≤ length out₀ → Turns f n channels t first count out₀ place out₀ 0
  turns_start m = start size _ (λ i. frames_length f t (first * 24 + i * (n * 24)) 24 n channels) count out₀ place m

  -- turns one after the other are their frames
  flat : (k : ℕ) → up_to k (λ i. frames_out f t (first * 24 + i * (n * 24)) 24 n channels) ≡ frames_out f t (first * 24) 24 (k * n) channels
  unfolding frames_out
  flat k =
      up_to_same k _ _ (λ i h. up_to_same n _ _ (λ j g.
      let e : first * 24 + i * (n * 24) + j * 24 ≡ first * 24 + (i * n + j) * 24 = omega (arith, mul_assoc i n 24) in
      ap (λ (x : ℕ). frame_out f t x channels) e))
      ∙ up_to_flat n k (λ i. frame_out f t (first * 24 + i * 24) channels)

  module _ (out : List ℕ) (k : ℕ) (l : Turns f n channels t first count out₀ place out k) where
    -- the next are read at at and written at a
    pub turns_next : (at a : ℕ) (ys w : List ℕ) → k < count → at ≡ (first + k * n) * 24 → a ≡ place + k * size → ys ≡ w
        → w ≡ frames_out f t at 24 n channels → Turns f n channels t first count out₀ place (put_mid a (a + size - a) out ys) (k + 1)
    turns_next at a ys w h i j e p =
        let r : at ≡ first * 24 + k * (n * 24) = omega (arith, i, mul_assoc k n 24) in next size _ count out₀ place out k l a ys h j (e ∙ p ∙ rw r)

    -- and the frames that are left
    pub turns_rest : (frames a : ℕ) (o : List ℕ) → count ≡ frames / n → count ≤ k → a ≡ place + count * size
        → o ≡ put out a (taken_of f t (first + count * n) (frames % n) channels) → o ≡ put out₀ place (taken_of f t first frames channels)
    turns_rest frames a o c h j p =
        let done = frames_out f t (first * 24) 24 (count * n) channels in
        let so : out ≡ put out₀ place done = end size _ count out₀ place out k l h ∙ ap (put out₀ place) (flat count) in
        let i : (first + count * n) * 24 ≡ first * 24 + count * n * 24 = omega arith in
        let q : count * n + frames % n ≡ frames = rw c (div-add-mod' frames n) in
        let w : a ≡ place + length done = omega (arith, frames_length f t (first * 24) 24 (count * n) channels, mul_assoc count n (channels * size_of f)) in
        let m : place ≤ length out₀ = omega (arith, l.room) in
        p
        ∙ rw (
          so,
          w,
          put_more out₀ done (taken_of f t (first + count * n) (frames % n) channels) place m,
          ← taken_frames f t (first + count * n) (frames % n) channels,
          i,
          ← frames_joined f t (first * 24) 24 (count * n) (frames % n) channels,
          q,
          taken_frames f t first frames channels,
        )
