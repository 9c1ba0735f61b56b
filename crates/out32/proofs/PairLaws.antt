-- Pairs of samples of 32 bits, each from one word of the track.
use mathlib.Core.Path.{◌≡◌, sym, ap, ◌∙◌}
use mathlib.Core.List.{List, ◌++◌}
use Prim.Native.Nat.{ℕ, ◌+◌, ◌-◌, ◌*◌, ◌/◌, ◌%◌, ◌≤◌, ◌<◌}
use native.Mathlib.Nat.{mul_assoc, one-mul}
use native.Mathlib.Omega.{arith}
use lib.ListN.{length}
use borrow.Rule.Slice.PartMut.{put_mid}
use Rattle.lists.specs.Lists.{byte, put, up_to}
use Rattle.lists.specs.Little.{little, bytes_of}
use Rattle.lists.proofs.Little.{little_below, little_joined, bytes_joined}
use Rattle.lists.proofs.Lists.{put_more, lent, up_to_same, up_to_flat}
use Rattle.formats.specs.declared.Format.{Format}
use Rattle.formats.specs.Formats.{signed32, size_of}
use Rattle.sample_rules.specs.Bits.{sent_of}
use Rattle.sample_rules.proofs.Bits.{sent_below}
use Rattle.records.specs.Frames.{sent_at, frame_out, frames_out}
use Rattle.records.proofs.Taking.{frame_length, frames_joined}

module _ (t : List ℕ) (below : (i : ℕ) → byte t i < 256) where
  -- two slots, as one number
  abbrev six : ℕ → ℕ
  six p = little 3 t p + little 3 t (p + 3) * 16777216

  low_six : (p : ℕ) → little 8 t p % 281474976710656 ≡ six p
  low_six p = omega (arith, little_joined 6 2 t p, little_joined 3 3 t p, little_below 6 t p below)

  high_six : (q : ℕ) → little 8 t q / 65536 ≡ six (q + 2)
  high_six q = omega (arith, little_joined 2 6 t q, little_joined 3 3 t (q + 2), little_below 2 t q below)

  -- the pair at p, from a word whose highest six bytes it is
  stored : (p y w : ℕ) (ys : List ℕ) → y / 65536 ≡ six p
      → w ≡ sent_of signed32 (y / 65536 % 16777216) + sent_of signed32 (y / 1099511627776) * 4294967296 → ys ≡ bytes_of 8 w → ys ≡ frame_out signed32 t p 2
  unfolding frame_out sent_at up_to
  stored p y w ys e f g =
      let u = little_below 3 t p below in
      let v = little_below 3 t (p + 3) below in
      let a : y / 65536 % 16777216 ≡ little 3 t p = omega arith in
      let b : y / 1099511627776 ≡ little 3 t (p + 3) = omega arith in
      let i : p + 0 * 3 ≡ p = omega arith in
      let j : p + 1 * 3 ≡ p + 3 = omega arith in
      g
      ∙ ap (bytes_of 8) (f ∙ rw (a, b))
      ∙ bytes_joined 4 4 (sent_of signed32 (little 3 t p)) (sent_of signed32 (little 3 t (p + 3))) (sent_below signed32 (little 3 t p) u)
      ∙ rw (i, j)

  pub pair_stored : (p x w : ℕ) (ys : List ℕ) → 2 ≤ p → x ≡ little 8 t (p - 2)
      → w ≡ sent_of signed32 (x / 65536 % 16777216) + sent_of signed32 (x / 1099511627776) * 4294967296 → ys ≡ bytes_of 8 w → ys ≡ frame_out signed32 t p 2
  pair_stored p x w ys l e =
      let s : p - 2 + 2 ≡ p = omega arith in
      stored p x w ys (ap (λ (y : ℕ). y / 65536) e ∙ high_six (p - 2) ∙ ap six s)

  pub first_stored : (p x w : ℕ) (ys : List ℕ) → x ≡ little 8 t p
      → let y = x % 281474976710656 * 65536 in
      w ≡ sent_of signed32 (y / 65536 % 16777216) + sent_of signed32 (y / 1099511627776) * 4294967296 → ys ≡ bytes_of 8 w → ys ≡ frame_out signed32 t p 2
  first_stored p x w ys e =
      let s : x % 281474976710656 * 65536 / 65536 ≡ x % 281474976710656 = omega arith in
      stored p (x % 281474976710656 * 65536) w ys (s ∙ ap (λ (y : ℕ). y % 281474976710656) e ∙ low_six p)

-- ---- channels that lie side by side through all records

module _ (f : Format) (t : List ℕ) (s : ℕ) where
  flat : (w n : ℕ) → frames_out f t s (w * 3) n w ≡ frame_out f t s (n * w)
  unfolding frames_out frame_out sent_at
  flat w n =
      up_to_same n _ _ (λ k h. up_to_same w _ _ (λ c l.
      let e : s + k * (w * 3) + c * 3 ≡ s + (k * w + c) * 3 = omega (arith, mul_assoc k w 3) in
      ap (λ (x : ℕ). bytes_of (size_of f) (sent_of f (little 3 t x))) e))
      ∙ up_to_flat w n (λ i. bytes_of (size_of f) (sent_of f (little 3 t (s + i * 3))))

  pub side_by_side : (n : ℕ) → frames_out f t s 6 (n * 4) 2 ≡ frames_out f t s 24 n 8
  side_by_side n =
      let e : n * 4 * 2 ≡ n * 8 = omega arith in
      flat 2 (n * 4) ∙ ap (frame_out f t s) e ∙ sym (flat 8 n)

-- a pair, and the others after it
frames_first : (f : Format) (t : List ℕ) (s step n channels : ℕ)
    → frames_out f t s step (1 + n) channels ≡ frame_out f t s channels ++ frames_out f t (s + step) step n channels
unfolding frames_out up_to
frames_first f t s step n channels =
    let z : s + 0 * step ≡ s = omega arith in
    frames_joined f t s step 1 n channels
    ∙ rw (z, one-mul step)

pub first_and_later : (t : List ℕ) (s step count : ℕ) (out₀ out ys : List ℕ) (place : ℕ) → 1 ≤ count → place ≤ length out₀
    → ys ≡ frame_out signed32 t s 2 → out ≡ put (put_mid place (place + 8 - place) out₀ ys) (place + 8) (frames_out signed32 t (s + step) step (count - 1) 2)
    → out ≡ put out₀ place (frames_out signed32 t s step count 2)
first_and_later t s step count out₀ out ys place h l p q =
    let n : length ys ≡ 8 = ap length p ∙ frame_length signed32 t s 2 in
    let m : 1 + (count - 1) ≡ count = omega arith in
    let rest = frames_out signed32 t (s + step) step (count - 1) 2 in
    q
    ∙ ap (λ (d : List ℕ). put d (place + 8) rest) (lent out₀ ys place (place + 8 - place) (omega arith))
    ∙ ap (λ (x : ℕ). put (put out₀ place ys) (place + x) rest) (sym n)
    ∙ put_more out₀ ys rest place l
    ∙ ap (put out₀ place) (ap (λ (d : List ℕ). d ++ rest) p
    ∙ sym (frames_first signed32 t s step (count - 1) 2)
    ∙ ap (λ (x : ℕ). frames_out signed32 t s step x 2) m)
