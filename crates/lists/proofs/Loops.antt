-- Loops that write piece by piece: one invariant, over the piece and its size. There is nothing to believe here.
use mathlib.Core.Path.{◌≡◌, refl, sym, ap, ◌∙◌}
use mathlib.Core.List.{List, [], ◌∷◌}
use Prim.Native.Nat.{ℕ, ◌+◌, ◌-◌, ◌*◌, ◌≤◌, ◌<◌, zero-le}
use native.Mathlib.Nat.{add-zero, mul-le-mul_right, le_antisymm, add-sub_cancel_left}
use native.Mathlib.Omega.{arith}
use lib.ListN.{length, set}
use borrow.Rule.Slice.PartMut.{put_mid}
use Rattle.lists.specs.Lists.{put, up_to}
use Rattle.lists.proofs.Lists.{within, one_more_times, put_none, put_more, put_length, put_whole, set_put, lent, up_to_length, up_to_more}

-- k pieces of w each are written from place on, of n that there is room for
pub record Pieces (w : ℕ) (f : ℕ → List ℕ) (n : ℕ) (out₀ : List ℕ) (place : ℕ) (out : List ℕ) (k : ℕ) : Type 0 where
  pub turns : k ≤ n
  pub each : (i : ℕ) → length (f i) ≡ w
  pub room : place + n * w ≤ length out₀
  pub same : length out ≡ length out₀
  pub so_far : out ≡ put out₀ place (up_to k f)

module _ (w : ℕ) (f : ℕ → List ℕ) (each : (i : ℕ) → length (f i) ≡ w) (n : ℕ) (out₀ : List ℕ) (place : ℕ) where
  pub start : place + n * w ≤ length out₀ → Pieces w f n out₀ place out₀ 0
  unfolding up_to
  start m = record { turns = zero-le; each = each; room = m; same = refl; so_far = put_none out₀ place }

module _ (w : ℕ) (f : ℕ → List ℕ) (n : ℕ) (out₀ : List ℕ) (place : ℕ) (out : List ℕ) (k : ℕ) (l : Pieces w f n out₀ place out k) where
  -- there is room for the piece that is written at a
  pub there : (a : ℕ) → k < n → a ≡ place + k * w → a + w ≤ length out
  there a h e = omega (arith, l.room, l.same, within k n w h)

  -- m pieces more
  pub more : (m a : ℕ) (ys out' : List ℕ) → k + m ≤ n → a ≡ place + k * w → ys ≡ up_to m (λ i. f (k + i)) → out' ≡ put out a ys
      → Pieces w f n out₀ place out' (k + m)
  more m a ys out' h e p q =
      let done = up_to k f in
      let i : place ≤ length out₀ = omega (arith, l.room) in
      let j : a ≡ place + length done = e ∙ rw (up_to_length w f l.each k) in
      let all : out' ≡ put out₀ place (up_to (k + m) f) = q ∙ rw (l.so_far, j, put_more out₀ done ys place i, p, up_to_more k m f) in
      let fits : place + length (up_to (k + m) f) ≤ length out₀ =
      rw (up_to_length w f l.each (k + m)) (omega (arith, l.room, mul-le-mul_right w h)) in
      record { turns = h; each = l.each; room = l.room; same = ap length all ∙ put_length out₀ (up_to (k + m) f) place fits; so_far = all }

  one : (ys : List ℕ) → ys ≡ f k → ys ≡ up_to 1 (λ i. f (k + i))
  unfolding up_to
  one ys p = p ∙ rw (add-zero k)

  -- the next piece, in the part that it is lent
  pub next : (a : ℕ) (ys : List ℕ) → k < n → a ≡ place + k * w → ys ≡ f k → Pieces w f n out₀ place (put_mid a (a + w - a) out ys) (k + 1)
  next a ys h e p =
      more 1 a ys _ (omega arith) e (one ys p) (lent out ys a (a + w - a) (ap length p ∙ l.each k ∙ sym (add-sub_cancel_left a w)))

  pub end : n ≤ k → out ≡ put out₀ place (up_to n f)
  end h = l.so_far ∙ rw (le_antisymm l.turns h)

-- pieces of one number each, set one after the other
pub next_set : (f : ℕ → List ℕ) (n : ℕ) (out₀ out : List ℕ) (k : ℕ) → Pieces 1 f n out₀ 0 out k → (v : ℕ) → k < n → v ∷ [] ≡ f k
    → Pieces 1 f n out₀ 0 (set out k v) (k + 1)
next_set f n out₀ out k l v h p =
    more 1 f n out₀ 0 out k l 1 k (v ∷ []) _ (omega arith) (omega arith) (one 1 f n out₀ 0 out k l (v ∷ []) p)
    (set_put out k v (omega (arith, l.room, l.same)))

-- pieces that fill the whole
pub end_whole : (w : ℕ) (f : ℕ → List ℕ) (n : ℕ) (out₀ out : List ℕ) (k : ℕ) → Pieces w f n out₀ 0 out k → length out₀ ≡ n * w → n ≤ k
    → out ≡ up_to n f
end_whole w f n out₀ out k l e h = end w f n out₀ 0 out k l h ∙ put_whole out₀ (up_to n f) (e ∙ sym (up_to_length w f l.each n))
