-- Laws of `put` and `up_to`.
use mathlib.Core.Path.{◌≡◌, refl, sym, ap, ◌∙◌}
use mathlib.Core.List.{List, [], ◌∷◌, ◌++◌, append_assoc, append-nil}
use Prim.Native.Nat.{ℕ, zero, suc, ◌+◌, ◌-◌, ◌*◌, ◌<◌, ◌≤◌, zero-le}
use native.Mathlib.Nat.{not-suc-le-zero, le_of_suc-le-suc, zero-add, add-zero, add-suc, le_of_eq, suc-mul, zero-mul, mul-le-mul_right}
use native.Mathlib.Omega.{arith}
use native.Mathlib.Decide.{dec_lt}
use native.Mathlib.Numerals.{add-one}
use lib.ListN.{length, get_or, set, take, drop, replicate, length-append, length-take, length-drop, take-append-drop, drop_of_length-le, get_or-append}
use lib.Seq.{take_at, drop_at, drop-append-add, drop-drop, length-take-le, take-length, take-add, get_or-append-add, get_or-take, get_or-drop}
use borrow.Rule.Slice.PartMut.{put_mid}
use Rattle.lists.specs.Lists.{byte, put, up_to}

-- ---- products, for omega's list

pub within : (k n s : ℕ) → k < n → k * s + s ≤ n * s
within k n s h = rw (← suc-mul k s) (mul-le-mul_right s h)

pub one_more_times : (k s : ℕ) → (k + 1) * s ≡ k * s + s
one_more_times k s = rw (add-one, suc-mul)

-- ---- a list written over

pub put_none : (d : List ℕ) (at : ℕ) → d ≡ put d at []
unfolding put
put_none d at = sym (take-append-drop at d)

pub put_whole : (d s : List ℕ) → length d ≡ length s → put d 0 s ≡ s
unfolding put
put_whole d s h = rw (drop_of_length-le d (le_of_eq h)) (append-nil s)

-- t written after s is s and t written
pub put_more : (d s t : List ℕ) (at : ℕ) → at ≤ length d → put (put d at s) (at + length s) t ≡ put d at (s ++ t)
unfolding put
put_more d s t at h =
    let p = take at d in
    let r = drop at d in
    let l : length (p ++ s) ≡ at + length s = length-append p s ∙ rw (length-take-le at d h) in
    rw (
      ← append_assoc p s (drop (length s) r),
      take_at (p ++ s) (drop (length s) r) (at + length s) l,
      drop_at (p ++ s) (drop (length s) r) (at + length s) l,
      drop-drop (length t) (length s) r,
      length-append s t,
    )
    (simp append_assoc)

-- one list after another, from the front
pub put_next : (d s t : List ℕ) (n : ℕ) → length s ≡ n → put (put d 0 s) n t ≡ put d 0 (s ++ t)
put_next d s t n e = rw (← e, ← zero-add (length s)) (put_more d s t 0 zero-le)

-- what was written from the front, and the rest as it was
module _ (d s : List ℕ) (n : ℕ) (e : length s ≡ n) where
  pub take_put : take n (put d 0 s) ≡ s
  unfolding put
  take_put = take_at s _ n e

  pub drop_put : drop n (put d 0 s) ≡ drop n d
  unfolding put
  drop_put = drop_at s _ n e ∙ rw e

-- what is written over by as much or more leaves nothing
pub put_over : (d s t : List ℕ) (at : ℕ) → at ≤ length d → length s ≤ length t → put (put d at s) at t ≡ put d at t
unfolding put
put_over d s t at h l =
    let p = take at d in
    let q = drop (length s) (drop at d) in
    let e : length p ≡ at = length-take-le at d h in
    let m = length t - length s in
    let n : length t ≡ length s + m = omega arith in
    rw (take_at p (s ++ q) at e, drop_at p (s ++ q) at e, n, drop-append-add s q m, drop-drop m (length s) (drop at d))

pub put_length : (d s : List ℕ) (at : ℕ) → at + length s ≤ length d → length (put d at s) ≡ length d
unfolding put
put_length d s at h = simp (length-append, length-take, length-drop) (omega arith)

-- one number set is a list of one, put there
pub set_put : (l : List ℕ) (i v : ℕ) → i < length l → set l i v ≡ put l i (v ∷ [])
unfolding put
set_put [] i v h = absurd (not-suc-le-zero h)
set_put (x ∷ xs) zero v h = refl
set_put (x ∷ xs) (suc i) v h = ap (λ (l : List ℕ). x ∷ l) (set_put xs i v (le_of_suc-le-suc h))

pub zero_at : (m j : ℕ) → get_or {A = ℕ} (replicate m 0) j 0 ≡ 0
zero_at zero j = refl
zero_at (suc m) zero = refl
zero_at (suc m) (suc j) = zero_at m j

-- past a list of n elements stands the next
pub skip : (p q : List ℕ) (n j : ℕ) → length p ≡ n → byte (p ++ q) (n + j) ≡ byte q j
skip p q n j h = rw (← h) (get_or-append-add p q j 0)

module _ (d s : List ℕ) (at : ℕ) (h : at ≤ length d) where
  pub put_before : (i : ℕ) → i < at → byte (put d at s) i ≡ byte d i
  unfolding put
  put_before i l = get_or-append (take at d) _ 0 i (rw (length-take-le at d h) l) ∙ get_or-take at d i 0 l

  pub put_inside : (j : ℕ) → j < length s → byte (put d at s) (at + j) ≡ byte s j
  unfolding put
  put_inside j l = skip (take at d) _ at j (length-take-le at d h) ∙ get_or-append s _ 0 j l

  pub put_after : (i : ℕ) → at + length s ≤ i → byte (put d at s) i ≡ byte d i
  unfolding put
  put_after i l =
      let j = i - (at + length s) in
      let e : i ≡ at + (length s + j) = omega arith in
      rw e (
      skip (take at d) _ at (length s + j) (length-take-le at d h)
      ∙ skip s _ (length s) j refl
      ∙ get_or-drop (length s) (drop at d) j 0
      ∙ get_or-drop at d (length s + j) 0
      )

-- a part that was lent comes back as it was written
pub lent : (xs ys : List ℕ) (a n : ℕ) → length ys ≡ n → put_mid a n xs ys ≡ put xs a ys
unfolding put
lent xs ys a n h = rw (← h)

-- ---- lists put together

pub up_to_same : (n : ℕ) (f g : ℕ → List ℕ) → ((i : ℕ) → i < n → f i ≡ g i) → up_to n f ≡ up_to n g
unfolding up_to
up_to_same zero f g h = refl
up_to_same (suc n) f g h = rw (up_to_same n f g (λ i l. h i (omega arith)), h n (omega arith))

-- the first m, and n after them
pub up_to_more : (m n : ℕ) (f : ℕ → List ℕ) → up_to (m + n) f ≡ up_to m f ++ up_to n (λ i. f (m + i))
unfolding up_to
up_to_more m zero f = rw (add-zero m) (sym (append-nil (up_to m f)))
up_to_more m (suc n) f = rw (add-suc m n, up_to_more m n f) (append_assoc (up_to m f) (up_to n (λ i. f (m + i))) (f (m + n)))

-- n runs of w each, one after the other
pub up_to_flat : (w n : ℕ) (f : ℕ → List ℕ) → up_to n (λ k. up_to w (λ i. f (k * w + i))) ≡ up_to (n * w) f
unfolding up_to
up_to_flat w zero f = rw (zero-mul w)
up_to_flat w (suc n) f = rw (up_to_flat w n f, suc-mul n w) (sym (up_to_more (n * w) w f))

-- ---- n lists of w elements each

module _ (w : ℕ) (f : ℕ → List ℕ) (each : (k : ℕ) → length (f k) ≡ w) where
  pub up_to_length : (n : ℕ) → length (up_to n f) ≡ n * w
  unfolding up_to
  up_to_length zero = sym (zero-mul w)
  up_to_length (suc n) = length-append (up_to n f) (f n) ∙ rw (up_to_length n, each n, suc-mul)

  -- element j of the k-th
  pub up_to_at : (n k j : ℕ) → k < n → j < w → byte (up_to n f) (k * w + j) ≡ byte (f k) j
  unfolding up_to
  up_to_at zero k j h l = absurd (not-suc-le-zero h)
  up_to_at (suc n) k j h l = elim (dec_lt k n) [
    | yes g ↦ get_or-append (up_to n f) (f n) 0 (k * w + j) (rw (up_to_length n) (omega (arith, within k n w g))) ∙ up_to_at n k j g l
    | no g ↦
        let e : k ≡ n = omega arith in
        rw e (skip (up_to n f) (f n) (n * w) j (up_to_length n))
  ]

-- parts of d, one after the other, are one part
pub up_to_run : (w a n : ℕ) (d : List ℕ) (f : ℕ → List ℕ) → ((k : ℕ) → k < n → f k ≡ take w (drop (a + k * w) d))
    → up_to n f ≡ take (n * w) (drop a d)
unfolding up_to
up_to_run w a zero d f h = rw (zero-mul w)
up_to_run w a (suc n) d f h =
    rw (up_to_run w a n d f (λ k l. h k (omega arith)), h n (omega arith), suc-mul n w, take-add (n * w) w (drop a d), drop-drop (n * w) a d)
