-- A converted number is the nearest that its type has, there is one such number only, widening is exact, and a number that is
-- widened and narrowed again is itself. Over the types' widths.
use mathlib.Core.Path.{◌≡◌, sym, ap, ap₂, ◌∙◌, subst}
use mathlib.Core.Bool.{true}
use Prim.Native.Nat.{ℕ, ◌+◌, ◌*◌, ◌-◌, ◌%◌, ◌^◌, ◌≤◌, ◌<◌}
use native.Mathlib.Omega.{arith}
use native.Mathlib.Decide.{dec_le}
use native.Mathlib.Nat.{mul_assoc, mul_comm, mul-one, pow-zero, sub_self, le_refl}
use lib.Pow.{pow_pos, pow-add}
use lib.IntN.{ℤ, pos, nat_abs, sub_ℕ, ◌-ℤ◌, ◌*ℤ◌}
use borrow.Author.Tests.{le-leb, lt-leb}
use Rattle.formats.specs.declared.Integer.{Integer}
use Rattle.formats.specs.declared.Integer.TheVariants.{Signed24}
use Rattle.formats.specs.declared.Format.TheVariants.{Whole}
use Rattle.formats.specs.Formats.{width_of, has}
use Rattle.sample_rules.specs.Convert.{bias_of, rank_of, number_at, narrowed, rescaled, converted, carried}
use Rattle.sample_rules.specs.Nearest.{value_of, apart, Nearest, Exact}
use Rattle.sample_rules.proofs.Places.{sub_le, sub_lt, gap, abs_sub, rank_sub, sub_sub}
use Rattle.sample_rules.proofs.Signed.{parity, times}
use Rattle.sample_rules.proofs.Formats.{width_ge, bias_even, rank_below, rank_back, number_has, centred}
use Rattle.sample_rules.proofs.Rescaled.{narrowed_lt, rescaled_lt}
use Rattle.sample_rules.proofs.Rounds.{NearestPlace, one_only, narrowed_rounds, narrowed_nearest, exact_nearest}

-- ---- how far apart two numbers are is how far apart their places are

abs_between : (a b h : ℕ) → nat_abs (sub_ℕ a h -ℤ sub_ℕ b h) ≡ gap a b
abs_between a b h = elim (dec_le h b) [
  | yes k ↦ rw (sub_le b h k, sub_sub a h (b - h), abs_sub) (omega arith)
  | no k ↦ elim (dec_le h a) [
    | yes g ↦ rw (sub_lt b h (omega arith), sub_le a h g) (omega arith)
    | no g ↦ rw (sub_lt b h (omega arith), sub_lt a h (omega arith), abs_sub) (omega arith)
  ]
]

abbrev half : Integer → ℕ
half f = 2 ^ (width_of f - 1)

scaled : (f : Integer) (u p : ℕ) → 0 < p → (value_of f (number_at f u)).whole *ℤ pos p ≡ sub_ℕ (u * p) (half f * p)
scaled f u p h = rw (centred f u) (times u (half f) p h)

apart_is : (f t : Integer) (u y : ℕ) → apart (value_of f (number_at f u)) t (number_at t y) ≡ gap (u * half t) (y * half f)
apart_is f t u y =
    ap nat_abs (ap₂ (λ (a b : ℤ). a -ℤ b) (scaled f u (half t) (pow_pos (width_of t - 1))) (scaled t y (half f) (pow_pos (width_of f - 1)) ∙ ap (sub_ℕ (y * half f)) (mul_comm (half t) (half f))))
    ∙ abs_between (u * half t) (y * half f) (half f * half t)

-- ---- places, over the widths w and v

-- the step of a type of w bits is that of one of v bits, times 2 ^ (v - w)
finer : (w v : ℕ) → 1 ≤ w → w ≤ v → 2 ^ (v - w) * 2 ^ (w - 1) ≡ 2 ^ (v - 1)
finer w v h l = let e : v - 1 ≡ (v - w) + (w - 1) = omega arith in rw e (sym (pow-add 2 (v - w) (w - 1)))

widened_is : (w v u : ℕ) → 1 ≤ w → w ≤ v → u * 2 ^ (v - 1) ≡ rescaled w v u * 2 ^ (w - 1)
unfolding rescaled
widened_is w v u h k = simp (le-leb w v k, mul_assoc u (2 ^ (v - w)) (2 ^ (w - 1)), finer w v h k)

rescaled_nearest : (w v u : ℕ) → 1 ≤ w → 1 ≤ v → u < 2 ^ w → NearestPlace (u * 2 ^ (v - 1)) (2 ^ (w - 1)) (2 ^ v - 1) (rescaled w v u)
unfolding rescaled
rescaled_nearest w v u a b h =
    let l : rescaled w v u ≤ 2 ^ v - 1 = omega (arith, rescaled_lt w v u h) in
    elim (dec_le w v) [
      | yes k ↦ exact_nearest (u * 2 ^ (v - 1)) (2 ^ (w - 1)) (2 ^ v - 1) (rescaled w v u) (pow_pos (w - 1)) l (widened_is w v u a k)
      | no k ↦
          (let g : v ≤ w = omega arith in
          let e : v + (w - v) ≡ w = omega arith in
          rw (← finer v w b g)
          (simp (lt-leb w v (omega arith))
          (narrowed_nearest (2 ^ (w - v)) (2 ^ (v - 1)) (2 ^ v - 1) u (narrowed (w - v) v u) (pow_pos (w - v)) (pow_pos (v - 1))
          (omega (arith, narrowed_lt (w - v) v u)) (narrowed_rounds (w - v) v u (rw e h)))))
    ]

-- back again
there_and_back : (w v u : ℕ) → 1 ≤ w → w ≤ v → u < 2 ^ w → rescaled v w (rescaled w v u) ≡ u
there_and_back w v u a k h =
    one_only (rescaled w v u * 2 ^ (w - 1)) (2 ^ (v - 1)) (2 ^ w - 1) (rescaled v w (rescaled w v u)) u (pow_pos (v - 1))
    (rescaled_nearest v w (rescaled w v u) (omega arith) a (rescaled_lt w v u h))
    (exact_nearest _ _ _ u (pow_pos (v - 1)) (omega arith) (sym (widened_is w v u a k)))

-- ---- numbers

one_bit : (f : Integer) → 1 ≤ width_of f
one_bit f = omega (arith, width_ge f)

even_is : (f : Integer) (u : ℕ) → nat_abs (number_at f u) % 2 ≡ u % 2
even_is f u = parity u (bias_of f) (bias_even f)

module _ (f t : Integer) where
  from_place : (u y : ℕ) → NearestPlace (u * half t) (half f) (2 ^ width_of t - 1) y → Nearest (value_of f (number_at f u)) t (number_at t y)
  from_place u y n = record {
    is_one = number_has t y (omega (arith, pow_pos (width_of t), n.place));
    near = λ m h. subst (λ (x : ℤ). apart (value_of f (number_at f u)) t (number_at t y) ≤ apart (value_of f (number_at f u)) t x) (rank_back t m h)
        (rw (apart_is f t u y, apart_is f t u (rank_of t m)) (n.near_to (rank_of t m) (omega (arith, rank_below t m h))));
    even_at_a_tie = λ m h e d.
        even_is t y ∙ n.even_if (rank_of t m) (omega (arith, rank_below t m h))
        (sym (apart_is f t u y) ∙ e ∙ ap (λ (x : ℤ). apart (value_of f (number_at f u)) t x) (sym (rank_back t m h)) ∙ apart_is f t u (rank_of t m))
        (λ q. d (sym (rank_back t m h) ∙ ap (number_at t) q));
  }

  to_place : (u y : ℕ) → y < 2 ^ width_of t → Nearest (value_of f (number_at f u)) t (number_at t y) → NearestPlace (u * half t) (half f) (2 ^ width_of t - 1) y
  to_place u y l n = record {
    place = omega arith;
    near_to = λ m h. rw (apart_is f t u y, apart_is f t u m) at (n.near (number_at t m) (below m h));
    even_if = λ m h e d. sym (even_is t y) ∙ n.even_at_a_tie (number_at t m) (below m h)
        (apart_is f t u y ∙ e ∙ sym (apart_is f t u m))
        (λ q. d (sym (rank_sub (bias_of t) m) ∙ ap (rank_of t) q ∙ rank_sub (bias_of t) y));
  }
    where
      below : (m : ℕ) → m ≤ 2 ^ width_of t - 1 → has t (number_at t m) ≡ true
      below m h = number_has t m (omega (arith, pow_pos (width_of t)))

  pub converted_has : (n : ℤ) → has f n ≡ true → has t (converted f t n) ≡ true
  unfolding converted
  converted_has n h = number_has t _ (rescaled_lt (width_of f) (width_of t) (rank_of f n) (rank_below f n h))

  -- a converted number is the nearest
  pub converted_nearest : (n : ℤ) → has f n ≡ true → Nearest (value_of f n) t (converted f t n)
  unfolding converted
  converted_nearest n h =
      subst (λ (x : ℤ). Nearest (value_of f x) t (converted f t n)) (rank_back f n h)
      (from_place (rank_of f n) (rescaled (width_of f) (width_of t) (rank_of f n))
      (rescaled_nearest (width_of f) (width_of t) (rank_of f n) (one_bit f) (one_bit t) (rank_below f n h)))

  -- and no other number is
  pub nearest_one_only : (n r s : ℤ) → has f n ≡ true → Nearest (value_of f n) t r → Nearest (value_of f n) t s → r ≡ s
  nearest_one_only n r s h a b =
      sym (rank_back t r a.is_one)
      ∙ ap (number_at t) (one_only _ _ _ (rank_of t r) (rank_of t s) (pow_pos (width_of f - 1)) (at r a) (at s b))
      ∙ rank_back t s b.is_one
    where
      at : (r : ℤ) → Nearest (value_of f n) t r → NearestPlace (rank_of f n * half t) (half f) (2 ^ width_of t - 1) (rank_of t r)
      at r a = to_place (rank_of f n) (rank_of t r) (rank_below t r a.is_one) (rw (rank_back f n h, rank_back t r a.is_one) a)

  -- widened, a number stands for the same value
  pub widened_exact : (n : ℤ) → has f n ≡ true → width_of f ≤ width_of t → Exact f n t (converted f t n)
  unfolding converted
  widened_exact n h k =
      subst (λ (x : ℤ). Exact f x t (converted f t n)) (rank_back f n h)
      (apart_is f t (rank_of f n) (rescaled (width_of f) (width_of t) (rank_of f n))
      ∙ omega (arith, widened_is (width_of f) (width_of t) (rank_of f n) (one_bit f) k))

  -- widened and narrowed again, a number is itself
  pub widened_narrowed : (n : ℤ) → has f n ≡ true → width_of f ≤ width_of t → converted t f (converted f t n) ≡ n
  unfolding converted
  widened_narrowed n h k =
      ap (λ (x : ℕ). number_at f (rescaled (width_of t) (width_of f) x)) (rank_sub (bias_of t) (rescaled (width_of f) (width_of t) (rank_of f n)))
      ∙ ap (number_at f) (there_and_back (width_of f) (width_of t) (rank_of f n) (one_bit f) k (rank_below f n h))
      ∙ rank_back f n h

-- the same type to the same type gives the number back
pub converted_same : (f : Integer) (n : ℤ) → has f n ≡ true → converted f f n ≡ n
unfolding converted rescaled
converted_same f n h =
    simp (le-leb (width_of f) (width_of f) (le_refl (width_of f)), sub_self, pow-zero, mul-one) (rank_back f n h)

-- a type as wide as a slot carries every slot as it is
pub carried_whole : (f : Integer) (n : ℤ) → has Signed24 n ≡ true → 24 ≤ width_of f → carried (Whole f) n ≡ n
unfolding carried
carried_whole f n h k = widened_narrowed Signed24 f n h k
