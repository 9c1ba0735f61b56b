-- Rounding among places: over the power P and the top place.
use mathlib.Core.Path.{◌≡◌, sym, subst}
use Prim.Native.Nat.{ℕ, ◌+◌, ◌*◌, ◌-◌, ◌/◌, ◌%◌, ◌^◌, min, ◌≤◌, ◌<◌}
use native.Mathlib.Omega.{arith}
use native.Mathlib.Decide.{dec_le, dec_lt}
use native.Mathlib.Nat.{mul-le-mul_right, suc-mul, add-mul, mul-sub, mul_comm, mul_assoc, eq_of_mul-eq-mul_right, min-eq_left, div-add-mod', mod-lt}
use lib.Pow.{pow_pos, shr_lt}
use borrow.Author.Tests.{lt-ltb, le-ltb}
use Rattle.sample_rules.specs.Convert.{rounded_of, narrowed}
use Rattle.sample_rules.proofs.Places.{gap}

-- r is less than half a step away, or half a step and even, or the last place, with u past it
pub data Rounds (P top u r : ℕ) : Type 0 where
  close : r ≤ top → gap u (r * P) * 2 < P → Rounds P top u r
  tie : r ≤ top → gap u (r * P) * 2 ≡ P → r % 2 ≡ 0 → Rounds P top u r
  last : r ≡ top → r * P ≤ u → Rounds P top u r

step : {m r : ℕ} (P : ℕ) → m < r → m * P + P ≤ r * P
step {m} {r} P h = omega (arith, mul-le-mul_right P h, suc-mul m P)

module _ (P top u r m : ℕ) (pos : 0 < P) (h : m ≤ top) where
  data Side : Type 0 where
    below : m < r → m * P + P ≤ r * P → Side
    same : m ≡ r → Side
    above : r < m → r * P + P ≤ m * P → Side

  side : Side
  side = elim (dec_lt m r) [
    | yes l ↦ below l (step P l)
    | no l ↦ elim (dec_lt r m) [ yes g ↦ above g (step P g) | no g ↦ same (omega arith) ]
  ]

  near_at : Rounds P top u r → Side → gap u (r * P) ≤ gap u (m * P)
  near_at c (same e) = rw e (omega arith)
  near_at (close l a) (below b s) = omega arith
  near_at (close l a) (above b s) = omega arith
  near_at (tie l a e) (below b s) = omega arith
  near_at (tie l a e) (above b s) = omega arith
  near_at (last e a) (below b s) = omega arith
  near_at (last e a) (above b s) = omega arith

  pub near : Rounds P top u r → gap u (r * P) ≤ gap u (m * P)
  near c = near_at c side

  even_at : Rounds P top u r → Side → gap u (r * P) ≡ gap u (m * P) → (m ≡ r → ⊥) → r % 2 ≡ 0
  even_at c (same e) g d = absurd (d e)
  even_at (tie l a e) (below b s) g d = e
  even_at (tie l a e) (above b s) g d = e
  even_at (close l a) (below b s) g d = omega arith
  even_at (close l a) (above b s) g d = omega arith
  even_at (last e a) (below b s) g d = omega arith
  even_at (last e a) (above b s) g d = omega arith

  pub even : Rounds P top u r → gap u (r * P) ≡ gap u (m * P) → (m ≡ r → ⊥) → r % 2 ≡ 0
  even c = even_at c side

-- ---- what is rounded by the tests, rounds

module _ (P top q t : ℕ) (l : t < P) (h : q ≤ top) where
  lower : {x : ℕ} → x ≡ q → t * 2 ≤ P → (t * 2 ≡ P → q % 2 ≡ 0) → Rounds P top (q * P + t) (min x top)
  lower c a e = rw (c, min-eq_left h) (elim (dec_lt (t * 2) P) [
    | yes g ↦ close h (omega arith)
    | no g ↦ tie h (omega arith) (e (omega arith))
  ])

  upper : {x : ℕ} → x ≡ q + 1 → P ≤ t * 2 → (t * 2 ≡ P → (q + 1) % 2 ≡ 0) → Rounds P top (q * P + t) (min x top)
  upper c a e =
      let z = add-mul q 1 P in
      elim (dec_le (q + 1) top) [
        | yes k ↦ rw (c, min-eq_left k) (elim (dec_lt P (t * 2)) [
          | yes g ↦ close k (omega arith)
          | no g ↦ tie k (omega arith) (e (omega arith))
        ])
        | no k ↦ (let d : min (q + 1) top ≡ q = omega arith in rw (c, d) (last (omega arith) (omega arith)))
      ]

  rounds : Rounds P top (q * P + t) (min (rounded_of q t P) top)
  rounds = elim (dec_lt (t * 2) P) [
    | yes k ↦ simp (lt-ltb (t * 2) P k) (lower (omega arith) (omega arith) (λ e. omega arith))
    | no k ↦ elim (dec_lt P (t * 2)) [
      | yes g ↦ simp (le-ltb (t * 2) P (omega arith), lt-ltb P (t * 2) g) (upper (omega arith) (omega arith) (λ e. omega arith))
      | no g ↦ simp (le-ltb (t * 2) P (omega arith), le-ltb P (t * 2) (omega arith)) (elim (dec_lt 0 (q % 2)) [
        | yes o ↦ upper (omega arith) (omega arith) (λ e. omega arith)
        | no o ↦ lower (omega arith) (omega arith) (λ e. omega arith)
      ])
    ]
  ]

pub narrowed_rounds : (k v u : ℕ) → u < 2 ^ (v + k) → Rounds (2 ^ k) (2 ^ v - 1) u (narrowed k v u)
unfolding narrowed
narrowed_rounds k v u h =
    let P = 2 ^ k in
    subst (λ (x : ℕ). Rounds P (2 ^ v - 1) x (min (rounded_of (u / P) (u % P) P) (2 ^ v - 1))) (div-add-mod' u P)
    (rounds P (2 ^ v - 1) (u / P) (u % P) (mod-lt u (pow_pos k)) (omega (arith, shr_lt {n = u} v k h)))

-- ---- the nearest place, and that there is one only

-- of the places r up to the top, which stand at r * b, the nearest to x; at a tie, the even one
pub record NearestPlace (x b top r : ℕ) : Type 0 where
  pub place : r ≤ top
  pub near_to : (m : ℕ) → m ≤ top → gap x (r * b) ≤ gap x (m * b)
  pub even_if : (m : ℕ) → m ≤ top → gap x (r * b) ≡ gap x (m * b) → (m ≡ r → ⊥) → r % 2 ≡ 0

-- two would both be even, and the place between them nearer
apart_not : (x b top r s : ℕ) → 0 < b → NearestPlace x b top r → NearestPlace x b top s → r < s → ⊥
apart_not x b top r s p n o h =
    let e : gap x (r * b) ≡ gap x (s * b) = omega (arith, n.near_to s o.place, o.near_to r n.place) in
    let i : r % 2 ≡ 0 = n.even_if s o.place e (λ q. omega arith) in
    let j : s % 2 ≡ 0 = o.even_if r n.place (sym e) (λ q. omega arith) in
    let g : r + 1 < s = omega arith in
    let y : r + 1 ≤ top = omega (arith, o.place) in
    omega (arith, n.near_to (r + 1) y, add-mul r 1 b, step b h, step b g)

pub one_only : (x b top r s : ℕ) → 0 < b → NearestPlace x b top r → NearestPlace x b top s → r ≡ s
one_only x b top r s p n o = elim (dec_lt r s) [
  | yes h ↦ absurd (apart_not x b top r s p n o h)
  | no h ↦ elim (dec_lt s r) [ yes g ↦ absurd (apart_not x b top s r p o n g) | no g ↦ omega arith ]
]

-- ---- the scale of both does not matter

gap_mul : (x y a : ℕ) → gap (x * a) (y * a) ≡ gap x y * a
gap_mul x y a = elim (dec_le x y) [
  | yes h ↦ (let c : gap x y ≡ y - x = omega arith in rw c (omega (arith, mul-le-mul_right a h, mul-sub a y x, mul_comm a (y - x), mul_comm a y, mul_comm a x)))
  | no h ↦ (let c : gap x y ≡ x - y = omega arith in let g : y ≤ x = omega arith in rw c (omega (arith, mul-le-mul_right a g, mul-sub a x y, mul_comm a (x - y), mul_comm a y, mul_comm a x)))
]

pub narrowed_nearest : (P a top u r : ℕ) → 0 < P → 0 < a → r ≤ top → Rounds P top u r → NearestPlace (u * a) (P * a) top r
narrowed_nearest P a top u r p q l c = record {
  place = l;
  near_to = λ m h. rw (scaled r, scaled m) (mul-le-mul_right a (near P top u r m p h c));
  even_if = λ m h e d. even P top u r m p h c (eq_of_mul-eq-mul_right a q _ _ (rw (scaled r, scaled m) at e)) d;
}
  where
    scaled : (m : ℕ) → gap (u * a) (m * (P * a)) ≡ gap u (m * P) * a
    scaled m = rw (← mul_assoc m P a) (gap_mul u (m * P) a)

-- what is hit is the nearest
pub exact_nearest : (x b top r : ℕ) → 0 < b → r ≤ top → x ≡ r * b → NearestPlace x b top r
exact_nearest x b top r p l e = record {
  place = l;
  near_to = λ m h. omega arith;
  even_if = λ m h g d. absurd (d (eq_of_mul-eq-mul_right b p m r (omega arith)));
}
