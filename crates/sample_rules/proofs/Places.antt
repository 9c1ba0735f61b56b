-- A number's place among the numbers from -b on, and back, over b.
use mathlib.Core.Path.{◌≡◌, refl, sym, ap, ◌∙◌}
use Prim.Native.Nat.{ℕ, zero, suc, ◌+◌, ◌-◌, ◌^◌, ◌≤◌, ◌<◌}
use native.Mathlib.Omega.{arith}
use native.Mathlib.Decide.{dec_le}
use lib.Pow.{pow-add}
use lib.IntN.{ℤ, pos, negsuc, sub_ℕ, nat_abs, ◌+ℤ◌, ◌-ℤ◌}
use lib.Signed.{mag}
use borrow.Author.Tests.{le-ltb, lt-ltb}
use Rattle.sample_rules.specs.Convert.{rank}

pub doubles : (k : ℕ) → 1 ≤ k → 2 ^ k ≡ 2 ^ (k - 1) + 2 ^ (k - 1)
doubles k h = let e : k ≡ (k - 1) + 1 = omega arith in ap (λ (x : ℕ). 2 ^ x) e ∙ pow-add 2 (k - 1) 1 ∙ omega arith

pub sub_le : (a b : ℕ) → b ≤ a → sub_ℕ a b ≡ pos (a - b)
sub_le a b h = simp (le-ltb a b h)

pub sub_lt : (a b : ℕ) → a < b → sub_ℕ a b ≡ negsuc (b - suc a)
sub_lt a b h = simp (lt-ltb a b h)

-- a difference of naturals by cases on its sign
pub by_sign : (P : ℤ → Type 0) (a b : ℕ) → (b ≤ a → P (pos (a - b))) → (a < b → P (negsuc (b - suc a))) → P (sub_ℕ a b)
by_sign P a b f g = elim (dec_le b a) [ yes h ↦ rw (sub_le a b h) (f h) | no h ↦ let l : a < b = omega arith in rw (sub_lt a b l) (g l) ]

-- ---- place and number

pub sub_rank : (b : ℕ) (n : ℤ) → mag n < b → sub_ℕ (rank b n) b ≡ n
sub_rank b (pos n) h = sub_le (n + b) b (omega arith) ∙ ap pos (omega arith)
sub_rank b (negsuc n) h = sub_lt (b - suc n) b (omega arith) ∙ ap negsuc (omega arith)

pub rank_sub : (b u : ℕ) → rank b (sub_ℕ u b) ≡ u
rank_sub b u = by_sign (λ z. rank b z ≡ u) u b (λ h. omega arith) (λ h. omega arith)

pub rank_lt : (b : ℕ) (n : ℤ) → mag n < b → rank b n < b + b
rank_lt b (pos n) h = omega arith
rank_lt b (negsuc n) h = omega arith

-- what fits into b on either side
pub sub_mag : (u b m : ℕ) → u < m + b → b ≤ m → mag (sub_ℕ u b) < m
sub_mag u b m h l = by_sign (λ z. mag z < m) u b (λ g. omega arith) (λ g. omega arith)

-- ---- sums and differences

pub plus : (a b z : ℕ) → sub_ℕ a b +ℤ pos z ≡ sub_ℕ (a + z) b
plus a b z = elim (dec_le b a) [
  | yes h ↦ rw (sub_le a b h, sub_le (a + z) b (omega arith)) (ap pos (omega arith))
  | no h ↦ rw (sub_lt a b (omega arith)) (by_sign (λ x. sub_ℕ z (suc (b - suc a)) ≡ x) (a + z) b
      (λ g. sub_le z (suc (b - suc a)) (omega arith) ∙ ap pos (omega arith))
      (λ g. sub_lt z (suc (b - suc a)) (omega arith) ∙ ap negsuc (omega arith)))
]

pub pos_minus : (a b : ℕ) → pos a -ℤ pos b ≡ sub_ℕ a b
pos_minus a zero = rw (sub_le a 0 (omega arith)) (ap pos (omega arith))
pos_minus a (suc b) = refl

pub placed : (b : ℕ) (n : ℤ) → mag n < b → n +ℤ pos b ≡ pos (rank b n)
placed b n h =
    ap (λ (z : ℤ). z +ℤ pos b) (sym (sub_rank b n h))
    ∙ plus (rank b n) b b
    ∙ sub_le (rank b n + b) b (omega arith)
    ∙ ap pos (omega arith)

-- (a - b) - z
less : (a z : ℕ) → negsuc a -ℤ pos z ≡ negsuc (a + z)
less a zero = sub_lt 0 (suc a) (omega arith) ∙ ap negsuc (omega arith)
less a (suc z) = ap negsuc (omega arith)

pub sub_sub : (a b z : ℕ) → sub_ℕ a b -ℤ pos z ≡ sub_ℕ a (b + z)
sub_sub a b z = elim (dec_le b a) [
  | yes h ↦ rw (sub_le a b h, pos_minus (a - b) z) (elim (dec_le (b + z) a) [
    | yes g ↦ rw (sub_le a (b + z) g, sub_le (a - b) z (omega arith)) (ap pos (omega arith))
    | no g ↦ rw (sub_lt a (b + z) (omega arith), sub_lt (a - b) z (omega arith)) (ap negsuc (omega arith))
  ])
  | no h ↦ rw (sub_lt a b (omega arith), less (b - suc a) z, sub_lt a (b + z) (omega arith)) (ap negsuc (omega arith))
]

-- how far apart two naturals are
abbrev pub gap : ℕ → ℕ → ℕ
gap a b = (a - b) + (b - a)

pub abs_sub : (a b : ℕ) → nat_abs (sub_ℕ a b) ≡ gap a b
abs_sub a b = by_sign (λ z. nat_abs z ≡ gap a b) a b (λ h. omega arith) (λ h. omega arith)
