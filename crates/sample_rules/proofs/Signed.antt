-- Shifts, parity and products of a difference of naturals: the machine's signed operations, on places.
use mathlib.Core.Path.{◌≡◌, sym, ap, ◌∙◌}
use Prim.Native.Nat.{ℕ, zero, suc, ◌+◌, ◌-◌, ◌*◌, ◌/◌, ◌%◌, ◌≤◌, ◌<◌}
use native.Mathlib.Omega.{arith}
use native.Mathlib.Decide.{dec_le}
use native.Mathlib.Nat.{mul-le-mul_right, suc-mul, mul-sub, mul_comm, not-suc-le-zero, div-add-mod', mod-lt}
use lib.Arith.{digits_div}
use lib.Dec.{ltb}
use lib.IntN.{pos, negsuc, neg_ℤ, sub_ℕ, nat_abs, ◌*ℤ◌}
use lib.Signed.{shr_z, lt_z}
use borrow.Author.Tests.{lt-ltb, le-ltb}
use Rattle.lists.proofs.Tables.{less_alike}
use Rattle.sample_rules.proofs.Places.{sub_le, sub_lt, by_sign}

-- a shift that rounds down
pub shifted : (u c p : ℕ) → 0 < p → shr_z (sub_ℕ u (c * p)) p ≡ sub_ℕ (u / p) c
shifted u c p h =
    let q = u / p in
    let r = u % p in
    let e : q * p + r ≡ u = div-add-mod' u p in
    let l : r < p = mod-lt u h in
    elim (dec_le c q) [
      | yes g ↦
          (let k = mul-le-mul_right p g in
          let s : u - c * p ≡ (q - c) * p + r = omega (arith, mul-sub p q c, mul_comm p q, mul_comm p c, mul_comm p (q - c)) in
          rw (sub_le u (c * p) (omega arith), sub_le q c g, s, digits_div (q - c) l))
      | no g ↦
          (let n : suc q ≤ c = omega arith in
          let k = mul-le-mul_right p n in
          let s : c * p - suc u ≡ (c - suc q) * p + (p - suc r) =
          omega (arith, suc-mul q p, mul-sub p c (suc q), mul_comm p c, mul_comm p (suc q), mul_comm p (c - suc q)) in
          let t : p - suc r < p = omega arith in
          rw (sub_lt u (c * p) (omega (arith, suc-mul q p)), sub_lt q c n, s, digits_div (c - suc q) t))
    ]

-- the parity of a number is its place's, counted from an even bias
pub parity : (a c : ℕ) → c % 2 ≡ 0 → nat_abs (sub_ℕ a c) % 2 ≡ a % 2
parity a c e = by_sign (λ z. nat_abs z % 2 ≡ a % 2) a c (λ h. omega arith) (λ h. omega arith)

-- an order of numbers is that of their places
pub less_is : (a c b : ℕ) → lt_z (sub_ℕ a b) (sub_ℕ c b) ≡ ltb a c
less_is a c b =
    by_sign (λ z. lt_z z (sub_ℕ c b) ≡ ltb a c) a b
    (λ h. by_sign (λ z. lt_z (pos (a - b)) z ≡ ltb a c) c b
    (λ g. less_alike (a - b) (c - b) a c (λ l. omega arith) (λ l. omega arith))
    (λ g. sym (le-ltb a c (omega arith))))
    (λ h. by_sign (λ z. lt_z (negsuc (b - suc a)) z ≡ ltb a c) c b
    (λ g. sym (lt-ltb a c (omega arith)))
    (λ g. less_alike (b - suc c) (b - suc a) a c (λ l. omega arith) (λ l. omega arith)))

neg_pos : (n : ℕ) → 0 < n → neg_ℤ (pos n) ≡ negsuc (n - 1)
neg_pos zero h = absurd (not-suc-le-zero h)
neg_pos (suc n) h = ap negsuc (omega arith)

-- a product with a natural
pub times : (a b p : ℕ) → 0 < p → sub_ℕ a b *ℤ pos p ≡ sub_ℕ (a * p) (b * p)
times a b p q = elim (dec_le b a) [
  | yes h ↦ rw (sub_le a b h, sub_le (a * p) (b * p) (mul-le-mul_right p h))
      (ap pos (mul_comm (a - b) p ∙ mul-sub p a b ∙ omega (arith, mul_comm p a, mul_comm p b)))
  | no h ↦
      (let l : suc a ≤ b = omega arith in
      let k = mul-le-mul_right p l in
      let e : suc (b - suc a) * p ≡ b * p - a * p =
      omega (arith, suc-mul (b - suc a) p, suc-mul a p, mul-sub p b (suc a), mul_comm p b, mul_comm p (suc a), mul_comm p (b - suc a)) in
      let g : a * p < b * p = omega (arith, suc-mul a p) in
      rw (sub_lt a b l, e, sub_lt (a * p) (b * p) g, neg_pos (b * p - a * p) (omega arith)) (ap negsuc (omega arith)))
]
