-- Laws of decimal numbers, and of texts written one after the other.
use mathlib.Core.Path.{◌≡◌, refl, sym, ◌∙◌}
use mathlib.Core.List.{List, [], ◌∷◌, ◌++◌, append_assoc}
use Prim.Native.Nat.{ℕ, zero, suc, ◌+◌, ◌-◌, ◌/◌, ◌%◌, ◌^◌, ◌<◌, ◌≤◌}
use native.Mathlib.Nat.{pow-le-pow_right, le_antisymm}
use native.Mathlib.Numerals.{sub-one}
use native.Mathlib.Omega.{arith}
use native.Mathlib.Decide.{dec_lt}
use lib.ListN.{length, length-append}
use borrow.Author.Tests.{lt-ltb, le-ltb}
use Rattle.std.specs.Fmt.{decimal}
use Rattle.std.proofs.lemmas.Fmt.{decimal_by_steps}
use Rattle.io.specs.Digits.{hex_digit_ascii, last_digits, IsDigitCount}
use Rattle.lines.specs.Lines.{places, places_of, decimal_of, field_of, line_of}

-- ---- how many digits

-- where a digits hold n, the fewest are no more
pub no_more : (n a b : ℕ) → 1 ≤ a → n < 10 ^ a → IsDigitCount 10 1 n b → b ≤ a
no_more n a b o h f = elim (dec_lt a b) [
  | yes l ↦
      let top : 10 ^ (b - 1) ≤ n = f.2 (omega arith) in
      let up : 10 ^ a ≤ 10 ^ (b - 1) = pow-le-pow_right (omega arith) (omega arith) in
      omega arith
  | no l ↦ omega arith
]

-- only one count is the fewest
pub fewest_one : (n a b : ℕ) → IsDigitCount 10 1 n a → IsDigitCount 10 1 n b → a ≡ b
fewest_one n a b f g = le_antisymm (no_more n b a g.0 g.1 f) (no_more n a b f.0 f.1 g)

places_fewest : (k n : ℕ) → n < 10 ^ suc k → IsDigitCount 10 1 n (places k n)
unfolding places
places_fewest zero n h = (omega arith, h, λ l. omega arith)
places_fewest (suc k) n h = elim (dec_lt n (10 ^ suc k)) [
  | yes l ↦ rw (lt-ltb n (10 ^ suc k) l) (places_fewest k n l)
  | no l ↦
      let up : 10 ^ suc k ≤ n = omega arith in
      rw (le-ltb n (10 ^ suc k) up) (omega arith, h, λ _. rw sub-one up)
]

-- the definition counts the fewest digits that hold the number
pub decimal_fewest : (n : ℕ) → n < 10 ^ 20 → IsDigitCount 10 1 n (places_of n)
decimal_fewest n h = places_fewest 19 n h

digits_length : (b k n : ℕ) → length (last_digits b k n) ≡ k
digits_length b zero n = refl
digits_length b (suc k) n = length-append (last_digits b k (n / b)) _ ∙ rw (digits_length b k (n / b)) (omega arith)

-- a number's text has so many digits
pub decimal_length : (n : ℕ) → length (decimal_of n) ≡ places_of n
unfolding decimal_of
decimal_length n = digits_length 10 (places_of n) n

-- the fewest digits that hold n are its text
pub decimal_digits : (n k : ℕ) → n < 10 ^ 20 → IsDigitCount 10 1 n k → (last_digits 10 k n ≡ decimal_of n) × (k ≡ length (decimal_of n))
unfolding decimal_of
decimal_digits n k h f =
    let e : k ≡ places_of n = fewest_one n k (places_of n) f (decimal_fewest n h) in
    (rw e, e ∙ sym (decimal_length n))

-- ---- std's text of a number is the same

digit_is : (n : ℕ) → hex_digit_ascii (n % 10) ≡ 48 + n % 10
digit_is n = let h : n % 10 < 10 = omega arith in rw (lt-ltb (n % 10) 10 h)

one_digit : (n : ℕ) → n < 10 → (48 + n) ∷ [] ≡ decimal_of n
unfolding decimal_of
one_digit n h =
    let p : places_of n ≡ 1 = fewest_one n (places_of n) 1 (decimal_fewest n (omega arith)) (omega arith, h, λ l. absurd (omega arith)) in
    let e : n % 10 ≡ n = omega arith in
    rw (p, digit_is n, e)

-- a digit more
count_more : (n k : ℕ) → 10 ≤ n → IsDigitCount 10 1 (n / 10) k → IsDigitCount 10 1 n (suc k)
count_more n zero low f = absurd (omega (arith, f.0))
count_more n (suc zero) low f = (omega arith, omega (arith, f.1), λ _. low)
count_more n (suc (suc k)) low f =
    let u : 10 ^ suc k ≤ n / 10 = rw sub-one at (f.2 (omega arith)) in
    let v : 10 ^ suc (suc k) ≤ n = omega (arith, u) in
    (omega arith, omega (arith, f.1), λ _. rw sub-one v)

digit_more : (n : ℕ) (ds : List ℕ) → 10 ≤ n → n < 10 ^ 20 → ds ≡ decimal_of (n / 10) → ds ++ ((48 + n % 10) ∷ []) ≡ decimal_of n
unfolding decimal_of
digit_more n ds low h e =
    let p : places_of n ≡ suc (places_of (n / 10)) =
    fewest_one n (places_of n) (suc (places_of (n / 10))) (decimal_fewest n h) (count_more n (places_of (n / 10)) low (decimal_fewest (n / 10) (omega arith))) in
    rw (p, digit_is n, e)

pub decimal_same : (n : ℕ) → n < 2 ^ 64 → decimal n ≡ decimal_of n
decimal_same n h =
    decimal_by_steps (λ k ds. k < 10 ^ 20 → ds ≡ decimal_of k) (λ k l _. one_digit k l)
    (λ k ds low e l. digit_more k ds low l (e (omega arith))) n h (omega (arith, h))

-- five fields, one after the other, are the line; `a`, `f` and `s` are numbers as they were widened
pub line_is : (index answer place frames skipped a f s : ℕ) (b₀ b₁ b₂ b₃ b₄ b₅ : List ℕ) → a ≡ answer → f ≡ frames → s ≡ skipped
    → b₁ ≡ b₀ ++ field_of index 32 → b₂ ≡ b₁ ++ field_of a 32 → b₃ ≡ b₂ ++ field_of place 32 → b₄ ≡ b₃ ++ field_of f 32 → b₅ ≡ b₄ ++ field_of s 10
    → b₅ ≡ b₀ ++ line_of index answer place frames skipped
unfolding line_of
line_is index answer place frames skipped a f s b₀ b₁ b₂ b₃ b₄ b₅ p q r e₁ e₂ e₃ e₄ e₅ = e₅ ∙ rw (e₄, e₃, e₂, e₁, p, q, r) (simp append_assoc)
