-- The laws of names.
use mathlib.Core.Path.{◌≡◌, refl, sym, ap, ◌∙◌}
use mathlib.Core.Logic.{◌↔◌}
use mathlib.Core.Bool.{true, false}
use mathlib.Core.List.{List, [], ◌∷◌, ◌++◌}
use Prim.Native.Nat.{ℕ, zero, suc, ◌-◌, ◌≤◌, ◌<◌, zero-le, suc-le-suc}
use native.Mathlib.Nat.{suc-ne-zero, le_of_suc-le-suc, not-suc-le-zero, min-le_right, le_of_eq}
use native.Mathlib.Omega.{arith}
use lib.Dec.{ltb, eqb, eqb-suc-zero}
use lib.ListN.{length, get_or, take, drop, replicate, length-append, length-take, length-replicate, take-append-drop, get_or-eq_default}
use lib.Seq.{drop-nil}
use borrow.Author.Tests.{le-ltb, ltb-false, eq-eqb, ne_eqb, eqb-true, eqb-false}
use Rattle.lists.specs.Lists.{index_of, index_after}
use Rattle.lists.specs.Tables.{choose}
use Rattle.lists.proofs.Tables.{by_test, true_false}
use Rattle.wire_rules.specs.Names.{name_end, name_of, Ends, over, zero_next, NameEnds, printable, good_name, kept_name, same_bytes, same_name, GoodName}

-- ---- a name, byte by byte

pub name_nil : name_of [] ≡ []
unfolding name_of name_end index_of
name_nil = refl

pub name_stop : (xs : List ℕ) → name_of (zero ∷ xs) ≡ []
unfolding name_of name_end index_of index_after
name_stop xs = refl

pub name_go : (x : ℕ) (xs : List ℕ) → name_of (suc x ∷ xs) ≡ suc x ∷ name_of xs
unfolding name_of name_end index_of index_after
name_go x xs = rw (eqb-suc-zero x)

-- from a zero on, or past the end, there is none
pub name_ends : (n : List ℕ) (i : ℕ) → get_or n i 0 ≡ 0 → name_of (drop i n) ≡ []
name_ends [] i e = rw (drop-nil i) name_nil
name_ends (zero ∷ xs) zero e = name_stop xs
name_ends (suc x ∷ xs) zero e = absurd (suc-ne-zero x e)
name_ends (x ∷ xs) (suc i) e = name_ends xs i e

pub name_goes : (n : List ℕ) (i : ℕ) → (get_or n i 0 ≡ 0 → ⊥) → name_of (drop i n) ≡ get_or n i 0 ∷ name_of (drop (suc i) n)
name_goes [] i h = absurd (h (get_or-eq_default [] 0 {n = i} zero-le))
name_goes (zero ∷ xs) zero h = absurd (h refl)
name_goes (suc x ∷ xs) zero h = name_go x xs
name_goes (x ∷ xs) (suc i) h = name_goes xs i h

-- as many bytes as stand before its end
pub name_length : (n : List ℕ) → length (name_of n) ≡ name_end n
unfolding name_of name_end index_of index_after
name_length [] = refl
name_length (zero ∷ xs) = refl
name_length (suc x ∷ xs) = rw (eqb-suc-zero x) (ap suc (name_length xs))

pub name_taken : (n : List ℕ) (k : ℕ) → k ≡ length (name_of n) → take k n ≡ name_of n
unfolding name_of
name_taken n k e = rw (e, name_length n)

-- ---- the bytes before the first zero, or all

rest_ends : (n : List ℕ) → Ends (drop (name_end n) n)
unfolding name_end index_of index_after
rest_ends [] = over
rest_ends (zero ∷ xs) = zero_next xs
rest_ends (suc x ∷ xs) = rw (eqb-suc-zero x) (rest_ends xs)

no_zero : (n : List ℕ) (i : ℕ) → i < length (name_of n) → get_or (name_of n) i 0 ≡ 0 → ⊥
no_zero [] i h e = not-suc-le-zero (rw name_nil at h)
no_zero (zero ∷ xs) i h e = not-suc-le-zero (rw (name_stop xs) at h)
no_zero (suc x ∷ xs) zero h e = suc-ne-zero x (rw (name_go x xs) at e)
no_zero (suc x ∷ xs) (suc i) h e = no_zero xs i (le_of_suc-le-suc (rw (name_go x xs) at h)) (rw (name_go x xs) at e)

pub name_ends_first : (n : List ℕ) → NameEnds n
unfolding name_of
name_ends_first n = record {
  rest = drop (name_end n) n;
  whole = sym (take-append-drop (name_end n) n);
  ends = rest_ends n;
  no_zero = no_zero n;
}

pub name_short : (n : List ℕ) → length (name_of n) ≤ length n
unfolding name_of
name_short n = rw length-take (min-le_right (name_end n) (length n))

-- ---- the rule, tested

-- each character from 20 to 7E hex
abbrev Each : List ℕ → Type 0
Each s = (i : ℕ) → i < length s → (0x20 ≤ get_or s i 0) × (get_or s i 0 ≤ 0x7E)

pub printable_first : (x : ℕ) (xs : List ℕ) → printable (x ∷ xs) ≡ true → (0x20 ≤ x) × (x ≤ 0x7E) × (printable xs ≡ true)
unfolding printable
printable_first x xs =
    by_test (λ b. choose b false (choose (ltb 0x7E x) false (printable xs)) ≡ true → (0x20 ≤ x) × (x ≤ 0x7E) × (printable xs ≡ true)) (ltb x 0x20)
    (λ t e. absurd (true_false (sym e)))
    (λ t.
    by_test (λ b. choose b false (printable xs) ≡ true → (0x20 ≤ x) × (x ≤ 0x7E) × (printable xs ≡ true)) (ltb 0x7E x)
    (λ u e. absurd (true_false (sym e))) (λ u e. (ltb-false _ _ t, ltb-false _ _ u, e)))

printable_each : (s : List ℕ) → printable s ≡ true → Each s
printable_each [] e i h = absurd (not-suc-le-zero h)
printable_each (x ∷ xs) e zero h = let p = printable_first x xs e in (p.0, p.1)
printable_each (x ∷ xs) e (suc i) h = printable_each xs (printable_first x xs e).2 i (le_of_suc-le-suc h)

each_printable : (s : List ℕ) → Each s → printable s ≡ true
unfolding printable
each_printable [] f = refl
each_printable (x ∷ xs) f =
    let p = f 0 (suc-le-suc zero-le) in
    rw (le-ltb x 0x20 p.0, le-ltb 0x7E x p.1) (each_printable xs (λ i h. f (suc i) (suc-le-suc h)))

module _ (n : List ℕ) where
  good_by : length n ≤ 16 → good_name n ≡ true → GoodName n
  unfolding good_name
  good_by h =
      by_test (λ b. choose b false (printable (name_of n)) ≡ true → GoodName n) (eqb (length (name_of n)) 0)
      (λ t e. absurd (true_false (sym e)))
      (λ t e.
      let z : length (name_of n) ≡ 0 → ⊥ = eqb-false _ _ t in
      record { some = omega arith; few = omega (arith, name_short n); each = printable_each (name_of n) e })

  pub by_good : GoodName n → good_name n ≡ true
  unfolding good_name
  by_good g =
      let s = g.some in
      rw (ne_eqb (length (name_of n)) 0 (λ z. omega arith)) (each_printable (name_of n) g.each)

  pub good_exactly : length n ≤ 16 → good_name n ≡ true ↔ GoodName n
  good_exactly h = (good_by h, by_good)

  pub bad_exactly : length n ≤ 16 → good_name n ≡ false ↔ (GoodName n → ⊥)
  bad_exactly h = (
    (λ e g. true_false (sym (by_good g) ∙ e)),
    by_test (λ b. (b ≡ true → GoodName n) → (GoodName n → ⊥) → b ≡ false) (good_name n)
        (λ t f g. absurd (g (f refl))) (λ t f g. refl) (good_by h),
  )

-- ---- zeros after the name

zeros_name : (k : ℕ) → name_of (replicate k 0) ≡ []
zeros_name zero = name_nil
zeros_name (suc k) = name_stop (replicate k 0)

-- zeros alone are no name
pub zeros_bad : (k : ℕ) → good_name (replicate k 0) ≡ false
unfolding good_name
zeros_bad k = rw (zeros_name k)

name_before : (n z : List ℕ) → name_of z ≡ [] → name_of (name_of n ++ z) ≡ name_of n
name_before [] z e = rw name_nil e
name_before (zero ∷ xs) z e = rw (name_stop xs) e
name_before (suc x ∷ xs) z e = rw (name_go x xs, name_go x (name_of xs ++ z), name_before xs z e)

pub kept_name_is : (n : List ℕ) → name_of (kept_name n) ≡ name_of n
unfolding kept_name
kept_name_is n = name_before n _ (zeros_name (16 - length (name_of n)))

pub kept_again : (n : List ℕ) → kept_name (kept_name n) ≡ kept_name n
unfolding kept_name
kept_again n = ap (λ (m : List ℕ). m ++ replicate (16 - length m) 0) (kept_name_is n)

pub kept_good : (n : List ℕ) → good_name (kept_name n) ≡ good_name n
unfolding good_name
kept_good n = rw (kept_name_is n)

pub kept_length : (n : List ℕ) → length n ≤ 16 → length (kept_name n) ≡ 16
unfolding kept_name
kept_length n h = simp (length-append, length-replicate) (omega (arith, name_short n))

pub kept_good_name : (n : List ℕ) → length n ≤ 16 → GoodName n → GoodName (kept_name n)
kept_good_name n h g = (good_exactly (kept_name n) (le_of_eq (kept_length n h))).0 (kept_good n ∙ (good_exactly n h).1 g)

-- ---- the same name

pub same_bytes_is : (xs ys : List ℕ) → same_bytes xs ys ≡ true → xs ≡ ys
unfolding same_bytes
same_bytes_is [] [] = λ e. refl
same_bytes_is [] (y ∷ ys) = λ e. absurd (true_false (sym e))
same_bytes_is (x ∷ xs) [] = λ e. absurd (true_false (sym e))
same_bytes_is (x ∷ xs) (y ∷ ys) =
    by_test (λ b. choose b (same_bytes xs ys) false ≡ true → x ∷ xs ≡ y ∷ ys) (eqb x y)
    (λ t e. rw (eqb-true x y t, same_bytes_is xs ys e)) (λ t e. absurd (true_false (sym e)))

bytes_same : (xs : List ℕ) → same_bytes xs xs ≡ true
unfolding same_bytes
bytes_same [] = refl
bytes_same (x ∷ xs) = rw (eq-eqb x x refl) (bytes_same xs)

module _ (m n : List ℕ) where
  pub same_exactly : same_name m n ≡ true ↔ name_of m ≡ name_of n
  unfolding same_name
  same_exactly = (same_bytes_is (name_of m) (name_of n), (λ e. rw e (bytes_same (name_of n))))

-- ---- what is kept after the name is zero

zeros_at : (k i : ℕ) → ◌≡◌ {A = ℕ} (get_or (replicate k 0) i 0) 0
zeros_at zero i = get_or-eq_default [] 0 {n = i} zero-le
zeros_at (suc k) zero = refl
zeros_at (suc k) (suc i) = zeros_at k i

past_zeros : (s : List ℕ) (k i : ℕ) → length s ≤ i → get_or (s ++ replicate k 0) i 0 ≡ 0
past_zeros [] k i h = zeros_at k i
past_zeros (x ∷ s) k zero h = absurd (not-suc-le-zero h)
past_zeros (x ∷ s) k (suc i) h = past_zeros s k i (le_of_suc-le-suc h)

pub kept_zeros : (n : List ℕ) (i : ℕ) → length (name_of n) ≤ i → get_or (kept_name n) i 0 ≡ 0
unfolding kept_name
kept_zeros n i h = past_zeros (name_of n) (16 - length (name_of n)) i h
