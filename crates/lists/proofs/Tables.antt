-- The laws of every table of checks.
use mathlib.Core.Path.{◌≡◌, refl, sym, ap, ◌∙◌}
use mathlib.Core.Logic.{◌↔◌}
use mathlib.Core.Bool.{Bool, true, false, ◌&&◌}
use mathlib.Core.List.{List, [], ◌∷◌, ◌++◌}
use Prim.Native.Nat.{ℕ, ◌≤◌, ◌<◌}
use native.Mathlib.Omega.{arith}
use lib.Dec.{T, ltb}
use borrow.Author.Tests.{ltb-true, ltb-false, lt-ltb, le-ltb, not-true, not-false, eqb-true, eqb-false, eq-eqb}
use Rattle.lists.specs.Tables.{Row, row, choose, first, any, unlike, outside, NoneRefuses, NoneSays, RefusesFirst}

-- by what a test says
pub by_test : (P : Bool → Type 0) (b : Bool) → (b ≡ true → P true) → (b ≡ false → P false) → P b
by_test P true f g = f refl
by_test P false f g = g refl

pub true_false : true ≡ false → ⊥
true_false e = let z : ◌≡◌ {A = ℕ} 0 1 = cc in omega arith

pub both : (a b : Bool) → a && b ≡ true → (a ≡ true) × (b ≡ true)
both true b e = (refl, e)
both false b e = absurd (true_false (sym e))

-- a number that must be another
module _ (a n : ℕ) where
  pub like_by : unlike a n ≡ false → a ≡ n
  like_by e = eqb-true a n (not-false _ e)

  pub by_like : a ≡ n → unlike a n ≡ false
  by_like e = rw (eq-eqb a n e)

-- two tests that say the same
pub less_alike : (x y s t : ℕ) → (s < t → x < y) → (t ≤ s → y ≤ x) → ltb x y ≡ ltb s t
less_alike x y s t f g =
    by_test (λ b. ltb s t ≡ b → ltb x y ≡ b) (ltb s t) (λ e q. lt-ltb x y (f (ltb-true s t q))) (λ e q. le-ltb x y (g (ltb-false s t q))) refl

-- every test of a list is false
abbrev pub NoneHolds : List Bool → Type 0
NoneHolds [] = Unit {0}
NoneHolds (b ∷ rest) = (b ≡ false) × NoneHolds rest

pub none_holds : (bs : List Bool) → any bs ≡ false → NoneHolds bs
none_holds [] = λ e. tt
none_holds (b ∷ rest) =
    by_test (λ t. choose t true (any rest) ≡ false → (t ≡ false) × NoneHolds rest) b
    (λ t e. absurd (true_false e)) (λ t e. (refl, none_holds rest e))

-- a count within its range
module _ (top n : ℕ) where
  pub inside_by : outside top n ≡ false → (1 ≤ n) × (n ≤ top)
  inside_by e =
      let c = none_holds (ltb n 1 ∷ ltb top n ∷ []) e in
      (ltb-false _ _ c.0, ltb-false _ _ c.1.0)

  pub by_inside : (1 ≤ n) × (n ≤ top) → outside top n ≡ false
  by_inside h = rw (le-ltb n 1 h.0, le-ltb top n h.1)

-- each row's answer has another number than `passed`: a test that computes for a table that is written out
abbrev pub numbered : {A : Type 0} → A → (A → ℕ) → List (Row A) → Bool
numbered passed number [] = true
numbered passed number (r ∷ rest) = choose (unlike (number r.says) (number passed)) (numbered passed number rest) false

pub none_says : {A : Type 0} (passed : A) (number : A → ℕ) (rows : List (Row A)) → T (numbered passed number rows) → NoneSays passed rows
none_says passed number [] = λ t. tt
none_says passed number (r ∷ rest) =
    by_test (λ b. T (choose b (numbered passed number rest) false) → NoneSays passed (r ∷ rest)) (unlike (number r.says) (number passed))
    (λ e t. ((λ p. eqb-false _ _ (not-true _ e) (ap number p)), none_says passed number rest t)) (λ e t. absurd t)

module _ {A : Type 0} (passed : A) where
  passes : (rows : List (Row A)) → NoneSays passed rows → first passed rows ≡ passed → NoneRefuses rows
  passes [] u = λ e. tt
  passes (r ∷ rest) u =
      by_test (λ b. choose b r.says (first passed rest) ≡ passed → (b ≡ false) × NoneRefuses rest) r.refuses
      (λ t e. absurd (u.0 e)) (λ t e. (refl, passes rest u.1 e))

  passed_by : (rows : List (Row A)) → NoneRefuses rows → first passed rows ≡ passed
  passed_by [] n = refl
  passed_by (r ∷ rest) n = rw n.0 (passed_by rest n.1)

  -- the answer is `passed` exactly when no row refuses
  pub passes_exactly : (rows : List (Row A)) → NoneSays passed rows → first passed rows ≡ passed ↔ NoneRefuses rows
  passes_exactly rows u = (passes rows u, passed_by rows)

  refuses : (rows : List (Row A)) (a : A) → (a ≡ passed → ⊥) → first passed rows ≡ a → RefusesFirst rows a
  refuses [] a z = λ e. absurd (z (sym e))
  refuses (r ∷ rest) a z =
      by_test (λ b. choose b r.says (first passed rest) ≡ a → RefusesFirst (row r.says b ∷ rest) a) r.refuses
      (λ t e. record { before = []; after = rest; these = ap (λ (x : A). row x true ∷ rest) e; none_before = tt })
      (λ t e.
      let f = refuses rest a z e in
      record {
        before = row r.says false ∷ f.before;
        after = f.after;
        these = ap (λ (l : List (Row A)). row r.says false ∷ l) f.these;
        none_before = (refl, f.none_before);
      })

  refused_by : (rows : List (Row A)) (a : A) → RefusesFirst rows a → first passed rows ≡ a
  refused_by rows a f = rw f.these (go f.before f.none_before)
    where
      go : (before : List (Row A)) → NoneRefuses before → first passed (before ++ (row a true ∷ f.after)) ≡ a
      go [] n = refl
      go (r ∷ before) n = rw n.0 (go before n.1)

  -- it is another, a, exactly when a row that says a refuses and no row before it does
  pub refuses_exactly : (rows : List (Row A)) (a : A) → (a ≡ passed → ⊥) → first passed rows ≡ a ↔ RefusesFirst rows a
  refuses_exactly rows a z = (refuses rows a z, refused_by rows a)

  -- ---- a table in two parts, each with a function of its own: `let a = f(d); if a refuses { return a; } g(d)`

  pub part_yes : (xs ys : List (Row A)) (a : A) → a ≡ first passed xs → (a ≡ passed → ⊥) → a ≡ first passed (xs ++ ys)
  part_yes [] ys a e z = absurd (z e)
  part_yes (r ∷ xs) ys a e z = step r.refuses e (λ p. part_yes xs ys a p z)
    where
      step : (b : Bool) → a ≡ choose b r.says (first passed xs) → (a ≡ first passed xs → a ≡ first passed (xs ++ ys))
          → a ≡ choose b r.says (first passed (xs ++ ys))
      step true p h = p
      step false p h = h p

  pub part_no : (xs ys : List (Row A)) → NoneSays passed xs → (a z : A) → a ≡ first passed xs → a ≡ passed → z ≡ first passed ys
      → z ≡ first passed (xs ++ ys)
  part_no [] ys u a z e p h = h
  part_no (r ∷ xs) ys u a z e p h =
      step r.refuses (sym e ∙ p) (λ q. part_no xs ys u.1 passed z (sym q) refl h)
    where
      step : (b : Bool) → choose b r.says (first passed xs) ≡ passed → (first passed xs ≡ passed → z ≡ first passed (xs ++ ys))
          → z ≡ choose b r.says (first passed (xs ++ ys))
      step true q f = absurd (u.0 q)
      step false q f = f q
