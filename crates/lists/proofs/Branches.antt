-- How a branch of the code meets a row of a table: `if t { return a; }` against `choose b a rest`. Each pair has a law for where
-- the row answers and one for where the rows after it say. `search rows depth 12` puts them together at a return.
--     flag        t is what a function ensures is b
--     less        t is a comparison of two numbers
--     more-of     the same, where the number tested is what a function ensures is the definition's
--     unlike      t is `!=` of two numbers, and unlike-of where a function ensures the number tested
use mathlib.Core.Path.{◌≡◌, sym, ◌∙◌}
use mathlib.Core.Bool.{Bool, true, false, not}
use Prim.Native.Nat.{ℕ, ◌<◌, ◌≤◌}
use lib.Dec.{ltb}
use borrow.Author.Tests.{lt-ltb, le-ltb, eq-eqb, ne_eqb}
use Rattle.lists.specs.Tables.{choose, unlike}

module _ {A : Type 0} where
  pub flag_yes : (b r : Bool) (x y : A) → r ≡ b → r ≡ true → x ≡ choose b x y
  flag_yes b r x y e t = rw (sym e ∙ t)

  pub flag_no : (b r : Bool) (x y z : A) → r ≡ b → r ≡ false → z ≡ y → z ≡ choose b x y
  flag_no b r x y z e t h = rw (sym e ∙ t) h

  pub not_yes : (b r : Bool) (x y : A) → r ≡ b → r ≡ false → x ≡ choose (not b) x y
  not_yes b r x y e t = rw (sym e ∙ t)

  pub not_no : (b r : Bool) (x y z : A) → r ≡ b → r ≡ true → z ≡ y → z ≡ choose (not b) x y
  not_no b r x y z e t h = rw (sym e ∙ t) h

  pub less_yes : (a b : ℕ) (x y : A) → a < b → x ≡ choose (ltb a b) x y
  less_yes a b x y h = rw (lt-ltb a b h)

  pub less_no : (a b : ℕ) (x y z : A) → b ≤ a → z ≡ y → z ≡ choose (ltb a b) x y
  less_no a b x y z h e = rw (le-ltb a b h) e

  pub more_of_yes : (n a r : ℕ) (x y : A) → r ≡ a → n < r → x ≡ choose (ltb n a) x y
  more_of_yes n a r x y e h = less_yes n a x y (rw e at h)

  pub more_of_no : (n a r : ℕ) (x y z : A) → r ≡ a → r ≤ n → z ≡ y → z ≡ choose (ltb n a) x y
  more_of_no n a r x y z e h w = less_no n a x y z (rw e at h) w

  pub unlike_yes : (a n : ℕ) (x y : A) → (a ≡ n → ⊥) → x ≡ choose (unlike a n) x y
  unlike_yes a n x y h = rw (ne_eqb a n h)

  pub unlike_no : (a n : ℕ) (x y z : A) → a ≡ n → z ≡ y → z ≡ choose (unlike a n) x y
  unlike_no a n x y z h w = rw (eq-eqb a n h) w

  pub unlike_of_yes : (n a r : ℕ) (x y : A) → r ≡ a → (r ≡ n → ⊥) → x ≡ choose (unlike a n) x y
  unlike_of_yes n a r x y e h = unlike_yes a n x y (λ p. h (e ∙ p))

  pub unlike_of_no : (n a r : ℕ) (x y z : A) → r ≡ a → r ≡ n → z ≡ y → z ≡ choose (unlike a n) x y
  unlike_of_no n a r x y z e h w = unlike_no a n x y z (sym e ∙ h) w

pub ruleset rows = (flag_yes, flag_no, not_yes, not_no, less_yes, less_no, more_of_yes, more_of_no, unlike_of_yes, unlike_of_no)
