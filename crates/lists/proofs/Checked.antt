-- A table of checks as a result: each part a function of its own, and `?` between them.
use mathlib.Core.Path.{◌≡◌, refl, sym, ap, ◌∙◌}
use mathlib.Core.Bool.{Bool, true, false}
use mathlib.Core.List.{List, [], ◌∷◌, ◌++◌}
use Rattle.std.specs.Prelude.{Result, Ok, Err}
use Rattle.lists.specs.Tables.{Row, choose, first, checked, told, NoneRefuses, NoneSays}

module _ {A : Type 0} where
  abbrev Refuses : Result (Unit {0}) A → Type 0
  Refuses (Ok u) = ⊥
  Refuses (Err a) = Unit {0}

  -- a refusal is not a pass
  pub not_ok : (a : A) → ◌≡◌ {A = Result (Unit {0}) A} (Err a) (Ok tt) → ⊥
  not_ok a e = coe 0 1 (i. Refuses (e i)) tt

  -- a result is the table's answer
  pub told_first : (passed : A) (rows : List (Row A)) → told passed (checked rows) ≡ first passed rows
  told_first passed [] = refl
  told_first passed (r ∷ rest) = step r.refuses (told_first passed rest)
    where
      step : (b : Bool) → told passed (checked rest) ≡ first passed rest
          → told passed (choose b (Err r.says) (checked rest)) ≡ choose b r.says (first passed rest)
      step true h = refl
      step false h = h

  pub first_ok : (passed : A) (rows : List (Row A)) → Ok tt ≡ checked rows → first passed rows ≡ passed
  first_ok passed rows e = sym (told_first passed rows) ∙ sym (ap (told passed) e)

  pub first_err : (passed : A) (rows : List (Row A)) (a : A) → Err a ≡ checked rows → first passed rows ≡ a
  first_err passed rows a e = sym (told_first passed rows) ∙ sym (ap (told passed) e)

  -- where no row says a, neither does a refusal
  pub says_other : (a b : A) (rows : List (Row A)) → NoneSays a rows → Err b ≡ checked rows → b ≡ a → ⊥
  says_other a b [] n e = absurd (not_ok b e)
  says_other a b (r ∷ rest) n e = step r.refuses e (says_other a b rest n.1)
    where
      step : (t : Bool) → Err b ≡ choose t (Err r.says) (checked rest) → (Err b ≡ checked rest → b ≡ a → ⊥) → b ≡ a → ⊥
      step true p h q = n.0 (sym (ap (told a) p) ∙ q)
      step false p h q = h p q

  -- where the first part of a table refuses, so does the table
  pub stops : (xs ys : List (Row A)) (a : A) → Err a ≡ checked xs → Err a ≡ checked (xs ++ ys)
  stops [] ys a e = absurd (not_ok a e)
  stops (r ∷ xs) ys a e = step r.refuses e (stops xs ys a)
    where
      step : (b : Bool) → Err a ≡ choose b (Err r.says) (checked xs) → (Err a ≡ checked xs → Err a ≡ checked (xs ++ ys))
          → Err a ≡ choose b (Err r.says) (checked (xs ++ ys))
      step true p h = p
      step false p h = h p

  -- where it passes, the table is its second part
  pub goes : (xs ys : List (Row A)) (r : Result (Unit {0}) A) → Ok tt ≡ checked xs → r ≡ checked ys → r ≡ checked (xs ++ ys)
  goes [] ys r e p = p
  goes (x ∷ xs) ys r e p = step x.refuses e (λ q. goes xs ys r q p)
    where
      step : (b : Bool) → Ok tt ≡ choose b (Err x.says) (checked xs) → (Ok tt ≡ checked xs → r ≡ checked (xs ++ ys))
          → r ≡ choose b (Err x.says) (checked (xs ++ ys))
      step true q h = absurd (not_ok _ (sym q))
      step false q h = h q

  -- a table that passes has no row that refuses
  pub none_refuses : (rows : List (Row A)) → Ok tt ≡ checked rows → NoneRefuses rows
  none_refuses [] e = tt
  none_refuses (r ∷ rest) e = step r.refuses e (none_refuses rest)
    where
      step : (b : Bool) → Ok tt ≡ choose b (Err r.says) (checked rest) → (Ok tt ≡ checked rest → NoneRefuses rest)
          → (b ≡ false) × NoneRefuses rest
      step true q h = absurd (not_ok _ (sym q))
      step false q h = (refl, h q)
