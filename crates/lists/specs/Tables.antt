-- A table of checks in the paper's order: the first that refuses gives its answer.
use Rattle.std.specs.Prelude.{ℕ, ◌≡◌, List, [], ◌∷◌, ◌++◌, Bool, true, false, not, ltb, eqb, Result, Ok, Err}

-- a where the test holds, else b
abbrev pub choose : {A : Type 0} → Bool → A → A → A
choose true a b = a
choose false a b = b

-- a check: what it answers, and whether it refuses
pub record Row (A : Type 0) : Type 0 where
  pub says : A
  pub refuses : Bool

abbrev pub row : {A : Type 0} → A → Bool → Row A
row a b = record { says = a; refuses = b }

-- what the first row that refuses says; passed, where none does
abbrev pub first : {A : Type 0} → A → List (Row A) → A
first passed [] = passed
first passed (r ∷ rest) = choose r.refuses r.says (first passed rest)

-- the same as a result: what the first row that refuses says, as an error
abbrev pub checked : {A : Type 0} → List (Row A) → Result (Unit {0}) A
checked [] = Ok tt
checked (r ∷ rest) = choose r.refuses (Err r.says) (checked rest)

-- what a result tells: its error, or `passed` where there is none
abbrev pub told : {A : Type 0} → A → Result (Unit {0}) A → A
told passed (Ok u) = passed
told passed (Err a) = a

-- one of the tests holds
abbrev pub any : List Bool → Bool
any [] = false
any (b ∷ rest) = choose b true (any rest)

abbrev pub unlike : ℕ → ℕ → Bool
unlike a b = not (eqb a b)

-- outside 1 to top
abbrev pub outside : ℕ → ℕ → Bool
outside top n = any (ltb n 1 ∷ ltb top n ∷ [])

-- no row refuses
abbrev pub NoneRefuses : {A : Type 0} → List (Row A) → Type 0
NoneRefuses [] = Unit {0}
NoneRefuses (r ∷ rest) = (r.refuses ≡ false) × NoneRefuses rest

-- no row says a
abbrev pub NoneSays : {A : Type 0} → A → List (Row A) → Type 0
NoneSays a [] = Unit {0}
NoneSays a (r ∷ rest) = (r.says ≡ a → ⊥) × NoneSays a rest

-- a row that says a refuses, and no row before it does
pub record RefusesFirst {A : Type 0} (rows : List (Row A)) (a : A) : Type 0 where
  pub before : List (Row A)
  pub after : List (Row A)
  pub these : rows ≡ before ++ (row a true ∷ after)
  pub none_before : NoneRefuses before
