-- A table whose rows judge rules answers by them: `passed` exactly when all hold, another exactly when its rule is broken and all before hold.
use mathlib.Core.Path.{◌≡◌, refl, sym, ◌∙◌}
use mathlib.Core.Logic.{◌⊎◌, inl, inr, ⊎_elim, ◌↔◌}
use mathlib.Core.Bool.{Bool, true, false}
use Prim.Native.Nat.{ℕ, ◌≤◌}
use lib.Dec.{ltb}
use borrow.Author.Tests.{ltb-false, le-ltb}
use mathlib.Core.List.{List, [], ◌∷◌}
use Rattle.lists.specs.Tables.{Row, choose, first, unlike, NoneSays}
use Rattle.lists.proofs.Tables.{by_test, true_false, like_by, by_like}
use Rattle.lists.specs.Rules.{Rules, done, rule, AllHold, FirstBroken}

-- each row refuses exactly when its rule is broken
abbrev pub Judges : {A : Type 0} → List (Row A) → Rules A → Type 0
Judges [] done = Unit {0}
Judges [] (rule a holds rest) = ⊥
Judges (r ∷ rows) done = ⊥
Judges (r ∷ rows) (rule a holds rest) =
    (r.says ≡ a) × (r.refuses ≡ true → holds → ⊥) × (r.refuses ≡ false → holds) × Judges rows rest

-- no rule answers a
abbrev pub NoneAnswers : {A : Type 0} → A → Rules A → Type 0
NoneAnswers a done = Unit {0}
NoneAnswers a (rule b holds rest) = (b ≡ a → ⊥) × NoneAnswers a rest

-- ---- a row before others judges its rule, where the test is false exactly when the rule holds: `judged .. (judged .. tt)`
module _ {A : Type 0} {a : A} {rest : Type 0} where
  pub judged : {p : Type 0} (b : Bool) → (p → b ≡ false) → (b ≡ false → p) → rest
      → (a ≡ a) × (b ≡ true → p → ⊥) × (b ≡ false → p) × rest
  judged b f g j = (refl, (λ t h. true_false (sym t ∙ f h)), g, j)

  pub judged_less : (m n : ℕ) → rest → (a ≡ a) × (ltb m n ≡ true → n ≤ m → ⊥) × (ltb m n ≡ false → n ≤ m) × rest
  judged_less m n j = judged (ltb m n) (le-ltb m n) (ltb-false m n) j

  pub judged_unlike : (m n : ℕ) → rest → (a ≡ a) × (unlike m n ≡ true → m ≡ n → ⊥) × (unlike m n ≡ false → m ≡ n) × rest
  judged_unlike m n j = judged (unlike m n) (by_like m n) (like_by m n) j

module _ {A : Type 0} (passed : A) where
  holds : (rows : List (Row A)) (rules : Rules A) → Judges rows rules → AllHold rules → first passed rows ≡ passed
  holds [] (rule a p rest) j h = elim j [ ]
  holds (r ∷ rows) done j h = elim j [ ]
  holds [] done j h = refl
  holds (r ∷ rows) (rule a p rest) j h =
      by_test (λ b. choose b r.says (first passed rows) ≡ passed) r.refuses
      (λ t. absurd (j.1 t h.0)) (λ t. holds rows rest j.3 h.1)

  held : (rows : List (Row A)) (rules : Rules A) → Judges rows rules → NoneAnswers passed rules → first passed rows ≡ passed → AllHold rules
  held [] (rule a p rest) j n = elim j [ ]
  held (r ∷ rows) done j n = elim j [ ]
  held [] done j n = λ e. tt
  held (r ∷ rows) (rule a p rest) j n =
      by_test (λ b. choose b r.says (first passed rows) ≡ passed → p × AllHold rest) r.refuses
      (λ t e. absurd (n.0 (sym j.0 ∙ e))) (λ t e. (j.2 t, held rows rest j.3 n.1 e))

  broken : (rows : List (Row A)) (rules : Rules A) → Judges rows rules → (a : A) → (a ≡ passed → ⊥) → first passed rows ≡ a → FirstBroken rules a
  broken [] (rule b p rest) j a z = elim j [ ]
  broken (r ∷ rows) done j a z = elim j [ ]
  broken [] done j a z = λ e. z (sym e)
  broken (r ∷ rows) (rule b p rest) j a z =
      by_test (λ t. choose t r.says (first passed rows) ≡ a → ((a ≡ b) × (p → ⊥)) ⊎ (p × FirstBroken rest a)) r.refuses
      (λ t e. inl (sym e ∙ j.0, j.1 t)) (λ t e. inr (j.2 t, broken rows rest j.3 a z e))

  breaks : (rows : List (Row A)) (rules : Rules A) → Judges rows rules → (a : A) → FirstBroken rules a → first passed rows ≡ a
  breaks [] (rule b p rest) j a f = elim j [ ]
  breaks (r ∷ rows) done j a f = elim j [ ]
  breaks [] done j a f = absurd f
  breaks (r ∷ rows) (rule b p rest) j a f =
      by_test (λ t. choose t r.says (first passed rows) ≡ a) r.refuses
      (λ t. ⊎_elim (λ x. j.0 ∙ sym x.0) (λ x. absurd (j.1 t x.0)) f)
      (λ t. ⊎_elim (λ x. absurd (x.1 (j.2 t))) (λ x. breaks rows rest j.3 a x.1) f)

  -- a table whose rows never say `passed` judges rules that never answer it
  pub none_answers : (rows : List (Row A)) (rules : Rules A) → Judges rows rules → NoneSays passed rows → NoneAnswers passed rules
  none_answers [] (rule a p rest) j n = elim j [ ]
  none_answers (r ∷ rows) done j n = elim j [ ]
  none_answers [] done j n = tt
  none_answers (r ∷ rows) (rule a p rest) j n = ((λ e. n.0 (j.0 ∙ e)), none_answers rows rest j.3 n.1)

  pub all_hold_exactly : (rows : List (Row A)) (rules : Rules A) → Judges rows rules → NoneAnswers passed rules → first passed rows ≡ passed ↔ AllHold rules
  all_hold_exactly rows rules j n = (held rows rules j n, holds rows rules j)

  pub first_broken_exactly : (rows : List (Row A)) (rules : Rules A) → Judges rows rules → (a : A) → (a ≡ passed → ⊥) → first passed rows ≡ a ↔ FirstBroken rules a
  first_broken_exactly rows rules j a z = (broken rows rules j a z, breaks rows rules j a)
