-- The same as propositions: rules in the paper's order, each with the answer that is given where it is broken.
use Rattle.std.specs.Prelude.{◌≡◌, ◌⊎◌, List, [], ◌∷◌, ℕ}

pub data Rules (A : Type 0) : Type 1 where
  done : Rules A
  rule : A → Type 0 → Rules A → Rules A

-- the numbers of their answers, in order
abbrev pub numbers_of : {A : Type 0} → (A → ℕ) → Rules A → List ℕ
numbers_of number done = []
numbers_of number (rule a holds rest) = number a ∷ numbers_of number rest

-- every rule holds
abbrev pub AllHold : {A : Type 0} → Rules A → Type 0
AllHold done = Unit {0}
AllHold (rule a holds rest) = holds × AllHold rest

-- the rule that answers a is broken, and all before it hold
abbrev pub FirstBroken : {A : Type 0} → Rules A → A → Type 0
FirstBroken done a = ⊥
FirstBroken (rule b holds rest) a = ((a ≡ b) × (holds → ⊥)) ⊎ (holds × FirstBroken rest a)
