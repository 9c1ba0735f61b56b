-- Lists that are read, written over and put together.
use Rattle.std.specs.Prelude.{ℕ, zero, suc, Bool, true, false, List, [], ◌∷◌, ◌++◌, length, take, drop, get_or, eqb}

-- byte i, 0 past the end
abbrev pub byte : List ℕ → ℕ → ℕ
byte d i = get_or d i 0

-- d, with s written over it from index at
unfoldable pub put : List ℕ → ℕ → List ℕ → List ℕ
put d at s = take at d ++ (s ++ drop (length s) (drop at d))

-- f 0, f 1, .. f (n - 1), one after the other
unfoldable pub up_to : ℕ → (ℕ → List ℕ) → List ℕ
up_to zero f = []
up_to (suc n) f = up_to n f ++ f n

-- one further on, but where the first is found
unfoldable pub index_after : Bool → ℕ → ℕ
index_after true i = 0
index_after false i = suc i

-- where v stands first, or the list's length
unfoldable pub index_of : ℕ → List ℕ → ℕ
index_of v [] = 0
index_of v (x ∷ xs) = index_after (eqb x v) (index_of v xs)
