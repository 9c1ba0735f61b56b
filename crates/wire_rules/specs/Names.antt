-- Stream names (document 01, "The 28 bytes", Name). Nothing outside this file and its laws looks inside a name.
use Rattle.std.specs.Prelude.{◌≡◌, ℕ, ◌-◌, ◌≤◌, ◌<◌, List, [], ◌∷◌, ◌++◌, Bool, true, false, length, get_or, take, replicate, ltb, eqb}
use Rattle.lists.specs.Lists.{index_of}
use Rattle.lists.specs.Tables.{choose}

-- where a name ends: before the first zero, or at the end
unfoldable pub name_end : List ℕ → ℕ
name_end n = index_of 0 n

-- the bytes before its end
unfoldable pub name_of : List ℕ → List ℕ
name_of n = take (name_end n) n

-- nothing, or a zero and what follows it
pub data Ends : List ℕ → Type 0 where
  over : Ends []
  zero_next : (t : List ℕ) → Ends (0 ∷ t)

-- the name is what stands before the first zero, or all
pub record NameEnds (n : List ℕ) : Type 0 where
  pub rest : List ℕ
  pub whole : n ≡ name_of n ++ rest
  pub ends : Ends rest
  pub no_zero : (i : ℕ) → i < length (name_of n) → get_or (name_of n) i 0 ≡ 0 → ⊥

-- each character from 20 to 7E hex
unfoldable pub printable : List ℕ → Bool
printable [] = true
printable (x ∷ xs) = choose (ltb x 0x20) false (choose (ltb 0x7E x) false (printable xs))

-- a character at least, and each printable
unfoldable pub good_name : List ℕ → Bool
good_name n = choose (eqb (length (name_of n)) 0) false (printable (name_of n))

-- the name's characters, and zeros filling 16 bytes
unfoldable pub kept_name : List ℕ → List ℕ
kept_name n = name_of n ++ replicate (16 - length (name_of n)) 0

unfoldable pub same_bytes : List ℕ → List ℕ → Bool
same_bytes [] [] = true
same_bytes [] (y ∷ ys) = false
same_bytes (x ∷ xs) [] = false
same_bytes (x ∷ xs) (y ∷ ys) = choose (eqb x y) (same_bytes xs ys) false

-- the same name, whatever follows it
unfoldable pub same_name : List ℕ → List ℕ → Bool
same_name m n = same_bytes (name_of m) (name_of n)

-- the rule: 1 to 16 characters, each 20 to 7E hex
pub record GoodName (n : List ℕ) : Type 0 where
  pub some : 1 ≤ length (name_of n)
  pub few : length (name_of n) ≤ 16
  pub each : (i : ℕ) → i < length (name_of n) → (0x20 ≤ get_or (name_of n) i 0) × (get_or (name_of n) i 0 ≤ 0x7E)
