-- Numbers of so many bytes each: what is kept is read back, and what is read is kept again as it stood.
use mathlib.Core.Path.{◌≡◌, refl, sym, ap, ◌∙◌}
use mathlib.Core.List.{List, [], ◌∷◌, ◌++◌, append_assoc}
use Prim.Native.Nat.{ℕ, ◌+◌, ◌^◌, ◌≤◌, ◌<◌}
use native.Mathlib.Nat.{add-zero}
use native.Mathlib.Omega.{arith}
use lib.ListN.{length, take, drop, length-append}
use lib.Seq.{take-add, drop-drop}
use Rattle.lists.specs.Lists.{byte}
use Rattle.lists.specs.Little.{little, bytes_of}
use Rattle.lists.proofs.Little.{bytes_length, bytes_back, little_front, little_after}
use Rattle.kept.specs.Kept.{kept_bytes, values_in, Fit}

-- one number, after p
back : (w v : ℕ) (p q : List ℕ) (a : ℕ) → length p ≡ a → v < 256 ^ w → little w (p ++ (bytes_of w v ++ q)) a ≡ v
back w v p q a e l = ap (little w (p ++ (bytes_of w v ++ q))) (sym e ∙ sym (add-zero (length p))) ∙ little_after w p (bytes_of w v ++ q) 0 ∙ little_front w v q l

-- each number that fits its width is read back
pub values_back : (widths values : List ℕ) → Fit widths values → (p : List ℕ) (a : ℕ) → length p ≡ a
    → values_in widths (p ++ kept_bytes widths values) a ≡ values
values_back [] [] f p a e = refl
values_back [] (v ∷ values) f p a e = absurd f
values_back (w ∷ widths) [] f p a e = absurd f
values_back (w ∷ widths) (v ∷ values) f p a e =
    let l : length (p ++ bytes_of w v) ≡ a + w = length-append p (bytes_of w v) ∙ rw (e, bytes_length w v) in
    let rest : values_in widths (p ++ (bytes_of w v ++ kept_bytes widths values)) (a + w) ≡ values =
    rw (← append_assoc p (bytes_of w v) (kept_bytes widths values)) (values_back widths values f.1 (p ++ bytes_of w v) (a + w) l) in
    rw (back w v p (kept_bytes widths values) a e f.0, rest)

-- the bytes of numbers of these widths
abbrev pub total : List ℕ → ℕ
total [] = 0
total (w ∷ widths) = w + total widths

-- numbers that were read are kept again as the bytes that they were read from
pub kept_again : (widths b : List ℕ) (a : ℕ) → a + total widths ≤ length b → ((i : ℕ) → byte b i < 256)
    → kept_bytes widths (values_in widths b a) ≡ take (total widths) (drop a b)
kept_again [] b a l h = refl
kept_again (w ∷ widths) b a l h =
    let first = bytes_back w b a (omega arith) h in
    let rest = kept_again widths b (a + w) (omega arith) h in
    rw (first, rest, take-add w (total widths) (drop a b), drop-drop w a b)
