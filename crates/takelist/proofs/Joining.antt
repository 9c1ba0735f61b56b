-- The lines of two blocks, one after the other, are those of the capture that they make.
use mathlib.Core.Path.{◌≡◌, sym, ap, ◌∙◌}
use mathlib.Core.List.{List, [], ◌∷◌, ◌++◌, append_assoc}
use Prim.Native.Nat.{ℕ, suc, ◌+◌, ◌*◌}
use native.Mathlib.Nat.{add-zero}
use native.Mathlib.Omega.{arith}
use lib.ListN.{length}
use Rattle.take_rules.specs.declared.Told.{Told}
use Rattle.take_rules.specs.Box.{Box, after}
use Rattle.capture_rules.specs.Records.{record_size}
use Rattle.capture_rules.specs.Fold.{heard_in, answers_in}
use Rattle.capture_rules.proofs.Joining.{answers_joined, answers_length}
use Rattle.takelist.specs.Block.{answer_line, lines_of}

-- what is told after n others has the index n further on
pub lines_append : (index : ℕ) (xs ys : List Told) → lines_of index (xs ++ ys) ≡ lines_of index xs ++ lines_of (index + length xs) ys
unfolding lines_of
lines_append index [] ys = rw add-zero
lines_append index (x ∷ xs) ys =
    let e : index + 1 + length xs ≡ index + suc (length xs) = omega arith in
    rw (lines_append (index + 1) xs ys, e) (sym (append_assoc (answer_line index x) (lines_of (index + 1) xs) _))

module _ (a c : List ℕ) (m : ℕ) (whole : length a ≡ m * record_size) (b : Box) (index : ℕ) where
  pub lines_joined : (n : ℕ) → lines_of index (answers_in b (a ++ c) (m + n))
      ≡ lines_of index (answers_in b a m) ++ lines_of (index + m) (answers_in (after b (heard_in a m)) c n)
  lines_joined n =
      ap (lines_of index) (answers_joined a c m whole b n)
      ∙ lines_append index (answers_in b a m) (answers_in (after b (heard_in a m)) c n)
      ∙ rw (answers_length b a m)
