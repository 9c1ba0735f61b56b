-- The four bytes are the mark's exactly if the number that they spell is the mark's.
use mathlib.Core.Path.{◌≡◌, refl, sym, ap, ◌∙◌}
use mathlib.Core.Bool.{true, not}
use mathlib.Core.List.{List}
use Prim.Native.Nat.{ℕ, ◌+◌, ◌/◌, ◌%◌, ◌^◌, ◌<◌}
use lib.Dec.{eqb, lit<}
use borrow.Author.Tests.{eqb-true, eqb-false}
use Rattle.lists.specs.Lists.{byte}
use Rattle.lists.specs.Little.{little}
use Rattle.lists.specs.Tables.{unlike}
use Rattle.lists.proofs.Little.{little_byte}
use Rattle.lists.proofs.Tables.{by_test}
use Rattle.wire_rules.specs.Header.{foreign}
use Rattle.wire_rules.proofs.Reading.{marked_bytes, mark_by}
use Rattle.reader.proofs.header.is_foreign.Goals as goal

module _ (d : List ℕ) (below : (i : ℕ) → byte d i < 256) where
  mark_told : (w : ℕ) → w ≡ little 4 d 0 → unlike w 0x4e414256 ≡ foreign d
  unfolding little
  mark_told w e =
      by_test (λ t. not t ≡ foreign d) (eqb w 0x4e414256)
      (λ t.
      let b : (j : ℕ) → j < 4 → byte d (0 + j) ≡ 0x4e414256 / 256 ^ j % 256
      = λ j h. sym (little_byte 4 d 0 j below h) ∙ ap (λ (x : ℕ). x / 256 ^ j % 256) (sym e ∙ eqb-true w 0x4e414256 t) in
      rw (b 0 (lit< tt), b 1 (lit< tt), b 2 (lit< tt), b 3 (lit< tt)))
      (λ t.
      by_test (λ s. true ≡ s) (foreign d) (λ s. refl)
      (λ s.
      let b = marked_bytes d (mark_by d s) in
      absurd (eqb-false w 0x4e414256 t (e ∙ rw (b 0 (lit< tt), b 1 (lit< tt), b 2 (lit< tt), b 3 (lit< tt))))))

pub returns : goal.returns
returns c = mark_told c.args.d.now (λ j. (c.type_inv.d j).fits) _ c.at4.ensures
