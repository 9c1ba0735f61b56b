-- The samples of two words, as slots in a row.
use mathlib.Core.Path.{◌≡◌, refl}
use mathlib.Core.List.{List, ◌∷◌, []}
use Prim.Native.Nat.{ℕ, ◌+◌, ◌/◌, ◌%◌, ◌<◌}
use native.Mathlib.Nat.{add-zero}
use Rattle.lists.specs.Lists.{byte, up_to}
use Rattle.lists.specs.Little.{little}
use Rattle.formats.specs.Formats.{signed16}
use Rattle.sample_rules.specs.Bits.{slot_of}
use Rattle.records.specs.Frames.{half_of}
use Rattle.lay16.specs.Rows.{in_row}
use Rattle.lay16.proofs.Rows.{in_word}
use Rattle.lay16.proofs.half.Goals as goal

module _ (d : List ℕ) (below : (i : ℕ) → byte d i < 256) (from : ℕ) where
  four : (out : List ℕ) (v w r0 r1 r2 r3 : ℕ) → v ≡ little 4 d from → w ≡ little 4 d (from + 4) → r0 ≡ slot_of signed16 (v / 1 % 65536)
      → r1 ≡ slot_of signed16 (v / 65536 % 65536) → r2 ≡ slot_of signed16 (w / 1 % 65536) → r3 ≡ slot_of signed16 (w / 65536 % 65536)
      → out ≡ half_of (byte (r0 ∷ r1 ∷ r2 ∷ r3 ∷ [])) → out ≡ half_of (in_row d from)
  unfolding half_of up_to
  four out v w r0 r1 r2 r3 e f e0 e1 e2 e3 p =
      let e : v ≡ little 4 d (from + 0) = rw (add-zero from) e in
      rw (
        p,
        in_word d from below 0 0 2 v r0 0 e refl e0,
        in_word d from below 0 2 0 v r1 1 e refl e1,
        in_word d from below 4 0 2 w r2 2 f refl e2,
        in_word d from below 4 2 0 w r3 3 f refl e3,
      )

pub returns : goal.returns
returns c = search (four c.args.d.now (λ i. (c.type_inv.d i).fits))
