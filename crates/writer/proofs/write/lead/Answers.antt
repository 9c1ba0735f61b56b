-- The pieces, one after the other, are the 28 bytes.
use mathlib.Core.Path.{◌≡◌, sym, ap, ◌∙◌}
use mathlib.Core.List.{List, [], ◌∷◌, ◌++◌}
use Prim.Native.Nat.{ℕ}
use lib.ListN.{length, length-append}
use borrow.Author.Rules.{rules}
use Rattle.lists.specs.Lists.{put}
use borrow.Rule.Slice.PartMut.{put_mid}
use Rattle.lists.proofs.Lists.{put_whole, lent, put_next}
use Rattle.wire_rules.specs.Names.{kept_name}
use Rattle.lists.specs.Little.{bytes_of}
use Rattle.lists.proofs.Little.{bytes_length}
use Rattle.wire_rules.specs.Write.{lead_of}
use Rattle.writer.proofs.write.lead.Goals as goal

assembled : (b4 b5 b6 b7 counter : ℕ) (name out o₁ kept count : List ℕ)
    → o₁ ≡ put out 0 (0x56 ∷ 0x42 ∷ 0x41 ∷ 0x4E ∷ b4 ∷ b5 ∷ b6 ∷ b7 ∷ []) → kept ≡ kept_name name
    → count ≡ bytes_of 4 counter → length kept ≡ 16 → length out ≡ 28 → put_mid 24 4 (put_mid 8 16 o₁ kept) count ≡ lead_of b4 b5 b6 b7 name counter
unfolding lead_of
assembled b4 b5 b6 b7 counter name out o₁ kept count p₁ k f l w =
    let mark : List ℕ = 0x56 ∷ 0x42 ∷ 0x41 ∷ 0x4E ∷ b4 ∷ b5 ∷ b6 ∷ b7 ∷ [] in
    let lead : length (mark ++ kept) ≡ 24 = length-append mark kept ∙ rw l in
    let whole : length (mark ++ kept ++ bytes_of 4 counter) ≡ 28 = length-append (mark ++ kept) (bytes_of 4 counter) ∙ rw (lead, bytes_length 4 counter) in
    let c : length count ≡ 4 = ap length f ∙ bytes_length 4 counter in
    rw (
      lent (put_mid 8 16 o₁ kept) count 24 4 c,
      lent o₁ kept 8 16 l,
      p₁,
      f,
      put_next out mark kept 8,
      put_next out (mark ++ kept) (bytes_of 4 counter) 24 lead,
      put_whole out (mark ++ kept ++ bytes_of 4 counter) (w ∙ sym whole),
      k,
    )

pub returns : goal.returns
returns c =
    let a = c.args in
    assembled a.b4 a.b5 a.b6 a.b7 a.counter a.name.field.now a.out.now _ _ _ c.place.ensures c.keep.ensures c.put.ensures (search rules) c.requires.out_len
