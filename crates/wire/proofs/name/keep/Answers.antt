-- Two words, each stored in its half.
use mathlib.Core.Path.{◌≡◌, refl, sym, ap, ◌∙◌}
use mathlib.Core.List.{List, ◌++◌}
use Prim.Native.Nat.{ℕ, ◌-◌, ◌%◌, ◌^◌, ◌<◌}
use native.Mathlib.Omega.{arith}
use lib.ListN.{length, take, drop, length-append}
use borrow.Author.Rules.{rules}
use borrow.Rule.Slice.PartMut.{put_mid}
use Rattle.lists.specs.Lists.{byte, put}
use Rattle.lists.proofs.Lists.{put_whole, lent, put_next}
use Rattle.wire_rules.specs.Names.{name_of, kept_name}
use Rattle.lists.specs.Little.{little, bytes_of}
use Rattle.lists.proofs.Little.{bytes_length}
use Rattle.wire.proofs.Halves.{padded, stored_lowest, kept_words}
use Rattle.wire.proofs.name.keep.Goals as goal

module _ (n out : List ℕ) (field : length n ≡ 16) (room : length out ≡ 16) (below : (i : ℕ) → byte n i < 256) where
  words : (k j a b w v : ℕ) (ys zs : List ℕ) → k ≡ length (name_of n) → a ≡ little 8 n 0 → w ≡ a % 256 ^ k → b ≡ little 8 n 8 → j ≡ k - 8 → v ≡ b % 256 ^ j
      → ys ≡ bytes_of 8 w → zs ≡ bytes_of 8 v → put_mid 8 8 (put_mid 0 8 out ys) zs ≡ kept_name n
  words k j a b w v ys zs p ea ew eb ej ev py pz =
      let y : ys ≡ padded k (take 8 n) = py ∙ stored_lowest n below 0 k w (omega arith) (rw (ew, ea)) in
      let z : zs ≡ padded (k - 8) (take 8 (drop 8 n)) = pz ∙ stored_lowest n below 8 (k - 8) v (omega arith) (rw (ev, eb, ej)) in
      let ly : length ys ≡ 8 = ap length py ∙ bytes_length 8 w in
      let lz : length zs ≡ 8 = ap length pz ∙ bytes_length 8 v in
      let l : length out ≡ length (ys ++ zs) = room ∙ sym (length-append ys zs ∙ rw (ly, lz)) in
      lent (put_mid 0 8 out ys) zs 8 8 lz
      ∙ ap (λ (x : List ℕ). put x 8 zs) (lent out ys 0 8 ly)
      ∙ put_next out ys zs 8 ly
      ∙ put_whole out (ys ++ zs) l
      ∙ rw (y, z) (kept_words n k field p)

  -- under eight characters the second word is zero
  short : (k a w : ℕ) (ys zs : List ℕ) → k ≡ length (name_of n) → a ≡ little 8 n 0 → w ≡ a % 256 ^ k → k < 8 → ys ≡ bytes_of 8 w → zs ≡ bytes_of 8 0
      → put_mid 8 8 (put_mid 0 8 out ys) zs ≡ kept_name n
  short k a w ys zs p ea ew l py pz = words k 0 a (little 8 n 8) w 0 ys zs p ea ew refl (omega arith) (omega arith) py pz

pub returns-then-k-lt8 : goal.returns-then-k-lt8
returns-then-k-lt8 c = search (short c.args.n.now c.args.out.now (search rules) c.requires.out_len (search rules))

pub returns : goal.returns
returns c = search (words c.args.n.now c.args.out.now (search rules) c.requires.out_len (search rules))
