-- The six bytes of two samples, as one word of a record.
use mathlib.Core.Path.{◌≡◌, refl, sym, ap, ◌∙◌}
use mathlib.Core.List.{List}
use Prim.Native.Nat.{ℕ, ◌+◌, ◌*◌, ◌%◌, ◌<◌}
use native.Mathlib.Nat.{add-zero}
use native.Mathlib.Omega.{arith}
use lib.Dec.{lit<, lit≤}
use lib.ListN.{length}
use borrow.Rule.Slice.PartMut.{put_mid}
use Rattle.lists.specs.Lists.{byte}
use Rattle.lists.specs.Little.{little, bytes_of}
use Rattle.lists.proofs.Little.{little_below, little_joined}
use Rattle.formats.specs.Formats.{signed24}
use Rattle.track_rules.specs.Records.{record_of, frame_slot}
use Rattle.records.proofs.Packing.{packed}
use Rattle.records.proofs.Laid.{heard, silent, framed}
use Rattle.lay24.proofs.Copying.{same_slot}
use Rattle.lay24.proofs.pair_frame.Goals as goal

module _ (d : List ℕ) (below : (i : ℕ) → byte d i < 256) (from : ℕ) where
  -- sample c
  abbrev one : ℕ → ℕ
  one c = little 3 d (from + c * 3)

  one_below : (c : ℕ) → one c < 16777216
  one_below c = little_below 3 d (from + c * 3) below

  one_slot : (c : ℕ) → c < 2 → one c ≡ frame_slot signed24 d from 2 c
  one_slot c h = heard signed24 d from 2 c _ _ _ h refl refl (sym (same_slot (one c) (one_below c)))

  word : little 4 d from + little 2 d (from + 4) * 4294967296 ≡ one 0 + one 1 * 16777216 + 0 % 65536 * 281474976710656
  word = rw (add-zero from) (omega (arith, little_joined 4 2 d from, little_joined 3 3 d from))

  paired : (out ys0 ys1 ys2 : List ℕ) (u v x y : ℕ) → length out ≡ 24 → u ≡ little 4 d from → x ≡ u → v ≡ little 2 d (from + 4) → y ≡ v
      → ys0 ≡ bytes_of 8 (x + y * 4294967296) → ys1 ≡ bytes_of 8 0 → ys2 ≡ bytes_of 8 0
      → put_mid 16 8 (put_mid 8 8 (put_mid 0 8 out ys0) ys1) ys2 ≡ record_of (frame_slot signed24 d from 2)
  paired out ys0 ys1 ys2 u v x y h p ep q eq e0 e1 e2 =
      framed (frame_slot signed24 d from 2) _ (one 0) (one 1) 0 0 0 0 0 0
      (packed (one 0) (one 1) 0 0 0 0 0 0 (one_below 0) (one_below 1) (lit< tt) (lit< tt) (lit< tt) (lit< tt) (lit< tt) (lit< tt)
      out ys0 ys1 ys2 h (e0 ∙ rw (ep, p, eq, q) (ap (bytes_of 8) word)) e1 e2)
      (one_slot 0 (lit< tt)) (one_slot 1 (lit< tt)) (silent signed24 d from 2 2 (lit≤ tt)) (silent signed24 d from 2 3 (lit≤ tt))
      (silent signed24 d from 2 4 (lit≤ tt)) (silent signed24 d from 2 5 (lit≤ tt)) (silent signed24 d from 2 6 (lit≤ tt)) (silent signed24 d from 2 7 (lit≤ tt))

pub returns : goal.returns
returns c = search (paired c.args.d.now (λ i. (c.type_inv.d i).fits))
