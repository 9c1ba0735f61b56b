-- The part of the one slice, copied over the whole part of the other.
use Rattle.std.proofs.Common.{ℕ, ◌≡◌, ◌+◌, ◌-◌, ◌≤◌, List, length, take, drop, sym, ap, ◌∙◌, arith}
use native.Mathlib.Nat.{add-sub_cancel_left}
use lib.ListN.{length-take, length-drop}
use borrow.Rule.Slice.PartMut.{put_mid}
use Rattle.lists.specs.Lists.{put}
use Rattle.lists.proofs.Lists.{lent}
use Rattle.words.proofs.copy.Goals as goal

module _ (d out ys : List ℕ) (from n at : ℕ) (h : from + n ≤ length d) where
  abbrev part : List ℕ
  part = take (from + n - from) (drop from d)

  part_length : length part ≡ n
  part_length = simp (length-take, length-drop) (omega arith)

  named : put out at part ≡ put out at (take n (drop from d))
  named = ap (λ (k : ℕ). put out at (take k (drop from d))) (add-sub_cancel_left from n)

  written : ys ≡ part → put_mid at (at + n - at) out ys ≡ put out at (take n (drop from d))
  written p = rw p (lent out part at (at + n - at) (part_length ∙ sym (add-sub_cancel_left at n)) ∙ named)

pub returns-then-n-le1464 : goal.returns-then-n-le1464
returns-then-n-le1464 c = written c.args.d.now c.args.out.now _ c.args.from c.args.n c.args.at c.requires.0 c.copy_block.ensures

pub returns : goal.returns
returns c = written c.args.d.now c.args.out.now _ c.args.from c.args.n c.args.at c.requires.0 c.copy_from_slice.ensures.after
