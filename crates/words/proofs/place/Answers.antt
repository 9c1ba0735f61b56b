-- The whole slice, over a part of the other that is as long.
use Rattle.std.proofs.Common.{length, sym}
use native.Mathlib.Nat.{add-sub_cancel_left}
use Rattle.lists.proofs.Lists.{lent}
use Rattle.words.proofs.place.Goals as goal

pub returns : goal.returns
returns c =
    rw c.copy_from_slice.ensures.after
    (lent c.args.out.now c.args.src.now c.args.at _ (sym (add-sub_cancel_left c.args.at (length c.args.src.now))))
