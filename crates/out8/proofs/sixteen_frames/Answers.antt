-- Four words side by side, each in the part that it is lent.
use Rattle.out8.proofs.Joins.{sixteen_frames}
use Rattle.out8.proofs.sixteen_frames.Goals as goal

pub returns : goal.returns
returns c =
    sixteen_frames _ _ _ _ _ _ _ _ _ _ _ c.requires.1 c.put.ensures c.put-2.ensures c.put-3.ensures c.put-4.ensures
    c.four_frames-v.ensures c.four_frames-w.ensures c.four_frames-x.ensures c.four_frames-y.ensures
