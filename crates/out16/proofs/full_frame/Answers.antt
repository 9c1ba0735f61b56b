-- Words side by side, each in the part that it is lent.
use Rattle.formats.specs.Formats.{signed16}
use Rattle.records.proofs.Runs.{by_twos}
use Rattle.out16.proofs.full_frame.Goals as goal

pub returns : goal.returns
returns c =
    by_twos signed16 _ _ _ c.requires.1 _ _ _ _ _ _ _ _ c.put.ensures c.put-2.ensures c.put-3.ensures c.put-4.ensures
    c.pair-v.ensures c.pair-w.ensures c.pair-x.ensures c.pair-y.ensures
