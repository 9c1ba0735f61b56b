-- Words side by side, each in the part that it is lent.
use Rattle.formats.specs.Formats.{unsigned8}
use Rattle.records.proofs.Runs.{by_fours}
use Rattle.out8.proofs.full_frame.Goals as goal

pub returns : goal.returns
returns c = by_fours unsigned8 _ _ _ c.requires.1 _ _ _ _ c.put.ensures c.put-2.ensures c.four-v.ensures c.four-w.ensures
