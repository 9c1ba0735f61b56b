-- Eight slots, as a record.
use Rattle.records.proofs.Laid.{framed}
use Rattle.lay_blocks.proofs.frame.Goals as goal

pub returns : goal.returns
returns c = search framed
