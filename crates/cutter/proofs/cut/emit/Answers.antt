-- The header, and the samples after it.
use Rattle.writer.proofs.Pieces.{packed}
use Rattle.cutter.proofs.cut.emit.Goals as goal

pub returns : goal.returns
returns c = search packed
