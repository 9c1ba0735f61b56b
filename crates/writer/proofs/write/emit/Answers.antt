-- The header comes back in its place, and the samples follow it.
use Rattle.writer.proofs.Pieces.{packed}
use Rattle.writer.proofs.write.emit.Goals as goal

pub returns : goal.returns
returns c = search packed
