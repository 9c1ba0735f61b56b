-- A record a turn, each in the part of the track that it is lent.
use Rattle.records.proofs.Laid.{lay_start, lay_next, lay_end}
use Rattle.lay_blocks.proofs.lay_all.Goals as goal

pub loop-k-init : goal.loop-k-init
loop-k-init c = search lay_start

pub loop-k-preserved : goal.loop-k-preserved
loop-k-preserved c = search lay_next

pub returns : goal.returns
returns c = search lay_end
