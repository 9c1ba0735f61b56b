-- A record a turn, each in the part of the track that it is lent.
use Rattle.formats.specs.Formats.{signed24}
use Rattle.records.proofs.Laid.{lay_start, packet_next, lay_end}
use Rattle.lay24.proofs.pairs.Goals as goal

pub loop-k-init : goal.loop-k-init
loop-k-init c = search lay_start

pub loop-k-preserved : goal.loop-k-preserved
loop-k-preserved c = search (packet_next signed24)

pub returns : goal.returns
returns c = search lay_end
