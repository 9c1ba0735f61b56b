-- A record a turn, each in the part of the track that it is lent.
use Rattle.lay_blocks.specs.Blocks.{block_frames}
use Rattle.records.proofs.Laid.{Laying}
use Rattle.lay_blocks.proofs.lay_all.Given as goal

abbrev pub invariant-loop-k : goal.invariant-loop-k
invariant-loop-k l = Laying (block_frames l.block l.channels) l.frames l.initial.track l.place l.track l.k
