-- A record a turn.
use Rattle.takelist.specs.Block.{box_of}
use Rattle.takelist.proofs.Blocks.{Going}
use Rattle.takelist.proofs.block.Follower.block.Given as goal

abbrev pub invariant-loop-i : goal.invariant-loop-i
invariant-loop-i g l = Going (box_of l.initial.self l.initial.track) l.index l.block l.initial.lines.items l.lines.items l.track l.self l.i
