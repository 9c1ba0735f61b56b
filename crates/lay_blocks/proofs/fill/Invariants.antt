-- A sample a turn.
use Rattle.lists.proofs.Loops.{Pieces}
use Rattle.lay_blocks.specs.Blocks.{sample_slot}
use Rattle.lay_blocks.proofs.fill.Given as goal

abbrev pub invariant-loop-i : goal.invariant-loop-i
invariant-loop-i g l = Pieces 1 (sample_slot g.S.Sample.format l.d l.from) l.n l.initial.block 0 l.block l.i
