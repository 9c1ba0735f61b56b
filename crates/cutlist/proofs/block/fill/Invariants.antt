-- A record a turn, in the place that it is lent.
use Rattle.cutlist.proofs.Filling.{Filling}
use Rattle.cutlist.proofs.block.fill.Given as goal

abbrev pub invariant-loop-n : goal.invariant-loop-n
invariant-loop-n l = Filling l.header l.track l.address l.k l.initial.block l.block l.n
