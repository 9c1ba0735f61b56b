-- A pair a turn, each in the part of the data that it is lent.
use Rattle.formats.specs.Formats.{signed32}
use Rattle.records.proofs.Taking.{Taking}
use Rattle.out32.proofs.later.Given as goal

abbrev pub invariant-loop-k : goal.invariant-loop-k
invariant-loop-k l = Taking signed32 2 l.track l.start l.step l.count l.initial.out l.at l.out l.k
