-- Two frames a turn, as a word in the part of the data that it is lent, and what is left.
use Rattle.formats.specs.Formats.{signed16}
use Rattle.records.proofs.Turns.{Turns}
use Rattle.out16.proofs.ones.Given as goal

abbrev pub invariant-loop-k : goal.invariant-loop-k
invariant-loop-k l = Turns signed16 2 1 l.track l.first l.count l.initial.out l.at l.out l.k
