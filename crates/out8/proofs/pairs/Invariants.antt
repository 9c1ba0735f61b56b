-- Two frames a turn, as a word in the part of the data that it is lent, and what is left.
use Rattle.formats.specs.Formats.{unsigned8}
use Rattle.records.proofs.Turns.{Turns}
use Rattle.out8.proofs.pairs.Given as goal

abbrev pub invariant-loop-k : goal.invariant-loop-k
invariant-loop-k l = Turns unsigned8 2 2 l.track l.first l.count l.initial.out l.at l.out l.k
