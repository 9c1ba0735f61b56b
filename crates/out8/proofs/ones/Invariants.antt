-- Sixteen frames a turn, in the part of the data that they are lent, and what is left.
use Rattle.formats.specs.Formats.{unsigned8}
use Rattle.records.proofs.Turns.{Turns}
use Rattle.out8.proofs.ones.Given as goal

abbrev pub invariant-loop-k : goal.invariant-loop-k
invariant-loop-k l = Turns unsigned8 16 1 l.track l.first l.count l.initial.out l.at l.out l.k
