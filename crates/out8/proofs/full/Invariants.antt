-- A frame a turn, each in the part of the data that it is lent.
use Prim.Native.Nat.{◌*◌}
use Rattle.formats.specs.Formats.{unsigned8}
use Rattle.records.proofs.Taking.{Taking}
use Rattle.out8.proofs.full.Given as goal

abbrev pub invariant-loop-k : goal.invariant-loop-k
invariant-loop-k l = Taking unsigned8 8 l.track (l.first * 24) 24 l.frames l.initial.out l.at l.out l.k
