-- A frame a turn, as a word in the part of the data that it is lent.
use Prim.Native.Nat.{◌*◌}
use Rattle.formats.specs.Formats.{signed16}
use Rattle.records.proofs.Taking.{Taking}
use Rattle.out16.proofs.pairs.Given as goal

abbrev pub invariant-loop-k : goal.invariant-loop-k
invariant-loop-k l = Taking signed16 2 l.track (l.first * 24) 24 l.frames l.initial.out l.at l.out l.k
