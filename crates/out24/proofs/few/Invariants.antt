-- Four stores a turn, and what is left.
use Prim.Native.Nat.{◌*◌}
use Rattle.out24.proofs.Overlaid.{Overlaid}
use Rattle.out24.proofs.few.Given as goal

abbrev pub invariant-loop-k : goal.invariant-loop-k
invariant-loop-k l = Overlaid l.channels l.track l.first l.frames l.channels l.initial.out l.at l.out (l.k * 4)
