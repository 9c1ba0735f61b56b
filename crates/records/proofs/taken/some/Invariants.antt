-- A frame a turn, each in the part of the data that it is lent.
use mathlib.Core.Path.{◌≡◌}
use Prim.Native.Nat.{◌+◌, ◌*◌}
use Rattle.records.proofs.Taking.{Taking}
use Rattle.records.proofs.taken.some.Given as goal

abbrev pub invariant-loop : goal.invariant-loop
invariant-loop g l =
    Taking g.S.Sample.format l.channels l.track (l.first * 24) 24 l.frames l.initial.out l.at l.out l.counter
    × (l.from ≡ (l.first + l.counter) * 24)
    × (l.a ≡ l.at + l.counter * l.step)
