-- Half a record a turn, each in the part of the track that it is lent.
use Prim.Native.Nat.{◌+◌, ◌*◌}
use Rattle.lists.proofs.Loops.{Pieces}
use Rattle.records.specs.Frames.{half_of}
use Rattle.lay16.specs.Rows.{in_row}
use Rattle.lay16.proofs.full.Given as goal

abbrev pub invariant-loop-k : goal.invariant-loop-k
invariant-loop-k l = Pieces 12 (λ i. half_of (in_row l.d (l.from + i * 8))) (l.frames * 2) l.initial.track (l.place * 24) l.track l.k
