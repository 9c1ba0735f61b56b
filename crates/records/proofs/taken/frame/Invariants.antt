-- A sample a turn, each in the part of the frame that it is lent.
use Rattle.lists.proofs.Loops.{Pieces}
use Rattle.records.specs.Frames.{sent_bytes}
use Rattle.records.proofs.taken.frame.Given as goal

abbrev pub invariant-loop-c : goal.invariant-loop-c
invariant-loop-c g l = Pieces g.S.Sample.SIZE (sent_bytes g.S.Sample.format l.track l.at) l.channels l.initial.out 0 l.out l.c
