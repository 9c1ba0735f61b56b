-- A frame a turn.
use Rattle.track_rules.specs.Records.{packet_slot}
use Rattle.records.proofs.Laid.{Laying}
use Rattle.records.proofs.laying.lay.Given as goal

abbrev pub invariant-loop-k : goal.invariant-loop-k
invariant-loop-k g l = Laying (packet_slot g.S.Sample.format l.d l.from l.channels) l.frames l.initial.track l.place l.track l.k
