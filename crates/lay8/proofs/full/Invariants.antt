-- A record a turn, each in the part of the track that it is lent.
use Rattle.formats.specs.Formats.{unsigned8}
use Rattle.track_rules.specs.Records.{packet_slot}
use Rattle.records.proofs.Laid.{Laying}
use Rattle.lay8.proofs.full.Given as goal

abbrev pub invariant-loop-k : goal.invariant-loop-k
invariant-loop-k l = Laying (packet_slot unsigned8 l.d l.from 8) l.frames l.initial.track l.place l.track l.k
