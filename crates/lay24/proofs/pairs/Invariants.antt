-- A record a turn, each in the part of the track that it is lent.
use Rattle.formats.specs.Formats.{signed24}
use Rattle.track_rules.specs.Records.{packet_slot}
use Rattle.records.proofs.Laid.{Laying}
use Rattle.lay24.proofs.pairs.Given as goal

abbrev pub invariant-loop-k : goal.invariant-loop-k
invariant-loop-k l = Laying (packet_slot signed24 l.d l.from 2) l.frames l.initial.track l.place l.track l.k
