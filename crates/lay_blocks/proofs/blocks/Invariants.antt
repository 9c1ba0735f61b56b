-- A block a turn.
use Prim.Native.Nat.{◌-◌}
use Rattle.track_rules.specs.Records.{packet_slot}
use Rattle.records.proofs.Laid.{Laying}
use Rattle.lay_blocks.specs.Blocks.{Slots}
use Rattle.lay_blocks.proofs.blocks.Given as goal

abbrev pub invariant-loop-k : goal.invariant-loop-k
invariant-loop-k g l = Slots l.block × Laying (packet_slot g.S.Sample.format l.d l.from l.channels) l.frames l.initial.track l.place l.track l.k

abbrev pub decreases-loop-k : goal.decreases-loop-k
decreases-loop-k g l = l.frames - l.k
