-- Of no frames nothing is written. Two channels are a pair a record, and eight are four pairs.
use mathlib.Core.Path.{◌∙◌}
use Prim.Native.Nat.{◌*◌}
use Rattle.formats.specs.Formats.{signed32}
use Rattle.records.proofs.Taking.{none, taken_frames}
use Rattle.out32.proofs.PairLaws.{side_by_side}
use Rattle.out32.proofs.take_out.Goals as goal

pub returns-then-frames-eq0 : goal.returns-then-frames-eq0
returns-then-frames-eq0 c = none _ _ _ _ _ _ _ c.if-frames-eq0.true

pub returns-in-2 : goal.returns-in-2
returns-in-2 c = let a = c.args in c.pairs.ensures ∙ rw (c.in-2.is, taken_frames signed32 a.track.now a.first a.frames 2)

pub returns-in-8 : goal.returns-in-8
returns-in-8 c =
    let a = c.args in
    let t = a.track.now in
    c.pairs-in-8.ensures ∙ rw (c.in-8.is, side_by_side signed32 t (a.first * 24) a.frames, taken_frames signed32 t a.first a.frames 8)
