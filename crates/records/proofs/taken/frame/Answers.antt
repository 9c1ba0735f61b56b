-- A sample a turn, each in the part of the frame that it is lent.
use mathlib.Core.Path.{refl}
use Rattle.records.proofs.Taking.{frame_start, frame_next, frame_end}
use Rattle.records.proofs.taken.frame.Goals as goal

pub loop-c-init : goal.loop-c-init
loop-c-init g c = frame_start _ _ _ _ g.met.S.Sample.sized _ _ c.requires.2

pub loop-c-preserved : goal.loop-c-preserved
loop-c-preserved g c =
    rw (c.SIZE.ensures, c.SIZE-in-loop-c.ensures)
    (frame_next _ _ _ _ g.met.S.Sample.sized _ _ c.requires.2 _ _ c.loop-c.invariant _ _ _ c.loop-c-test.true refl c.put.ensures c.sample-v.ensures.0)

pub returns : goal.returns
returns g c = frame_end _ _ _ _ g.met.S.Sample.sized _ _ c.requires.2 _ _ c.loop-c.invariant c.loop-c-test.false
