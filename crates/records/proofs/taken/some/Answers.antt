-- A frame a turn, each in the part of the data that it is lent.
use mathlib.Core.Path.{◌≡◌, ◌∙◌}
use native.Mathlib.Omega.{arith}
use Rattle.formats.specs.Formats.{size_of}
use Rattle.records.proofs.Taking.{take_start, take_next, taken}
use Rattle.records.proofs.taken.some.Goals as goal

pub loop-init : goal.loop-init
loop-init g c = (take_start _ _ _ _ _ _ _ _ c.requires.2, omega arith, omega arith)

pub loop-preserved : goal.loop-preserved
loop-preserved g c =
    let e : c.SIZE.result ≡ size_of g.S.Sample.format = c.SIZE.ensures ∙ g.met.S.Sample.sized in
    let l = c.loop.invariant in
    (take_next _ _ _ _ _ _ _ _ _ _ l.0 _ _ _ _ c.loop-test.true (omega arith) l.2 (rw e) c.frame.ensures, omega arith, omega arith)

pub returns : goal.returns
returns g c = taken _ _ _ _ _ _ _ _ _ c.loop.invariant.0 c.loop-test.false
