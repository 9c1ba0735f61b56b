-- A frame a turn.
use Rattle.std.proofs.Common.{◌≡◌, ◌∙◌, arith}
use Rattle.formats.specs.Formats.{size_of}
use Rattle.records.proofs.Laid.{lay_start, packet_sized, lay_end}
use Rattle.records.proofs.laying.lay.Goals as goal

pub loop-k-init : goal.loop-k-init
loop-k-init g c = search lay_start

pub loop-k-preserved : goal.loop-k-preserved
loop-k-preserved g c =
    let z : c.SIZE.result ≡ size_of g.S.Sample.format = c.SIZE.ensures ∙ g.met.S.Sample.sized in
    packet_sized _ _ _ _ _ _ _ _ _ c.loop-k.invariant _ _ _ c.loop-k-test.true c.frame.ensures z (omega arith)

pub returns : goal.returns
returns g c = search lay_end
