-- Measured.
use Rattle.std.proofs.Common.{◌≡◌, ◌∙◌, arith}
use Rattle.wire_rules.specs.Names.{good_name}
use Rattle.wire.proofs.Measuring.{measured_good}
use Rattle.wire.proofs.name.good.Goals as goal

pub returns : goal.returns
returns c =
    let e : c.is_some.result ≡ good_name c.args.n.now = c.is_some.ensures ∙ rw c.measure.ensures (measured_good c.args.n.now) in
    grind arith
