-- Zeros, by default.
use Rattle.take.proofs.Zeros.{zeros, zero_take}
use Rattle.take.proofs.open.none.Goals as goal

pub returns : goal.returns
returns c =
    let e = c.default.ensures in
    zero_take c.default.result (zeros 16 c.default.result.who.name e.0.0.long e.0.0.at) e.0.1 e.1.0 e.1.1.0 e.1.1.1
