-- Zeros, by default.
use Rattle.take_rules.specs.Tally.{tally_of}
use Rattle.std.proofs.Common.{ap}
use Rattle.take.proofs.Zeros.{zeros}
use Rattle.take.proofs.counts.clear.Goals as goal

pub returns : goal.returns
returns c = ap tally_of (zeros 17 c.default.result.counts c.default.ensures.long c.default.ensures.at)
