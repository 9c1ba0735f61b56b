-- The sub protocol lies above the rate's five bits.
use native.Mathlib.Omega.{arith}
use Rattle.wire.proofs.Shifting.{joined}
use Rattle.wire.proofs.bits.join_four.Goals as goal

pub returns : goal.returns
returns c = joined 256 5 c.args.sub c.args.rate (omega arith) (omega arith)
