-- A mask of the low bits is a remainder.
use lib.Bits.{and_mask}
use Rattle.wire.proofs.bits.format.Goals as goal

pub returns : goal.returns
returns c = and_mask c.args.b 3
