-- A slot's bits are a 24-bit sample's.
use mathlib.Core.Path.{sym}
use Rattle.sample_rules.specs.Bits.{sent_of}
use Rattle.samples.proofs.Slotting.{same_bits}
use Rattle.samples.proofs.slots.Signed24Sample.sent.Goals as goal

pub returns : goal.returns
unfolding sent_of
returns c = (sym (same_bits c.args.s c.requires), c.requires)
