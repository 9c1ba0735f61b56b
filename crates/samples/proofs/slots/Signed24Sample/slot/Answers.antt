-- A slot's bits are a 24-bit sample's.
use mathlib.Core.Path.{sym}
use Rattle.sample_rules.specs.Bits.{slot_of}
use Rattle.samples.proofs.Slotting.{same_bits}
use Rattle.samples.proofs.slots.Signed24Sample.slot.Goals as goal

pub returns : goal.returns
unfolding slot_of
returns c = (sym (same_bits c.args.u c.requires), c.requires)
