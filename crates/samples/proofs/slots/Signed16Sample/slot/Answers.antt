-- What `moved` gives is the definition's, at these widths.
use Rattle.sample_rules.specs.Convert.{converted}
use Rattle.sample_rules.specs.Bits.{slot_of}
use Rattle.samples.proofs.slots.Signed16Sample.slot.Goals as goal

pub returns : goal.returns
unfolding slot_of converted
returns c = c.moved.ensures
