-- What `moved` gives is the definition's, at these widths.
use Rattle.sample_rules.specs.Convert.{converted}
use Rattle.sample_rules.specs.Bits.{sent_of}
use Rattle.samples.proofs.slots.Signed32Sample.sent.Goals as goal

pub returns : goal.returns
unfolding sent_of converted
returns c = c.moved.ensures
