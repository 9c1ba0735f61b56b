-- A slot, as a sample.
use Rattle.records.proofs.Taking.{sent}
use Rattle.records.proofs.taken.sample.Goals as goal

pub returns : goal.returns
returns g c = (sent _ _ _ _ _ _ c.slot.ensures.0 c.sent.ensures.0, c.sent.ensures.1)
