-- Laid by a copy.
use Rattle.lay24.proofs.Copying.{laid_whole}
use Rattle.lay24.proofs.full.Goals as goal

pub returns : goal.returns
returns c = search (laid_whole c.args.d.now (λ i. (c.type_inv.d i).fits))
