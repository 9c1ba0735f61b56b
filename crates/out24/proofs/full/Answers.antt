-- Taken out by a copy.
use Rattle.out24.proofs.Copying.{taken_whole}
use Rattle.out24.proofs.full.Goals as goal

pub returns : goal.returns
returns c = let o = c in
    search (taken_whole o.args.track.now (λ i. (o.type_inv.track i).fits))
