-- The first pair, and the others after it.
use native.Mathlib.Omega.{arith}
use Rattle.out32.proofs.PairLaws.{first_stored, first_and_later}
use Rattle.out32.proofs.pairs.Goals as goal

pub returns : goal.returns
returns c =
    let t = c.args.track.now in
    let first = first_stored t (λ i. (c.type_inv.track i).fits) _ _ _ _ c.get8.ensures c.pair-w.ensures c.put8.ensures in
    first_and_later t _ _ _ _ _ _ _ c.requires.le_count.0 (omega arith) first c.later.ensures
