-- What was read, in the part that is lent.
use mathlib.Core.Path.{◌≡◌}
use native.Mathlib.Omega.{arith}
use Rattle.out24.proofs.Overlaid.{word_stored}
use Rattle.out24.proofs.store.Goals as goal

pub returns-then-channels-eq1 : goal.returns-then-channels-eq1
returns-then-channels-eq1 c =
    let z : c.args.channels ≡ 1 = omega arith in
    rw z (word_stored c.args.track.now (λ i. (c.type_inv.track i).fits) 4 _ _ _ _ _ (omega arith) c.get-v.ensures.0 c.put.ensures)

pub returns : goal.returns
returns c =
    let z : c.args.channels ≡ 2 = omega arith in
    rw z (word_stored c.args.track.now (λ i. (c.type_inv.track i).fits) 8 _ _ _ _ _ (omega arith) c.get8-w.ensures c.put8.ensures)
