-- A pair a turn, each in the part of the data that it is lent.
use mathlib.Core.Path.{refl}
use native.Mathlib.Omega.{arith}
use Rattle.formats.specs.Formats.{signed32}
use Rattle.records.proofs.Taking.{take_start, take_next, take_end}
use Rattle.out32.proofs.PairLaws.{pair_stored}
use Rattle.out32.proofs.later.Goals as goal

pub loop-k-init : goal.loop-k-init
loop-k-init c = take_start signed32 2 _ _ _ _ _ _ c.requires.3

pub loop-k-preserved : goal.loop-k-preserved
loop-k-preserved c =
    take_next signed32 2 _ _ _ _ _ _ _ _ c.loop-k.invariant _ _ _ _ c.loop-k-test.true refl refl refl
    (pair_stored c.args.track.now (λ j. (c.type_inv.track j).fits) _ _ _ _ (omega arith) c.get8.ensures c.pair-w.ensures c.put8.ensures)

pub returns : goal.returns
returns c = take_end signed32 2 _ _ _ _ _ _ _ _ c.loop-k.invariant c.loop-k-test.false
