-- A frame a turn, as a word in the part of the data that it is lent.
use mathlib.Core.Path.{refl}
use native.Mathlib.Omega.{arith}
use Rattle.formats.specs.Formats.{signed16}
use Rattle.records.proofs.Runs.{run_for_count}
use Rattle.records.proofs.Taking.{take_start, take_next, taken}
use Rattle.out16.proofs.pairs.Goals as goal

pub loop-k-init : goal.loop-k-init
loop-k-init c = take_start signed16 2 _ _ _ _ _ _ c.requires.2

pub loop-k-preserved : goal.loop-k-preserved
loop-k-preserved c =
    take_next signed16 2 _ _ _ _ _ _ _ _ c.loop-k.invariant _ _ 4 _ c.loop-k-test.true (omega arith) refl refl
    (run_for_count signed16 _ _ 2 2 _ _ refl c.put.ensures c.pair-v.ensures)

pub returns : goal.returns
returns c = taken signed16 2 _ _ _ _ _ _ _ c.loop-k.invariant c.loop-k-test.false
