-- A frame a turn, each in the part of the data that it is lent.
use mathlib.Core.Path.{refl}
use native.Mathlib.Omega.{arith}
use Rattle.formats.specs.Formats.{signed16}
use Rattle.records.proofs.Taking.{take_start, take_next, taken}
use Rattle.out16.proofs.full.Goals as goal

pub loop-k-init : goal.loop-k-init
loop-k-init c = take_start signed16 8 _ _ _ _ _ _ c.requires.2

pub loop-k-preserved : goal.loop-k-preserved
loop-k-preserved c =
    take_next signed16 8 _ _ _ _ _ _ _ _ c.loop-k.invariant _ _ 16 _ c.loop-k-test.true (omega arith) refl refl c.full_frame.ensures

pub returns : goal.returns
returns c = taken signed16 8 _ _ _ _ _ _ _ c.loop-k.invariant c.loop-k-test.false
