-- A frame a turn, each in the part of the data that it is lent.
use mathlib.Core.Path.{refl}
use native.Mathlib.Omega.{arith}
use Rattle.formats.specs.Formats.{unsigned8}
use Rattle.records.proofs.Taking.{take_start, take_next, taken}
use Rattle.out8.proofs.full.Goals as goal

pub loop-k-init : goal.loop-k-init
loop-k-init c = take_start unsigned8 8 _ _ _ _ _ _ c.requires.2

pub loop-k-preserved : goal.loop-k-preserved
loop-k-preserved c =
    take_next unsigned8 8 _ _ _ _ _ _ _ _ c.loop-k.invariant _ _ 8 _ c.loop-k-test.true (omega arith) refl refl c.full_frame.ensures

pub returns : goal.returns
returns c = taken unsigned8 8 _ _ _ _ _ _ _ c.loop-k.invariant c.loop-k-test.false
