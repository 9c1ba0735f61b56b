-- Sixteen frames a turn, in the part of the data that they are lent, and what is left.
use mathlib.Core.Path.{refl}
use native.Mathlib.Omega.{arith}
use Rattle.formats.specs.Formats.{unsigned8}
use Rattle.records.proofs.Turns.{turns_start, turns_next, turns_rest}
use Rattle.out8.proofs.ones.Goals as goal

pub loop-k-init : goal.loop-k-init
loop-k-init c = turns_start unsigned8 16 1 _ _ _ _ _ (omega arith)

pub loop-k-preserved : goal.loop-k-preserved
loop-k-preserved c =
    turns_next unsigned8 16 1 _ _ _ _ _ _ _ c.loop-k.invariant _ _ _ _ c.loop-k-test.true (omega arith) refl c.sixteen_frames.ensures refl

pub returns : goal.returns
returns c = turns_rest unsigned8 16 1 _ _ _ _ _ _ _ c.loop-k.invariant _ _ _ refl c.loop-k-test.false refl c.some.ensures
