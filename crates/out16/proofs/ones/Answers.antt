-- Two frames a turn, as a word in the part of the data that it is lent, and what is left.
use mathlib.Core.Path.{refl}
use native.Mathlib.Omega.{arith}
use Rattle.formats.specs.Formats.{signed16}
use Rattle.records.proofs.Turns.{turns_start, turns_next, turns_rest}
use Rattle.out16.proofs.ones.Goals as goal

pub loop-k-init : goal.loop-k-init
loop-k-init c = turns_start signed16 2 1 _ _ _ _ _ (omega arith)

pub loop-k-preserved : goal.loop-k-preserved
loop-k-preserved c =
    turns_next signed16 2 1 _ _ _ _ _ _ _ c.loop-k.invariant _ _ _ _ c.loop-k-test.true refl refl c.put.ensures c.two_frames-v.ensures

pub returns : goal.returns
returns c = turns_rest signed16 2 1 _ _ _ _ _ _ _ c.loop-k.invariant _ _ _ refl c.loop-k-test.false refl c.some.ensures
