-- Half a record a turn, each in the part of the track that it is lent.
use mathlib.Core.Path.{◌≡◌, ap, ◌∙◌}
use Prim.Native.Nat.{◌+◌, ◌*◌, ◌≤◌}
use native.Mathlib.Omega.{arith}
use lib.ListN.{length}
use Rattle.lists.specs.Lists.{put}
use Rattle.lists.proofs.Loops.{start, there, next, end}
use Rattle.track_rules.specs.Records.{laid_of}
use Rattle.records.proofs.Packing.{half_length}
use Rattle.lay16.proofs.Rows.{all_laid}
use Rattle.lay16.proofs.full.Goals as goal

pub loop-k-init : goal.loop-k-init
loop-k-init c = start 12 _ (λ i. half_length _) _ _ _ (omega arith)

pub slice_bounds-half-end : goal.slice_bounds-half-end
slice_bounds-half-end c =
    let at : (c.args.place * 2 + c.loop-k.k) * 12 ≡ c.args.place * 24 + c.loop-k.k * 12 = omega arith in
    let has : (c.args.place * 2 + c.loop-k.k) * 12 + 12 ≤ length c.loop-k.track = there 12 _ _ _ _ _ _ c.loop-k.invariant _ c.loop-k-test.true at in
    omega (arith, has)

pub loop-k-preserved : goal.loop-k-preserved
loop-k-preserved c =
    let at : (c.args.place * 2 + c.loop-k.k) * 12 ≡ c.args.place * 24 + c.loop-k.k * 12 = omega arith in
    next 12 _ _ _ _ _ _ c.loop-k.invariant _ _ c.loop-k-test.true at c.half.ensures

pub returns : goal.returns
unfolding laid_of
returns c = end 12 _ _ _ _ _ _ c.loop-k.invariant c.loop-k-test.false ∙ ap (put _ _) (all_laid _ _ _)
