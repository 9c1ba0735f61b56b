-- A record a turn.
use Rattle.takelist.proofs.Blocks.{starts, next}
use Rattle.takelist.proofs.block.Follower.block.Goals as goal

pub loop-i-init : goal.loop-i-init
loop-i-init g c = starts _ _ _ _ _

pub loop-i-preserved : goal.loop-i-preserved
loop-i-preserved g c =
    let e = c.record.ensures in
    next _ _ _ _ _ _ _ _ c.loop-i.invariant _ _ c.as_chunks.ensures.front c.as_chunks.ensures.front_len c.loop-i-test.true _ _ _ e.state e.text e.within
