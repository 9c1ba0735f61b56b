-- A block a turn.
use Rattle.std.proofs.Common.{◌≡◌, ◌∙◌}
use Rattle.formats.specs.Formats.{size_of}
use Rattle.records.proofs.Laid.{lay_start, lay_end}
use Rattle.lay_blocks.proofs.BlockLaws.{zeros, all_slots, blocks_next, no_more, few, data_room, track_room}
use Rattle.lay_blocks.proofs.blocks.Goals as goal

pub loop-k-init : goal.loop-k-init
loop-k-init g c = (zeros, search lay_start)

pub fill-requires : goal.fill-requires
fill-requires g c =
    let z : c.SIZE.result ≡ size_of g.S.Sample.format = c.SIZE.ensures ∙ g.met.S.Sample.sized in
    (rw z (search data_room), search few)

pub lay_all-requires : goal.lay_all-requires
lay_all-requires g c = (search few, all_slots _ _ _ _ _ _ c.fill.ensures c.loop-k.invariant.0, rw c.loop-k.invariant.1.same (search track_room))

pub loop-k-preserved : goal.loop-k-preserved
loop-k-preserved g c =
    let z : c.SIZE.result ≡ size_of g.S.Sample.format = c.SIZE.ensures ∙ g.met.S.Sample.sized in (
      all_slots _ _ _ _ _ _ c.fill.ensures c.loop-k.invariant.0,
      blocks_next _ _ _ _ _ _ _ z _ _ c.fill.ensures _ _ _ _ _ c.loop-k.invariant.1 (search no_more) c.lay_all.ensures,
    )

pub returns : goal.returns
returns g c = search lay_end
