-- A sample a turn.
use Rattle.std.proofs.Common.{◌≡◌, arith}
use Rattle.formats.specs.Formats.{size_of}
use Rattle.lay_blocks.proofs.BlockLaws.{fill_start, fill_next, fill_end}
use Rattle.lay_blocks.proofs.fill.Goals as goal

pub loop-i-init : goal.loop-i-init
loop-i-init g c = fill_start _ _ _ _ _ (omega arith)

pub loop-i-preserved : goal.loop-i-preserved
loop-i-preserved g c = let z : g.S.Sample.SIZE ≡ size_of g.S.Sample.format = g.met.S.Sample.sized in search fill_next

pub returns : goal.returns
returns g c = search fill_end
