-- A sample, or 0 past the channels.
use Rattle.std.proofs.Common.{◌≡◌, rules}
use Rattle.formats.specs.Formats.{size_of}
use Rattle.records.proofs.Laid.{sampled, silent}
use Rattle.records.proofs.laying.slot.Goals as goal

pub returns-then-c-channels : goal.returns-then-c-channels
returns-then-c-channels g c = let z : g.S.Sample.SIZE ≡ size_of g.S.Sample.format = g.met.S.Sample.sized in (search sampled, search rules)

pub returns : goal.returns
returns g c = (search silent, search rules)
