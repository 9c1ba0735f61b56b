-- Eight slots, as a record.
use Rattle.std.proofs.Common.{◌≡◌, arith}
use Rattle.track_rules.specs.Records.{frame_slot}
use Rattle.records.proofs.Laid.{placed, framed}
use Rattle.records.proofs.laying.frame.Goals as goal

pub returns : goal.returns
returns g c =
    let e : c.slot.result ≡ frame_slot g.S.Sample.format c.args.d.now c.args.from c.args.channels 0 =
    placed _ _ _ _ _ _ _ c.slot.ensures.0 (omega arith) in
    search framed
