-- One half after the other.
use Rattle.std.proofs.lemmas.Result.{err_from_is_err_and}
use Rattle.lists.proofs.Checked.{stops}
use Rattle.take_rules.specs.Follow.{stream_rows, packet_rows, follow_rows}
use Rattle.take.proofs.Judging.{judged_err, judged_rest}
use Rattle.take.proofs.judge.judge.Goals as goal

pub returns-in_err-check_stream : goal.returns-in_err-check_stream
returns-in_err-check_stream c =
    let p = err_from_is_err_and c.from_residual.result c.from_residual.ensures.1 in
    let a = c.args in
    let d = a.d.now in
    rw (p.1, p.2)
    (judged_err (follow_rows a.t a.address d a.held) d _ (stops (stream_rows a.t a.address d) (packet_rows a.t d a.held) _ c.in_err-check_stream.ensures))

pub returns : goal.returns
returns c =
    let a = c.args in
    let d = a.d.now in
    judged_rest (stream_rows a.t a.address d) d (packet_rows a.t d a.held) _ c.in_ok-check_stream.ensures c.judge_packet.ensures
