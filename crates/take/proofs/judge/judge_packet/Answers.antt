-- The packet's rows part by part.
use Rattle.std.proofs.lemmas.Result.{err_from_is_err_and}
use Rattle.lists.proofs.Checked.{stops, goes}
use Rattle.wire_rules.specs.Header.{header_of}
use Rattle.wire_rules.specs.Read.{audio_rows}
use Rattle.take_rules.specs.Follow.{take_rows, packet_rows}
use Rattle.take.proofs.Judging.{judged_err, judged_ok}
use Rattle.take.proofs.judge.judge_packet.Goals as goal

pub returns-in_err-check_audio : goal.returns-in_err-check_audio
returns-in_err-check_audio c =
    let p = err_from_is_err_and c.from_residual.result c.from_residual.ensures.1 in
    let a = c.args in
    let d = a.d.now in
    rw (p.1, p.2) (judged_err (packet_rows a.t d a.held) d _ (stops (audio_rows d) (take_rows a.t (header_of d) a.held) _ c.in_err-check_audio.ensures))

pub returns-in_err-check_place : goal.returns-in_err-check_place
returns-in_err-check_place c =
    let r = c.from_residual-in_err-check_place in
    let p = err_from_is_err_and r.result r.ensures.1 in
    let a = c.args in
    let d = a.d.now in
    let place = rw c.numbers-header.ensures at c.in_err-check_place.ensures in
    rw (p.1, p.2) (judged_err (packet_rows a.t d a.held) d _ (goes (audio_rows d) (take_rows a.t (header_of d) a.held) _ c.in_ok-check_audio.ensures place))

pub returns : goal.returns
returns c =
    let a = c.args in
    let d = a.d.now in
    let place = rw c.numbers-header.ensures at c.in_ok-check_place.ensures in
    judged_ok (packet_rows a.t d a.held) d _ c.numbers-header.ensures
    (goes (audio_rows d) (take_rows a.t (header_of d) a.held) _ c.in_ok-check_audio.ensures place)
