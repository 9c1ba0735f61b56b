-- Where the name refuses, so does the table.
use Rattle.std.proofs.lemmas.Result.{err_from_is_err_and}
use Rattle.take.proofs.Judging.{name_refused}
use Rattle.take.proofs.judge.check_stream.Goals as goal

pub returns-in_err-check_name : goal.returns-in_err-check_name
returns-in_err-check_name c =
    let r = c.from_residual-in_err-check_name in
    let p = err_from_is_err_and r.result r.ensures.1 in
    let a = c.args in
    rw (p.1, p.2)
    (name_refused a.t a.address a.d.now _ _ _ c.requires c.bad_state.ensures c.if-bad_state.false c.in_ok-check_lead.ensures
    (rw c.name_field.ensures at c.in_err-check_name.ensures))
