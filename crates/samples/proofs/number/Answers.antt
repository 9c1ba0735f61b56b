-- The types and the number are taken, or the call is refused, in the table's order.
use Rattle.std.proofs.lemmas.Result.{err_from_is_err_and}
use Rattle.samples.proofs.Converting.{bad_from, bad_to, bad_number, is_converted}
use Rattle.samples.proofs.number.Goals as goal

pub returns-in_err-f-clause-refused : goal.returns-in_err-f-clause-refused
returns-in_err-f-clause-refused c =
    let p = err_from_is_err_and c.from_residual.result c.from_residual.ensures.1 in
    let e = c.in_err-f.ensures in
    rw (p.1, p.2, e.1) (bad_from _ _ _ e.0)

pub returns-in_err-t-clause-refused : goal.returns-in_err-t-clause-refused
returns-in_err-t-clause-refused c =
    let p = err_from_is_err_and c.from_residual-in_err-t.result c.from_residual-in_err-t.ensures.1 in
    let e = c.in_err-t.ensures in
    rw (p.1, p.2, e.1) (bad_to _ _ _ c.in_ok-f.ensures.0 e.0)

pub returns-then-not-has-clause-refused : goal.returns-then-not-has-clause-refused
returns-then-not-has-clause-refused c =
    let f = c.in_ok-f.ensures in
    let t = c.in_ok-t.ensures in
    bad_number _ _ _ f.0 t.0 _ _ f.1 t.1 c.ranges.n _ c.has.ensures c.if-not-has.true

pub returns-clause-given : goal.returns-clause-given
returns-clause-given c =
    let f = c.in_ok-f.ensures in
    let t = c.in_ok-t.ensures in
    is_converted _ _ _ f.0 t.0 _ _ f.1 t.1 c.ranges.n _ c.has.ensures c.if-not-has.false _ c.between.type_inv c.between.ensures
