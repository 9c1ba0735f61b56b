-- Where the mark's rows refuse, so does the table.
use borrow.Author.Rules.{rules}
use Rattle.std.proofs.lemmas.Result.{err_from_is_err_and}
use Rattle.lists.proofs.Checked.{stops}
use Rattle.wire_rules.specs.Header.{mark_rows, field_rows}
use Rattle.reader.proofs.header.check.Goals as goal

pub returns-in_err-check_mark : goal.returns-in_err-check_mark
returns-in_err-check_mark c =
    let p = err_from_is_err_and c.from_residual.result c.from_residual.ensures.1 in
    let d = c.args.d.now in
    rw (p.1, p.2) (stops (mark_rows d) (field_rows d) _ (search rules))
