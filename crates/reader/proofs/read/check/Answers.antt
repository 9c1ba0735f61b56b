-- Where the front's rows refuse, so does the table.
use borrow.Author.Rules.{rules}
use Rattle.std.proofs.lemmas.Result.{err_from_is_err_and}
use Rattle.lists.proofs.Checked.{stops}
use Rattle.wire_rules.specs.Read.{front_rows, audio_rows}
use Rattle.reader.proofs.read.check.Goals as goal

pub returns-in_err-check_front : goal.returns-in_err-check_front
returns-in_err-check_front c =
    let p = err_from_is_err_and c.from_residual.result c.from_residual.ensures.1 in
    let d = c.args.d.now in
    rw (p.1, p.2) (stops (front_rows d) (audio_rows d) _ (search rules))
