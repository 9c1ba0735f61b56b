-- A refusal, or the fields.
use mathlib.Core.Path.{sym, ◌∙◌}
use Rattle.lists.proofs.Checked.{first_ok, first_err}
use Rattle.answers.specs.declared.Answer.TheVariants.{Accepted}
use Rattle.wire_rules.specs.Header.{header_rows, header_alone}
use Rattle.wire_rules.proofs.Zeros.{zeros}
use Rattle.reader.proofs.Rows.{refused_number}
use Rattle.reader.proofs.header.alone.Goals as goal

pub returns-in-Ok : goal.returns-in-Ok
unfolding header_alone
returns-in-Ok c = rw (first_ok Accepted (header_rows c.args.d.now) (sym c.in-Ok.is ∙ c.check.ensures), c.fields.ensures)

pub returns-in-Err : goal.returns-in-Err
unfolding header_alone
returns-in-Err c =
    let rows = header_rows c.args.d.now in
    let e = sym c.in-Err.is ∙ c.check.ensures in
    rw (first_err Accepted rows _ e, refused_number rows _ tt e, zeros _ c.default.ensures)
