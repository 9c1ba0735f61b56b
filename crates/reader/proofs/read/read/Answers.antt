-- A refusal, or the fields and the number of data bytes.
use mathlib.Core.Path.{sym, ◌∙◌}
use Rattle.lists.proofs.Checked.{first_ok, first_err}
use Rattle.answers.specs.declared.Answer.TheVariants.{Accepted}
use Rattle.wire_rules.specs.Read.{read_rows, read_of}
use Rattle.wire_rules.proofs.Zeros.{zeros}
use Rattle.reader.proofs.Rows.{refused_number}
use Rattle.reader.proofs.read.read.Goals as goal

pub returns-in-Ok : goal.returns-in-Ok
unfolding read_of
returns-in-Ok c = rw (first_ok Accepted (read_rows c.args.d.now) (sym c.in-Ok.is ∙ c.check.ensures), c.data_size.ensures, c.fields-header.ensures)

pub returns-in-Err : goal.returns-in-Err
unfolding read_of
returns-in-Err c =
    let rows = read_rows c.args.d.now in
    let e = sym c.in-Err.is ∙ c.check.ensures in
    rw (first_err Accepted rows _ e, refused_number rows _ tt e, zeros _ c.default.ensures)
