-- Five fields, one after the other, are the line.
use Rattle.lines.proofs.Lines.{line_is}
use Rattle.lines.proofs.line.Goals as goal

pub returns-clause-text : goal.returns-clause-text
returns-clause-text g c =
    line_is _ _ _ _ _ _ _ _ _ _ _ _ _ _ c.from.ensures c.from-2.ensures c.from-3.ensures
    c.field.ensures.text c.field-2.ensures.text c.field-3.ensures.text c.field-4.ensures.text c.field-5.ensures.text
