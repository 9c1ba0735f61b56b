-- The byte stands where the number ended.
use Rattle.std.proofs.Common.{◌∙◌, append_assoc}
use Rattle.lines.specs.Lines.{field_of}
use Rattle.lines.proofs.field.Goals as goal

pub returns-clause-text : goal.returns-clause-text
unfolding field_of
returns-clause-text g c = c.push.ensures.items ∙ rw (c.number.ensures.text, append_assoc)
