use borrow.Author.Rules.{rules}
use mathlib.Core.Path.{ap, ◌∙◌}
use mir.Facts.{to_z-of_z}
use Rattle.sample_rules.specs.Convert.{convert_of}
use Rattle.recorder.proofs.convert.Statement.{statement}
use Rattle.recorder.proofs.convert.Tie as tie

convert-requires : tie.Need-convert-requires
convert-requires c κs = search rules

returns : tie.Need-returns
returns c = let a = c.before.args in c.convert.ensures.0 ∙ ap (convert_of a.from a.to) (to_z-of_z c.before.ranges.n)

pub convert_spec : {M : Type 1} → statement M
convert_spec = tie.close (tie.spec convert-requires returns)
