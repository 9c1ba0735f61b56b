-- No type that may be converted is another.
use mathlib.Core.Path.{refl}
use Rattle.samples.proofs.Converting.{no_other}
use Rattle.samples.proofs.convertible.Goals as goal

pub returns-in-Other : goal.returns-in-Other
returns-in-Other c = (search no_other, refl)
