-- What is given is the nearest.
use Rattle.std.proofs.Common.{rules}
use Rattle.samples.proofs.Converting.{meets}
use Rattle.samples.proofs.convert.Goals as goal

pub returns-in-Ok-clause-nearest : goal.returns-in-Ok-clause-nearest
returns-in-Ok-clause-nearest c = meets _ _ _ _ (search rules)

pub returns-in-Err-clause-nearest : goal.returns-in-Err-clause-nearest
returns-in-Err-clause-nearest c = meets _ _ _ _ (search rules)
