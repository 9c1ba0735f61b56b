-- The name, and what follows it.
use borrow.Author.Rules.{rules}
use Rattle.kept.proofs.Keeping.{take_stored}
use Rattle.kept.proofs.store.Goals as goal

pub returns : goal.returns
returns c = search (take_stored, rules)
