-- The numbers after the address.
use borrow.Author.Rules.{rules}
use Rattle.kept.proofs.Keeping.{middle_is}
use Rattle.kept.proofs.middle.Goals as goal

pub returns : goal.returns
returns c = search (middle_is, rules)
