-- Three pieces, one after the other.
use borrow.Author.Rules.{rules}
use Rattle.kept.proofs.Keeping.{tail_stored}
use Rattle.kept.proofs.store_tail.Goals as goal

pub returns : goal.returns
returns c = search (tail_stored, rules)
