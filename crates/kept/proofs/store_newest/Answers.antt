-- Two pieces, one after the other.
use borrow.Author.Rules.{rules}
use Rattle.kept.proofs.Keeping.{newest_stored}
use Rattle.kept.proofs.store_newest.Goals as goal

pub returns : goal.returns
returns c = search (newest_stored, rules)
