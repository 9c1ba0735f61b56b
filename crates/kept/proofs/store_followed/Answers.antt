-- Where the bytes are as we write them, the newest counter and place alone are stored.
use borrow.Author.Rules.{rules}
use Rattle.kept.proofs.Keeping.{plain_stored}
use Rattle.kept.proofs.store_followed.Goals as goal

pub returns-then-kept-eq0 : goal.returns-then-kept-eq0
returns-then-kept-eq0 c =
    let q = c.requires in
    plain_stored c.args.kept.now (search rules) c.fits-kept (c.if-kept-eq1.true, c.if-kept-eq0.true) c.args.h c.args.place q.0 q.2 _ c.store_newest.ensures
