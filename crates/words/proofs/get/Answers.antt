-- The bytes over four zeros spell the number.
use Rattle.std.proofs.Common.{arith, rules}
use Rattle.lists.proofs.Little.{little_below}
use Rattle.words.proofs.Words.{got}
use Rattle.words.proofs.get.Goals as goal

pub returns : goal.returns
returns g c =
    let e = got c.args.d.now c.args.a g.row.N c.requires.0 c.requires.1 _ _ c.copy_from_slice.ensures.after (omega (arith, c.from_le_bytes.ensures)) in
    (e, rw e (little_below g.row.N c.args.d.now c.args.a (search rules)))
