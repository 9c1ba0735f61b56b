-- The three bytes spell the number.
use native.Mathlib.Omega.{arith}
use Rattle.std.proofs.Common.{rules}
use Rattle.lists.proofs.Little.{little_one, little_last}
use Rattle.samples.proofs.slots.Signed24Sample.get.Goals as goal

pub returns : goal.returns
returns c =
    let d = c.args.d.now in
    let a = c.args.a in
    (omega (arith, c.from.ensures, c.from-2.ensures, c.from-3.ensures, little_one d a, little_last 1 d a, little_last 2 d a), search rules)
