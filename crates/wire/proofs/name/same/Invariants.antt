-- The rest of both names decides.
use mathlib.Core.Path.{◌≡◌}
use lib.ListN.{drop}
use Rattle.wire_rules.specs.Names.{same_name}
use Rattle.wire.proofs.name.same.Given as goal

abbrev pub invariant-loop-i : goal.invariant-loop-i
invariant-loop-i l = same_name l.m l.n ≡ same_name (drop l.i l.m) (drop l.i l.n)
