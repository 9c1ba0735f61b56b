-- The tally behind the reference, over a history of lent calls (document 01, "Following a take").
use Rattle.std.specs.Prelude.{◌≡◌, List, [], ◌∷◌}
use Rattle.take_rules.specs.declared.Tally.{Tally}
use Rattle.take_rules.specs.Tally.{tallied_of}
use Rattle.take_rules.specs.History.{Call}

-- what one call finds behind the reference and what it leaves there, as the contract of `lent::follow` has it
abbrev pub Leaves : Tally → Call → Tally → Type 0
Leaves entry c exit = exit ≡ (tallied_of c.take entry c.address c.datagram c.track).tally

-- a history of calls in their order, each finding what the one before left
abbrev pub LeavesAfter : Tally → List Call → Tally → Type 0
LeavesAfter entry [] exit = exit ≡ entry
LeavesAfter entry (c ∷ calls) exit = (next : Tally) × (Leaves entry c next × LeavesAfter next calls exit)
