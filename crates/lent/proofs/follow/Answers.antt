-- What following gives, the tally apart.
use Rattle.std.proofs.Common.{ap}
use Rattle.take_rules.specs.declared.Tallied.{Tallied}
use Rattle.take_rules.specs.Follow.{followed_of}
use Rattle.take_rules.specs.Tally.{tallied_of}
use Rattle.lent.proofs.follow.Goals as goal

pub returns-clause-answer : goal.returns-clause-answer
unfolding followed_of tallied_of
returns-clause-answer c = ap (λ (t : Tallied). t.followed) c.follow-r.ensures.answer
