-- What following gives, and the tally.
use Rattle.take.proofs.Following.{tallied}
use Rattle.take.proofs.follow.follow.Goals as goal

pub returns-clause-answer : goal.returns-clause-answer
returns-clause-answer c = search tallied
