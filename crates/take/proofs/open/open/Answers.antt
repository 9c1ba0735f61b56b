-- By the name, and nothing else.
use Rattle.take.proofs.Following.{refused_opened, refused_kept, opened, cleared}
use Rattle.take.proofs.open.open.Goals as goal

pub returns-then-not-good-clause-answer : goal.returns-then-not-good-clause-answer
returns-then-not-good-clause-answer c = search refused_opened

pub returns-then-not-good-clause-track : goal.returns-then-not-good-clause-track
returns-then-not-good-clause-track c = search refused_kept

pub returns-clause-answer : goal.returns-clause-answer
returns-clause-answer c = search opened

pub returns-clause-track : goal.returns-clause-track
returns-clause-track c = search cleared
