-- Laid at the place that follows from the newest, or at 0.
use Rattle.take.proofs.Following.{next_accepted, next_laid}
use Rattle.take.proofs.follow.accept.Goals as goal

pub returns : goal.returns
returns c = record { value = search next_accepted; track_after = search next_laid }
