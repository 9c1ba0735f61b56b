-- Each field from its bytes.
use Rattle.kept.proofs.Keeping.{loaded}
use Rattle.kept.proofs.load.Goals as goal

pub returns : goal.returns
returns c = search loaded
