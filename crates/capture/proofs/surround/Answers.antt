-- Three pieces around what stands at byte 8.
use borrow.Author.Rules.{rules}
use Rattle.capture.proofs.Cutting.{surrounded}
use Rattle.capture.proofs.surround.Goals as goal

pub returns : goal.returns
returns c = search (surrounded, rules) depth 6 fits 6000
