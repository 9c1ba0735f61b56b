-- The library's bytes of the number.
use mathlib.Core.Path.{◌∙◌}
use native.Mathlib.Omega.{arith}
use Rattle.words.proofs.Words.{bytes8}
use Rattle.words.proofs.put8.Goals as goal

pub returns : goal.returns
returns c = c.copy_from_slice.ensures.after ∙ c.to_le_bytes.ensures ∙ bytes8 c.args.w _ (omega arith)
