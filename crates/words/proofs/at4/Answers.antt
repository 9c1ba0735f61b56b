-- The library's number of four bytes.
use mathlib.Core.Path.{◌∙◌}
use Rattle.words.proofs.Words.{bytes_at}
use Rattle.words.proofs.at4.Goals as goal

pub returns : goal.returns
returns c = c.from_le_bytes.ensures ∙ bytes_at c.args.d.now c.args.a _ _ _ _ c.at.ensures c.at-2.ensures c.at-3.ensures c.at-4.ensures
