-- The first of the library's bytes of the number.
use mathlib.Core.Path.{◌∙◌}
use native.Mathlib.Omega.{arith}
use Rattle.words.proofs.Words.{first_bytes}
use Rattle.words.proofs.put.Goals as goal

pub returns : goal.returns
returns g c = c.copy_from_slice.ensures.after ∙ rw c.to_le_bytes.ensures (first_bytes c.args.v _ g.row.N (omega arith) c.requires.0)
