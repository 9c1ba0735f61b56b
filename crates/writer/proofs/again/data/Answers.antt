-- Nothing is left past the end.
use Rattle.std.proofs.Common.{◌≡◌, refl, sym, ◌∙◌, ℕ, ◌+◌, ◌-◌, ◌<◌, ◌≤◌, le_of_eq, List, [], length, drop, Option, Some, None, Bor, arith}
use mathlib.Core.Logic.{◌⊎◌, inl, inr}
use lib.ListN.{drop_of_length-le, length-drop}
use lib.Seq.{take_all}
use Rattle.std.specs.Option.{MatchOption, unwrap_or}
use Rattle.std.specs.List.{slice_range}
use Rattle.writer.proofs.again.data.Goals as goal

-- what is found from byte 28 on, or nothing
from_header : (d : List ℕ) (none : Bor (List ℕ)) → none.now ≡ [] → (o : Option (Bor (List ℕ)))
    → MatchOption o ((length d < 28) ⊎ (length d < length d))
    (λ x. (28 ≤ length d) × (length d ≤ length d) × (x.now ≡ slice_range d 28 (length d)) × (length x.now + 28 ≡ length d))
    → (unwrap_or o none).now ≡ drop 28 d
from_header d none e None (inl s) = e ∙ sym (drop_of_length-le d {i = 28} (omega arith))
from_header d none e None (inr s) = absurd (omega arith)
from_header d none e (Some x) h = h.2 ∙ take_all (length d - 28) (drop 28 d) (le_of_eq (length-drop 28 d))

pub returns : goal.returns
returns c = rw c.unwrap_or.ensures (from_header c.args.d.now _ refl c.get.result c.get.ensures.lookup.0)
