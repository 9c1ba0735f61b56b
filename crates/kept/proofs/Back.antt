-- What was kept is the take again.
use mathlib.Core.Path.{◌≡◌, refl, ◌∙◌}
use mathlib.Core.Bool.{Bool, true, false, not}
use lib.Dec.{eqb}
use lib.Seq.{take_at}
use Rattle.lists.specs.Tables.{choose}
use Rattle.take_rules.specs.declared.Take.{Take}
use Rattle.kept.specs.Kept.{kept_widths, kept_values, tail_of, take_bytes, take_from, take_of, TypedTake}
use Rattle.kept.proofs.Fields.{values_back}

flag_back : (b : Bool) → not (eqb (choose b 1 0) 0) ≡ b
flag_back true = refl
flag_back false = refl

from_kept : (t : Take) → take_from t.who.name (kept_values t) ≡ t
from_kept t = rw (flag_back t.begun)

pub kept_back : (t : Take) → TypedTake t → take_of (take_bytes t) ≡ t
unfolding take_bytes take_of
kept_back t w =
    let name = take_at t.who.name (tail_of t) 16 w.named in
    let values = values_back kept_widths (kept_values t) w.fits t.who.name 16 w.named in
    (λ i. take_from (name i) (values i)) ∙ from_kept t
