-- The third line of document 01's worked output, "2 14 0 0 0".
use mathlib.Core.Path.{◌≡◌, refl}
use mathlib.Core.List.{[], ◌∷◌}
use Rattle.lines.specs.Lines.{places, decimal_of, field_of, line_of}

pub third_line : line_of 2 14 0 0 0 ≡ 50 ∷ 32 ∷ 49 ∷ 52 ∷ 32 ∷ 48 ∷ 32 ∷ 48 ∷ 32 ∷ 48 ∷ 10 ∷ []
unfolding places decimal_of field_of line_of
third_line = refl

-- each field in its own place
pub five_fields : line_of 1 2 3 4 5 ≡ 49 ∷ 32 ∷ 50 ∷ 32 ∷ 51 ∷ 32 ∷ 52 ∷ 32 ∷ 53 ∷ 10 ∷ []
unfolding places decimal_of field_of line_of
five_fields = refl
