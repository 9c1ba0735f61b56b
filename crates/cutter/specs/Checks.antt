-- How the code checks what it cuts: there is nothing to believe here.
use Rattle.std.specs.Prelude.{List, [], ◌∷◌}
use Rattle.lists.specs.Tables.{Row, row}
use Rattle.answers.specs.declared.Made.{Made}
use Rattle.answers.specs.declared.Made.TheVariants.{Form}
use Rattle.wire_rules.specs.declared.Header.{Header}
use Rattle.cutter_rules.specs.Cut.{bad_cut}

-- row 20 alone
abbrev pub form_rows : Header → List (Row Made)
form_rows h = row Form (bad_cut h) ∷ []
