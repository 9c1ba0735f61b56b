-- How the code checks what it writes: there is nothing to believe here.
use Rattle.std.specs.Prelude.{List, [], ◌∷◌, Bool, not, ltb, Result, Ok, Err}
use Rattle.lists.specs.Tables.{Row, row, choose, any, outside}
use Rattle.answers.specs.declared.Made.{Made}
use Rattle.answers.specs.declared.Made.TheVariants.{Form}
use Rattle.formats.specs.Formats.{may_send}
use Rattle.wire_rules.specs.declared.Header.{Header}
use Rattle.wire_rules.specs.Write.{bad_form}

-- a table as a result that has something to give where no row refuses
abbrev pub passing : {A B : Type 0} → B → List (Row A) → Result B A
passing b [] = Ok b
passing b (r ∷ rest) = choose r.refuses (Err r.says) (passing b rest)

-- bad form but for the name
abbrev pub bad_numbers : Header → Bool
bad_numbers h = any (ltb 20 h.rate ∷ not (may_send h.format) ∷ outside 256 h.frames ∷ outside 256 h.channels ∷ [])

-- row 20 alone
abbrev pub form_rows : Header → List (Row Made)
form_rows h = row Form (bad_form h) ∷ []
