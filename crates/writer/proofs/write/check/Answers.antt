-- Where the form is refused, so is the packet.
use Rattle.std.proofs.Common.{ℕ, ◌+◌, List, [], ◌∷◌, length, ltb, rules}
use Rattle.std.proofs.lemmas.Result.{err_from_is_err_and}
use Rattle.lists.specs.Tables.{Row, row, unlike}
use Rattle.answers.specs.declared.Made.{Made}
use Rattle.answers.specs.declared.Made.TheVariants.{Big, Data, Room}
use Rattle.wire_rules.specs.declared.Header.{Header}
use Rattle.wire_rules.specs.Names.{name_of}
use Rattle.wire_rules.specs.Header.{header_size, data_most, data_size}
use Rattle.writer.specs.Checks.{form_rows}
use Rattle.writer.proofs.Passing.{stops_passing}
use Rattle.writer.proofs.write.check.Goals as goal

-- the rows after the first
abbrev other_rows : Header → ℕ → ℕ → List (Row Made)
other_rows h given room = row Big (ltb data_most (data_size h)) ∷ row Data (unlike given (data_size h)) ∷ row Room (ltb room (header_size + given)) ∷ []

pub returns-in_err-named : goal.returns-in_err-named
returns-in_err-named c =
    let p = err_from_is_err_and c.from_residual.result c.from_residual.ensures.1 in
    let h = c.args.h in
    rw (p.1, p.2) (stops_passing (length (name_of h.name)) (form_rows h) (other_rows h c.args.given c.args.room) _ (search rules))
