-- Bad numbers, or the name.
use Rattle.std.proofs.Common.{◌≡◌, refl, ◌∙◌, ℕ, List, [], ◌∷◌, ◌++◌, Bool, true, false, not, ltb, length, Some, None, Ok, Err}
use Rattle.std.specs.Option.{ok_or}
use Rattle.lists.specs.Tables.{any, choose, outside}
use Rattle.lists.proofs.Tables.{by_test}
use Rattle.answers.specs.declared.Made.TheVariants.{Form}
use Rattle.formats.specs.Formats.{may_send}
use Rattle.wire_rules.specs.declared.Header.{Header}
use Rattle.wire_rules.specs.Names.{name_of, good_name}
use Rattle.wire_rules.specs.Write.{bad_form}
use Rattle.wire.specs.Measured.{measured}
use Rattle.writer.specs.Checks.{passing, bad_numbers, form_rows}
use Rattle.writer.proofs.write.check_form.Goals as goal

-- one test more
any_more : (bs : List Bool) (b : Bool) → any (bs ++ b ∷ []) ≡ choose (any bs) true b
any_more [] true = refl
any_more [] false = refl
any_more (true ∷ bs) b = refl
any_more (false ∷ bs) b = any_more bs b

module _ (h : Header) (bad : Bool) (e : bad ≡ bad_numbers h) where
  parts : bad_form h ≡ choose bad true (not (good_name h.name))
  parts = any_more (ltb 20 h.rate ∷ not (may_send h.format) ∷ outside 256 h.frames ∷ outside 256 h.channels ∷ []) (not (good_name h.name)) ∙ rw e

  refused : bad ≡ true → Err Form ≡ passing (length (name_of h.name)) (form_rows h)
  refused t = rw (parts, t)

  by_name : bad ≡ false → (name : List ℕ) → name ≡ h.name → ok_or (measured name) Form ≡ passing (length (name_of h.name)) (form_rows h)
  unfolding measured
  by_name t name n =
      rw (parts, t, n)
      (by_test
      (λ b. ok_or (choose b (Some (length (name_of h.name))) None) Form ≡ choose (not b) (Err Form) (Ok (length (name_of h.name)))) (good_name h.name)
      (λ u. refl) (λ u. refl))

pub returns-then-has_bad_numbers : goal.returns-then-has_bad_numbers
returns-then-has_bad_numbers c = refused c.args.h _ c.has_bad_numbers.ensures c.if-has_bad_numbers.true

pub returns : goal.returns
returns c = c.ok_or.ensures.value ∙ rw c.measure.ensures (by_name c.args.h _ c.has_bad_numbers.ensures c.if-has_bad_numbers.false _ c.requires)
