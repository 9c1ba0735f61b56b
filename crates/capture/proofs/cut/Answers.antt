-- A refusal, or the packet and what stands around it.
use mathlib.Core.Path.{◌≡◌, sym, ◌∙◌}
use borrow.Author.Rules.{rules}
use denote.Enum.Bare.{same_true, same_false}
use Rattle.answers.specs.contracts.Made.{the_type}
use Rattle.answers.specs.declared.Made.TheVariants.{Done}
use Rattle.capture.proofs.Cutting.{result_is, refused, recorded, fits}
use Rattle.capture.proofs.cut.Goals as goal

pub surround-requires : goal.surround-requires
surround-requires c = fits _ _ _ c.args.address c.args.out.now (search rules) _ _ c.cut-made.ensures.answer c.cut-made.ensures.output (search rules) (search rules)

pub returns-then-eq : goal.returns-then-eq
returns-then-eq c =
    let done : c.cut-made.result.answer ≡ Done = same_true the_type (search rules) _ _ (sym c.eq.ensures ∙ c.if-eq.true) in
    let e = c.cut-made.ensures in
    record {
      answer = result_is _ _ _ c.args.address c.args.out.now (search rules) _ _ e.answer e.output;
      output = recorded _ _ _ _ c.args.out.now (search rules) _ _ e.answer e.output _ done (search rules) c.surround.ensures;
    }

pub returns-else-eq : goal.returns-else-eq
returns-else-eq c =
    let other : c.cut-made.result.answer ≡ Done → ⊥ = same_false the_type _ _ (sym c.eq.ensures ∙ c.if-eq.false) in
    let e = c.cut-made.ensures in
    record {
      answer = result_is _ _ _ c.args.address c.args.out.now (search rules) _ _ e.answer e.output;
      output = refused _ _ _ _ c.args.out.now (search rules) _ _ e.answer e.output other;
    }
