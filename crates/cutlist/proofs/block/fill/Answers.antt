-- A record a turn, in the place that it is lent.
use mathlib.Core.Path.{sym, ◌∙◌}
use borrow.Author.Rules.{rules}
use denote.Enum.Bare.{differs_true, differs_false}
use Rattle.answers.specs.contracts.Made.{the_type}
use Rattle.cutlist.proofs.Filling.{start, full, stop, next}
use Rattle.cutlist.proofs.block.fill.Goals as goal

pub loop-n-init : goal.loop-n-init
loop-n-init c = start _ _ _ _ _ c.told-block

pub returns-then-ne : goal.returns-then-ne
returns-then-ne c =
    let e = c.cut-made.ensures in
    stop _ _ _ _ _ c.told-block _ _ c.loop-n.invariant (search rules) _ _ e.answer e.output (differs_true the_type _ _ (sym c.ne.ensures ∙ c.if-ne.true))

pub loop-n-preserved : goal.loop-n-preserved
loop-n-preserved c =
    let e = c.cut-made.ensures in
    next _ _ _ _ _ c.told-block _ _ c.loop-n.invariant (search rules) _ _ e.answer e.output
    (differs_false the_type (search rules) _ _ (sym c.ne.ensures ∙ c.if-ne.false)) (search rules)

pub returns : goal.returns
returns c = full _ _ _ _ _ c.told-block _ _ c.loop-n.invariant (search rules)
