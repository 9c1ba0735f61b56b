-- The code's steps are those of `Narrowing`.
use Rattle.samples.proofs.Narrowing.{fits_all, is_narrowed}
use Rattle.samples.proofs.numbers.narrow.Goals as goal

pub overflow_add-risen-2 : goal.overflow_add-risen-2
overflow_add-risen-2 c =
    let h = c.requires in
    fits_all _ _ h.0 h.1 _ c.ranges.n h.2 h.3 _ c.power.ensures _ c.last.ensures _ c.half_step-half.ensures _ c.odd.ensures

pub returns : goal.returns
returns c =
    let h = c.requires in
    is_narrowed _ _ h.0 h.1 _ c.ranges.n h.2 h.3 _ c.power.ensures _ c.last.ensures _ c.half_step-half.ensures _ c.odd.ensures
