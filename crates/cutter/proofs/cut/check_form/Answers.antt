-- A frame of a form that a packet can have has a byte at least, and its frames are few.
use Rattle.std.proofs.Common.{◌≡◌, length, le_of_eq, rules}
use Rattle.wire_rules.proofs.Writing.{form_by}
use Rattle.writer.specs.Checks.{form_rows}
use Rattle.writer.proofs.Passing.{passes_rows}
use Rattle.cutter_rules.proofs.Sizes.{frame_some}
use Rattle.cutter.proofs.cut.check_form.Goals as goal

pub is_over-requires : goal.is_over-requires
is_over-requires c =
    let sixteen : length c.args.h.name ≡ 16 = search rules in
    let g = form_by c.args.h (le_of_eq sixteen) (passes_rows _ (form_rows c.args.h) _ c.in_ok-named.ensures).0 in
    (g.frames_few.1, frame_some c.args.h g)
