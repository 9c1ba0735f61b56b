-- The type is one that may be sent, so it is a whole number.
use mathlib.Core.Path.{sym, ◌∙◌}
use Rattle.formats.proofs.Types.{sent_read, read_known}
use Rattle.cutter.proofs.cut.take_samples.Goals as goal

pub unreachable-requires : goal.unreachable-requires
unreachable-requires c = read_known _ (sent_read _ c.requires.may_send) (sym c.from.ensures ∙ c.in_default.is)
