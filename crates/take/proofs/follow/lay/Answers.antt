-- A type that may be read is a whole number.
use Rattle.std.proofs.Common.{sym, ◌∙◌}
use Rattle.formats.proofs.Types.{read_known}
use Rattle.take.proofs.follow.lay.Goals as goal

pub unreachable-requires : goal.unreachable-requires
unreachable-requires c = read_known _ c.requires.may_read (sym c.from.ensures ∙ c.in_default.is)
