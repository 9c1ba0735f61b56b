-- What is counted are the name's characters.
use Rattle.std.proofs.Common.{◌∙◌, rules}
use Rattle.wire.proofs.Measuring.{name_counted}
use Rattle.wire.proofs.name.kept.Goals as goal

pub keep-requires : goal.keep-requires
keep-requires c = record { out_len = search rules; k_value = c.count.ensures ∙ name_counted c.args.n.now }
