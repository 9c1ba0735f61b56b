-- The type has a place in its three bits.
use lib.Dec.{lit<}
use Rattle.wire_rules.proofs.Writing.{form_bits}
use Rattle.writer.proofs.write.header.Goals as goal

pub join_seven-b7-requires : goal.join_seven-b7-requires
join_seven-b7-requires c = (form_bits c.args.h c.requires.good_form, lit< tt, lit< tt)
