-- Each test after the first is a row of the table.
use Rattle.reader.proofs.Bits.{plain}
use Rattle.reader.proofs.header.check_bits.Goals as goal

pub returns-then-may_read : goal.returns-then-may_read
returns-then-may_read c = search plain
