-- The very bytes; else each test is a row.
use Rattle.take.proofs.Judging.{very_bytes}
use Rattle.take.proofs.judge.check_name.Goals as goal

pub returns-then-equal : goal.returns-then-equal
returns-then-equal c = search very_bytes
