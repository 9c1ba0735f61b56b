-- The text that std writes is the number's.
use Rattle.std.proofs.Common.{rules}
use Rattle.std.proofs.lemmas.Fmt.{length-decimal-le}
use Rattle.lines.proofs.Lines.{decimal_same}
use Rattle.lines.proofs.number.Goals as goal

pub unwrap-requires : goal.unwrap-requires
unwrap-requires g c = search (rules, length-decimal-le 20)

pub returns-clause-text : goal.returns-clause-text
returns-clause-text g c = search (rules, decimal_same)

pub returns-clause-within : goal.returns-clause-within
returns-clause-within g c = search (rules, length-decimal-le 20)
