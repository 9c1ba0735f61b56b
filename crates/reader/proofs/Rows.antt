-- What a table's result says of the answer, beside the laws of `lists`: answers are told apart by their numbers.
use mathlib.Core.Path.{◌≡◌}
use mathlib.Core.Bool.{Bool, false, not}
use mathlib.Core.List.{List}
use lib.Dec.{T, eqb}
use borrow.Author.Tests.{ne_eqb}
use Rattle.std.specs.Prelude.{Err}
use Rattle.lists.specs.Tables.{Row, checked}
use Rattle.lists.proofs.Tables.{none_says, numbered}
use Rattle.lists.proofs.Checked.{says_other}
use Rattle.answers.specs.declared.Answer.{Answer}
use Rattle.answers.specs.declared.Answer.TheVariants.{Accepted}
use Rattle.answers.specs.Numbers.{number_of}
use Rattle.answers.proofs.Numbers.{number_told}

-- a test with `!`
pub negated : (b r : Bool) → r ≡ b → not r ≡ not b
negated b r e = rw e

-- a refusal has another number than 0
pub refused_number : (rows : List (Row Answer)) (a : Answer) → T (numbered Accepted number_of rows) → Err a ≡ checked rows → eqb (number_of a) 0 ≡ false
refused_number rows a t e = ne_eqb (number_of a) 0 (λ q. says_other Accepted a rows (none_says Accepted number_of rows t) e (number_told a Accepted q))
