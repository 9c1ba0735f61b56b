-- Each answer's count is found by its number.
use mathlib.Core.Path.{◌≡◌}
use mathlib.Core.List.{List}
use Prim.Native.Nat.{ℕ}
use lib.ListN.{get_or}
use borrow.Author.Tests.{lt-ltb}
use Rattle.answers.specs.declared.Answer.{Answer}
use Rattle.answers.specs.Numbers.{number_of, count_of}
use Rattle.answers.proofs.Numbers.{count_below}
use Rattle.firmware.specs.Face.{count_for}

pub counted_for : (counts : List ℕ) (a : Answer) → count_for counts (number_of a) ≡ get_or counts (count_of (number_of a)) 0
counted_for counts a = rw (lt-ltb _ _ (count_below a))
