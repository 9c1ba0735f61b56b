-- What the loop for eight channels lays in a turn. There is nothing to believe here.
use Rattle.std.specs.Prelude.{ℕ, ◌+◌, ◌*◌, List}
use Rattle.lists.specs.Little.{little}
use Rattle.formats.specs.Formats.{signed16, size_of}
use Rattle.sample_rules.specs.Bits.{slot_of}

-- the slot of sample c of those from byte from on
abbrev pub in_row : List ℕ → ℕ → ℕ → ℕ
in_row d from c = slot_of signed16 (little (size_of signed16) d (from + c * size_of signed16))
