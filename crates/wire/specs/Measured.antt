-- How the code counts a name's characters: there is nothing to believe here.
use Rattle.std.specs.Prelude.{ℕ, List, Bool, ◌&&◌, not, eqb, Option, Some, None, length, leb}
use Rattle.std.specs.List.{prefix_len}
use Rattle.lists.specs.Tables.{choose}
use Rattle.wire_rules.specs.Names.{name_of, good_name}

-- how many characters a good name has
unfoldable pub measured : List ℕ → Option ℕ
measured n = choose (good_name n) (Some (length (name_of n))) None

-- the bytes before the first zero, or all
abbrev pub before_zero : List ℕ → ℕ
before_zero n = prefix_len (λ x. not (eqb x 0)) n

-- a byte that a name may have
abbrev pub character : ℕ → Bool
character x = leb 0x20 x && leb x 0x7E

-- the characters that stand at the front, a name's or not: the bytes before the first that no name has
abbrev pub characters_of : List ℕ → ℕ
characters_of n = prefix_len character n
