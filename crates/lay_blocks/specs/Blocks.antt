-- What the code's loops keep in a block of slots. There is nothing to believe here.
use Rattle.std.specs.Prelude.{ℕ, ◌+◌, ◌*◌, ◌<◌, List, [], ◌∷◌, get_or, ltb}
use Rattle.lists.specs.Lists.{up_to}
use Rattle.lists.specs.Little.{little}
use Rattle.lists.specs.Tables.{choose}
use Rattle.formats.specs.declared.Format.{Format}
use Rattle.formats.specs.Formats.{size_of}
use Rattle.sample_rules.specs.Bits.{slot_of}

-- the slot of sample i of those from byte from on, as a piece of the block
abbrev pub sample_slot : Format → List ℕ → ℕ → ℕ → List ℕ
sample_slot f d from i = slot_of f (little (size_of f) d (from + i * size_of f)) ∷ []

unfoldable pub slots_from : Format → List ℕ → ℕ → ℕ → List ℕ
slots_from f d from n = up_to n (sample_slot f d from)

-- each number is a slot's
pub record Slots (block : List ℕ) : Type 0 where
  pub below : (j : ℕ) → get_or block j 0 < 16777216

-- slot c of the frame that starts at at
abbrev pub block_slot : List ℕ → ℕ → ℕ → ℕ → ℕ
block_slot block at channels c = choose (ltb c channels) (get_or block (at + c) 0) 0

-- its frames, of so many channels each
abbrev pub block_frames : List ℕ → ℕ → ℕ → ℕ → ℕ
block_frames block channels k = block_slot block (k * channels) channels
