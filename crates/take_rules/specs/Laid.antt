-- What acceptance does to the track (document 01: "Acceptance writes exactly the packet's records").
use Rattle.std.specs.Prelude.{ℕ, ◌+◌, ◌-◌, ◌*◌, ◌≤◌, ◌<◌, ◌≡◌, List, ℤ, pos, length}
use Rattle.lists.specs.Lists.{byte}
use Rattle.formats.specs.declared.Integer.{Integer}
use Rattle.formats.specs.declared.Integer.TheVariants.{Signed24}
use Rattle.formats.specs.Formats.{whole_size, width_of}
use Rattle.sample_rules.specs.Nearest.{Nearest, Exact, value_of}
use Rattle.sample_rules.specs.Bits.{sample_of}
use Rattle.wire_rules.specs.declared.Header.{Header}
use Rattle.wire_rules.specs.Header.{header_size}
use Rattle.lists.specs.Little.{little}
use Rattle.track_rules.specs.Records.{record_bytes, slot_number}

-- the number of sample c of frame k of a datagram's data
abbrev pub sample_number : Integer → List ℕ → Header → ℕ → ℕ → ℤ
sample_number f d h k c = sample_of f (little (whole_size f) d (header_size + k * (h.channels * whole_size f) + c * whole_size f))

-- the records place to place + frames - 1 hold the packet's frames, each slot by the sample rules or silence past the channels,
-- and every other byte is as it was
pub record LaidDown (f : Integer) (d : List ℕ) (h : Header) (place : ℕ) (track after : List ℕ) : Type 0 where
  pub same_length : length after ≡ length track
  pub nearest : (i c : ℕ) → place ≤ i → i < place + h.frames → c < h.channels
      → Nearest (value_of f (sample_number f d h (i - place) c)) Signed24 (slot_number after i c)
  pub exact : width_of f ≤ 24 → (i c : ℕ) → place ≤ i → i < place + h.frames → c < h.channels
      → Exact f (sample_number f d h (i - place) c) Signed24 (slot_number after i c)
  pub silent : (i c : ℕ) → place ≤ i → i < place + h.frames → h.channels ≤ c → c < 8 → slot_number after i c ≡ pos 0
  pub before : (j : ℕ) → j < place * record_bytes → byte after j ≡ byte track j
  pub behind : (j : ℕ) → (place + h.frames) * record_bytes ≤ j → byte after j ≡ byte track j
