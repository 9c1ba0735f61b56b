-- A track: records of 24 bytes, one a frame, eight slots of three bytes (document 01, "Track and capture").
use Rattle.std.specs.Prelude.{ℕ, ◌+◌, ◌*◌, ◌/◌, List, ℤ, length, replicate, ltb}
use Rattle.lists.specs.Lists.{put, up_to}
use Rattle.lists.specs.Little.{little, bytes_of}
use Rattle.lists.specs.Tables.{choose}
use Rattle.formats.specs.declared.Format.{Format}
use Rattle.formats.specs.Formats.{signed24, size_of}
use Rattle.sample_rules.specs.Bits.{signed_of, slot_of, sent_of}

abbrev pub record_bytes : ℕ
record_bytes = 24

abbrev pub slot_bytes : ℕ
slot_bytes = size_of signed24

-- a lent track holds its length divided by 24, rounded down
abbrev pub records_held : List ℕ → ℕ
records_held t = length t / record_bytes

-- all whole records cleared; bytes past the last whole record stay
unfoldable pub cleared_of : List ℕ → List ℕ
cleared_of t = put t 0 (replicate (records_held t * record_bytes) 0)

-- slot c of record i, as its bits
abbrev pub slot_at : List ℕ → ℕ → ℕ → ℕ
slot_at t i c = little slot_bytes t (i * record_bytes + c * slot_bytes)

-- and as its number: negative where its top bit is set
abbrev pub slot_number : List ℕ → ℕ → ℕ → ℤ
slot_number t i c = signed_of 24 (slot_at t i c)

-- eight slots, given by their bits, as a record
unfoldable pub record_of : (ℕ → ℕ) → List ℕ
record_of slots = up_to 8 (λ c. bytes_of slot_bytes (slots c))

-- n frames, brought to slots, as records
unfoldable pub records_of : ℕ → (ℕ → ℕ → ℕ) → List ℕ
records_of n frames = up_to n (λ k. record_of (frames k))

-- n frames laid at a place
unfoldable pub laid_of : List ℕ → ℕ → ℕ → (ℕ → ℕ → ℕ) → List ℕ
laid_of t place n frames = put t (place * record_bytes) (records_of n frames)

-- slot c of the frame whose samples start at byte at of d: channel after channel, slots past the channels zero
unfoldable pub frame_slot : Format → List ℕ → ℕ → ℕ → ℕ → ℕ
frame_slot f d at channels c = choose (ltb c channels) (slot_of f (little (size_of f) d (at + c * size_of f))) 0

-- a packet's frames brought to slots, frame after frame; the packet's data start at byte from of d
unfoldable pub packet_slot : Format → List ℕ → ℕ → ℕ → ℕ → ℕ → ℕ
packet_slot f d from channels k c = frame_slot f d (from + k * (channels * size_of f)) channels c

-- n frames of a track from record first on, in the channels sent, as packet data of the type
unfoldable pub taken_of : Format → List ℕ → ℕ → ℕ → ℕ → List ℕ
taken_of f t first n channels = up_to n (λ k. up_to channels (λ c. bytes_of (size_of f) (sent_of f (slot_at t (first + k) c))))
