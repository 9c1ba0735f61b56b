-- What the code's loops read and write in a turn. There is nothing to believe here.
use Rattle.std.specs.Prelude.{ℕ, ◌+◌, ◌*◌, ◌≤◌, List, length}
use Rattle.lists.specs.Lists.{up_to}
use Rattle.lists.specs.Little.{little, bytes_of}
use Rattle.formats.specs.declared.Format.{Format}
use Rattle.formats.specs.Formats.{size_of}
use Rattle.sample_rules.specs.Bits.{sent_of}
use Rattle.track_rules.specs.Records.{record_bytes, slot_bytes}

-- four slots, given by their bits, as half a record
unfoldable pub half_of : (ℕ → ℕ) → List ℕ
half_of slots = up_to 4 (λ c. bytes_of slot_bytes (slots c))

-- slot c of the record that starts at byte at, as a sample of the type
unfoldable pub sent_at : Format → List ℕ → ℕ → ℕ → ℕ
sent_at f t at c = sent_of f (little slot_bytes t (at + c * slot_bytes))

-- its bytes
abbrev pub sent_bytes : Format → List ℕ → ℕ → ℕ → List ℕ
sent_bytes f t at c = bytes_of (size_of f) (sent_at f t at c)

-- the record's channels, as a frame of the type
unfoldable pub frame_out : Format → List ℕ → ℕ → ℕ → List ℕ
frame_out f t at channels = up_to channels (sent_bytes f t at)

-- n such frames, each step bytes after the one before
unfoldable pub frames_out : Format → List ℕ → ℕ → ℕ → ℕ → ℕ → List ℕ
frames_out f t start step n channels = up_to n (λ k. frame_out f t (start + k * step) channels)

-- n of its channels from channel c on
unfoldable pub run_out : Format → List ℕ → ℕ → ℕ → ℕ → List ℕ
run_out f t at c n = up_to n (λ i. sent_bytes f t at (c + i))

-- what taking frames out asks for: at most eight channels, the records there, and room for the frames
abbrev pub CanTake : Format → List ℕ → ℕ → ℕ → ℕ → List ℕ → ℕ → Type 0
CanTake f t first frames channels out at =
    (channels ≤ 8) × ((first + frames) * record_bytes ≤ length t) × (at + frames * (channels * size_of f) ≤ length out)
