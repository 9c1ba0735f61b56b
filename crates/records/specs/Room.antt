-- What laying asks of its callers.
use Rattle.std.specs.Prelude.{ℕ, ◌+◌, ◌*◌, ◌≤◌, List, length}
use Rattle.formats.specs.declared.Format.{Format}
use Rattle.formats.specs.Formats.{size_of}
use Rattle.track_rules.specs.Records.{record_bytes}

-- at most eight channels, the data of so many frames from byte from on, and as many records from the place on
abbrev pub HasRoom : Format → List ℕ → ℕ → ℕ → ℕ → List ℕ → ℕ → Type 0
HasRoom f d from frames channels track place =
    (channels ≤ 8) × (from + frames * (channels * size_of f) ≤ length d) × (place * record_bytes + frames * record_bytes ≤ length track)
