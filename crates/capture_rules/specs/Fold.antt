-- A capture as the fold of following one record (document 01, "Track and capture").
use Rattle.std.specs.Prelude.{ℕ, zero, suc, ◌*◌, ◌/◌, List, [], ◌∷◌, ◌++◌, length, take, drop}
use Rattle.take_rules.specs.declared.Told.{Told}
use Rattle.take_rules.specs.Box.{Event, Box, tells_of, after}
use Rattle.capture_rules.specs.Records.{record_size, address_of, datagram_of}

-- what a record tells the box
abbrev pub event_of : List ℕ → Event
event_of r = record { datagram = datagram_of r; address = address_of r }

-- record i of a capture
abbrev pub record_at : List ℕ → ℕ → List ℕ
record_at capture i = take record_size (drop (i * record_size) capture)

-- its first n records, the latest first
unfoldable pub heard_in : List ℕ → ℕ → List Event
heard_in capture zero = []
heard_in capture (suc n) = event_of (record_at capture n) ∷ heard_in capture n

-- what following tells of them, in their order: each by the box that those before it left
unfoldable pub answers_in : Box → List ℕ → ℕ → List Told
answers_in b capture zero = []
answers_in b capture (suc n) = answers_in b capture n ++ (tells_of (after b (heard_in capture n)) (event_of (record_at capture n)) ∷ [])

-- a cut last record is not followed
abbrev pub whole_records : List ℕ → ℕ
whole_records capture = length capture / record_size

-- the box after a whole capture
abbrev pub captured : Box → List ℕ → Box
captured b capture = after b (heard_in capture (whole_records capture))
