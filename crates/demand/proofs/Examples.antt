-- The awkward histories of demand 3, computed: by the definitions of the contracts, not by the theorem.
use mathlib.Core.Path.{◌≡◌, refl}
use mathlib.Core.List.{List, [], ◌∷◌, ◌++◌}
use Prim.Native.Nat.{ℕ}
use lib.ListN.{replicate}
use Rattle.answers.specs.Numbers.{number_of, number_made}
use Rattle.wire_rules.specs.declared.Header.{Header}
use Rattle.wire_rules.specs.Read.{read_of}
use Rattle.demand.specs.Bench.{hall4}
use Rattle.lists.specs.Lists.{put, up_to}
use Rattle.lists.specs.Little.{little, bytes_of}
use Rattle.lists.specs.Lists.{index_of, index_after}
use Rattle.formats.specs.Formats.{format_of, may_read, may_send}
use Rattle.sample_rules.specs.Convert.{narrowed, rescaled, converted}
use Rattle.sample_rules.specs.Bits.{signed_of, bits_of, slot_of, sent_of}
use Rattle.wire_rules.specs.Names.{name_end, name_of, printable, good_name, kept_name, same_bytes, same_name}
use Rattle.wire_rules.specs.Write.{lead_of, write_of}
use Rattle.track_rules.specs.Records.{cleared_of, record_of, records_of, laid_of, frame_slot, packet_slot, taken_of}
use Rattle.take_rules.specs.Take.{open_of, opened_track}
use Rattle.take_rules.specs.Follow.{answer_of, followed_of, followed_track}
use Rattle.cutter_rules.specs.Cut.{packet_by}
use Rattle.demand.specs.Example.{samples_after}

pub histories :
    -- the counter wraps
    (samples_after 6 (2 ∷ 1 ∷ 0 ∷ []) ≡ 1 ∷ 2 ∷ 3 ∷ 4 ∷ 5 ∷ 0 ∷ [])
    -- the short last packet is heard first: the rest is late
    × (samples_after 6 (0 ∷ 1 ∷ 2 ∷ []) ≡ 5 ∷ 0 ∷ 0 ∷ 0 ∷ 0 ∷ 0 ∷ [])
    -- the track is shorter than a packet: the last one fits
    × (samples_after 1 (2 ∷ 1 ∷ 0 ∷ []) ≡ 5 ∷ [])
    -- a repeat
    × (samples_after 6 (1 ∷ 0 ∷ 0 ∷ []) ≡ 1 ∷ 2 ∷ 3 ∷ 4 ∷ 0 ∷ 0 ∷ [])
    -- a late one
    × (samples_after 6 (2 ∷ 0 ∷ 1 ∷ []) ≡ 3 ∷ 4 ∷ 5 ∷ 0 ∷ 0 ∷ 0 ∷ [])
    -- a gap beyond the end, and then one that fits
    × (samples_after 4 (1 ∷ 2 ∷ 0 ∷ []) ≡ 1 ∷ 2 ∷ 3 ∷ 4 ∷ [])
    -- a lost one leaves its hole
    × (samples_after 6 (2 ∷ 0 ∷ []) ≡ 1 ∷ 2 ∷ 0 ∷ 0 ∷ 5 ∷ 0 ∷ [])
unfolding put up_to little bytes_of index_of index_after format_of may_read may_send narrowed rescaled converted signed_of bits_of slot_of sent_of name_end name_of printable good_name kept_name
    same_bytes same_name lead_of cleared_of record_of records_of laid_of frame_slot packet_slot taken_of open_of opened_track answer_of followed_of followed_track
    packet_by
histories = (refl, refl, refl, refl, refl, refl, refl)

-- ---- each number of reading and writing once, and the borders of its rule

-- one frame of two channels
abbrev made : ℕ → ℕ → List ℕ → ℕ → List ℕ
made b4 b7 name n = 0x56 ∷ 0x42 ∷ 0x41 ∷ 0x4E ∷ b4 ∷ 0x00 ∷ 0x01 ∷ b7 ∷ (name ++ (0x07 ∷ 0x00 ∷ 0x00 ∷ 0x00 ∷ replicate n 0))

abbrev Reads : List ℕ → ℕ → Type 0
Reads d n = number_of (read_of d).answer ≡ n

abbrev form : ℕ → ℕ → ℕ → Header
form rate frames channels = record { rate = rate; frames = frames; channels = channels; format = 1; name = hall4; counter = 7 }

abbrev Writes : Header → ℕ → ℕ → ℕ → Type 0
Writes h given room n = number_made (write_of h (replicate given 0) (replicate room 0)).answer ≡ n

pub borders :
    Reads (replicate 1464 0) 3
    × Reads (replicate 1465 0) 2
    × Reads (made 0x03 0x01 (0x1F ∷ replicate 15 0) 4) 4
    × Reads (made 0x03 0x01 (0x20 ∷ replicate 15 0) 4) 0
    × Reads (made 0x03 0x01 (0x7E ∷ replicate 15 0) 4) 0
    × Reads (made 0x03 0x01 (0x7F ∷ replicate 15 0) 4) 4
    × Reads (made 0x23 0x01 hall4 4) 6
    × Reads (made 0x03 0x11 hall4 4) 7
    × Reads (made 0x03 0x81 hall4 4) 7
    × Reads (made 0x03 0x09 hall4 4) 8
    × Reads (made 0x14 0x01 hall4 4) 0
    × Reads (made 0x15 0x01 hall4 4) 9
    × Reads (made 0x03 0x00 hall4 2) 0
    × Reads (made 0x03 0x02 hall4 6) 0
    × Reads (made 0x03 0x03 hall4 8) 0
    × Reads (made 0x03 0x04 hall4 4) 10
    × Reads (made 0x03 0x01 hall4 5) 11
    × Writes (form 20 1 2) 4 32 0
    × Writes (form 21 1 2) 4 32 20
    × Writes (form 3 180 4) 4 0 21
    × Writes (form 3 1 2) 3 0 22
    × Writes (form 3 1 2) 4 31 23
unfolding index_of index_after format_of may_read may_send name_end name_of printable good_name read_of write_of
borders = (refl, refl, refl, refl, refl, refl, refl, refl, refl, refl, refl, refl, refl, refl, refl, refl, refl, refl, refl, refl, refl, refl)
