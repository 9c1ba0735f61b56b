-- Writing one packet (document 01, "Numbers the bench sees").
use Rattle.std.specs.Prelude.{ℕ, ◌+◌, ◌-◌, ◌*◌, ◌≤◌, ◌≡◌, List, [], ◌∷◌, ◌++◌, Bool, not, length, ltb, eqb}
use Rattle.lists.specs.Lists.{put}
use Rattle.lists.specs.Little.{bytes_of}
use Rattle.lists.specs.Tables.{Row, row, choose, first, any, unlike, outside}
use Rattle.lists.specs.Rules.{Rules, done, rule}
use Rattle.answers.specs.declared.Made.{Made}
use Rattle.answers.specs.declared.Made.TheVariants.{Done, Form, Big, Data, Room}
use Rattle.answers.specs.Numbers.{number_made}
use Rattle.formats.specs.Formats.{MaySend, may_send, size_at}
use Rattle.wire_rules.specs.declared.Header.{Header}
use Rattle.wire_rules.specs.declared.Written.{Written}
use Rattle.wire_rules.specs.Names.{good_name, kept_name, GoodName}
use Rattle.wire_rules.specs.Header.{header_size, data_most, joined_four, joined_seven, data_size}

-- the 28 bytes, of the raw bytes 4 to 7, a name and a counter
unfoldable pub lead_of : ℕ → ℕ → ℕ → ℕ → List ℕ → ℕ → List ℕ
lead_of b4 b5 b6 b7 name counter = 0x56 ∷ 0x42 ∷ 0x41 ∷ 0x4E ∷ b4 ∷ b5 ∷ b6 ∷ b7 ∷ (kept_name name ++ bytes_of 4 counter)

-- those of a header: audio, PCM, the reserved bit zero
abbrev pub header_bytes : Header → List ℕ
header_bytes h = lead_of (joined_four h.rate 0) (h.frames - 1) (h.channels - 1) (joined_seven h.format 0 0) h.name h.counter

abbrev pub packet_of : Header → List ℕ → List ℕ
packet_of h samples = header_bytes h ++ samples

-- rate over 20, a type that may not be sent, frames or channels outside 1 to 256, bad name
abbrev pub bad_form : Header → Bool
bad_form h = any (ltb 20 h.rate ∷ not (may_send h.format) ∷ outside 256 h.frames ∷ outside 256 h.channels ∷ not (good_name h.name) ∷ [])

-- by the header, the bytes of data given and the room for the packet
abbrev pub write_rows : Header → ℕ → ℕ → List (Row Made)
write_rows h given room =
    row Form (bad_form h)
    ∷ row Big (ltb data_most (data_size h))
    ∷ row Data (unlike given (data_size h))
    ∷ row Room (ltb room (header_size + given))
    ∷ []

-- the length written, zero on a refusal
abbrev pub write_answered : Made → ℕ → Written
write_answered a given = record { answer = a; length = choose (eqb (number_made a) 0) (header_size + given) 0 }

unfoldable pub write_of : Header → List ℕ → List ℕ → Written
write_of h samples out = write_answered (first Done (write_rows h (length samples) (length out))) (length samples)

-- what the output holds then: the packet and the bytes past it as they were; on a refusal every byte as it was
unfoldable pub output_of : Header → List ℕ → List ℕ → List ℕ
output_of h samples out =
    choose (eqb (number_made (first Done (write_rows h (length samples) (length out)))) 0) (put out 0 (packet_of h samples)) out

-- ---- the rules, as the paper has them

pub record GoodForm (h : Header) : Type 0 where
  pub rated : h.rate ≤ 20
  pub typed : MaySend h.format
  pub frames_few : (1 ≤ h.frames) × (h.frames ≤ 256)
  pub channels_few : (1 ≤ h.channels) × (h.channels ≤ 256)
  pub named : GoodName h.name

-- a packet that is written: every rule in one record
pub record Writable (h : Header) (given room : ℕ) : Type 0 where
  pub formed : GoodForm h
  pub small : h.frames * h.channels * size_at h.format ≤ data_most
  pub full : given ≡ h.frames * h.channels * size_at h.format
  pub roomy : header_size + given ≤ room

-- the same in the paper's order, each with the answer that is given where it is broken
abbrev pub write_rules : Header → ℕ → ℕ → Rules Made
write_rules h given room =
    rule Form (GoodForm h)
    (rule Big (h.frames * h.channels * size_at h.format ≤ data_most)
    (rule Data (given ≡ h.frames * h.channels * size_at h.format)
    (rule Room (header_size + given ≤ room)
    done)))
