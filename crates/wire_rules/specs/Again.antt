-- Reading what was written, and writing what was read (document 01, "The 28 bytes").
use Rattle.std.specs.Prelude.{ℕ, ◌+◌, ◌^◌, ◌≤◌, ◌<◌, ◌≡◌, List, [], ◌∷◌, length, take, drop, eqb}
use Rattle.lists.specs.Lists.{byte, put}
use Rattle.lists.specs.Little.{weighed}
use Rattle.lists.specs.Tables.{choose}
use Rattle.answers.specs.declared.Answer.TheVariants.{Accepted}
use Rattle.answers.specs.declared.Made.TheVariants.{Done}
use Rattle.answers.specs.Numbers.{number_made}
use Rattle.formats.specs.Formats.{MaySend}
use Rattle.wire_rules.specs.declared.Header.{Header}
use Rattle.wire_rules.specs.declared.Read.{Read}
use Rattle.wire_rules.specs.declared.Written.{Written}
use Rattle.wire_rules.specs.Names.{kept_name}
use Rattle.wire_rules.specs.Header.{header_size, format_bits, name_field}
use Rattle.wire_rules.specs.Read.{read_of}
use Rattle.wire_rules.specs.Write.{packet_of, write_of, output_of}

-- the header with zeros filling its name
abbrev pub kept_header : Header → Header
kept_header h = record {
  rate = h.rate;
  frames = h.frames;
  channels = h.channels;
  format = h.format;
  name = kept_name h.name;
  counter = h.counter;
}

-- what was written is read as the header and the number of data bytes; where the writer refuses, nothing is there to read
unfoldable pub written_read : Header → List ℕ → List ℕ → Read
written_read h samples out =
    choose (eqb (number_made (write_of h samples out).answer) 0) (record { answer = Accepted; header = kept_header h; size = length samples }) (read_of [])

-- a datagram that is written as it was read: it is accepted, the bytes after its name are zero, its type may be sent, and there is room
pub record Repeats (d out : List ℕ) : Type 0 where
  pub accepted : (read_of d).answer ≡ Accepted
  pub zeros : kept_name (name_field d) ≡ name_field d
  pub sent : MaySend (format_bits (byte d 7))
  pub room : length d ≤ length out

-- the same bytes again
pub record Repeated (d out : List ℕ) (w : Written) (after : List ℕ) : Type 0 where
  pub answer : w ≡ record { answer = Done; length = length d }
  pub output : after ≡ put out 0 d

-- ---- the two round trips

-- what the types of a header's fields give
pub record Typed (h : Header) : Type 0 where
  pub sixteen : length h.name ≡ 16
  pub counter : h.counter < 2 ^ 32

-- what was written reads back: the header with zeros filling its name, the number of data bytes, and the data; the rest of the output stays
pub record ReadsBack (h : Header) (samples out : List ℕ) : Type 0 where
  pub fields : read_of (packet_of h samples) ≡ record { answer = Accepted; header = kept_header h; size = length samples }
  pub samples_back : drop header_size (packet_of h samples) ≡ samples
  pub packet : take (header_size + length samples) (output_of h samples out) ≡ packet_of h samples
  pub past : drop (header_size + length samples) (output_of h samples out) ≡ drop (header_size + length samples) out

-- what was read, written again, gives the same bytes
pub record WritesBack (d out : List ℕ) : Type 0 where
  pub packet : packet_of (read_of d).header (drop header_size d) ≡ d
  pub answer : write_of (read_of d).header (drop header_size d) out ≡ record { answer = Done; length = length d }
  pub output : output_of (read_of d).header (drop header_size d) out ≡ put out 0 d

-- ---- the table of the 28 bytes, said of a datagram that holds a header: audio, PCM, the reserved bit zero

pub record Spells (d : List ℕ) (h : Header) : Type 0 where
  pub mark : take 4 d ≡ 0x56 ∷ 0x42 ∷ 0x41 ∷ 0x4E ∷ []
  pub rate : byte d 4 ≡ h.rate
  pub frames : byte d 5 + 1 ≡ h.frames
  pub channels : byte d 6 + 1 ≡ h.channels
  pub format : byte d 7 ≡ h.format
  pub name : kept_name (take 16 (drop 8 d)) ≡ h.name
  pub counter : weighed 4 d 24 ≡ h.counter
