-- Capture records (document 01, "Track and capture"): 1,472 bytes each.
use Rattle.std.specs.Prelude.{ℕ, ◌-◌, ◌≡◌, List, ◌++◌, length, take, drop, replicate, eqb}
use Rattle.lists.specs.Little.{little, weighed, bytes_of}
use Rattle.lists.specs.Tables.{choose}
use Rattle.answers.specs.Numbers.{number_made}
use Rattle.wire_rules.specs.declared.Header.{Header}
use Rattle.wire_rules.specs.Header.{datagram_most}
use Rattle.cutter_rules.specs.Cut.{cut_answer, cut_packet}

-- bytes of a record
abbrev pub record_size : ℕ
record_size = 1472

-- the sender's address: bytes 0-3 as one number
abbrev pub address_of : List ℕ → ℕ
address_of r = little 4 r 0

-- the length that the record states: bytes 4-7
abbrev pub length_of : List ℕ → ℕ
length_of r = little 4 r 4

-- the datagram, as long as the record states; zeros stand for the bytes of one over 1,464, which no record holds
unfoldable pub datagram_of : List ℕ → List ℕ
datagram_of r = take (length_of r) (drop 8 r) ++ replicate (length_of r - datagram_most) 0

-- our record of a datagram: its padding is zero
unfoldable pub capture_record : ℕ → List ℕ → List ℕ
capture_record address d = bytes_of 4 address ++ (bytes_of 4 (length d) ++ (d ++ replicate (datagram_most - length d) 0))

-- a record's bytes, as the paper has them: the sender's address, the length and the datagram
pub record SpellsRecord (r : List ℕ) (address : ℕ) (d : List ℕ) : Type 0 where
  pub sender : weighed 4 r 0 ≡ address
  pub size : weighed 4 r 4 ≡ length d
  pub datagram : take (length d) (drop 8 r) ≡ d

-- the record of packet k; a refusal leaves what stood there
unfoldable pub cut_record : Header → List ℕ → ℕ → ℕ → List ℕ → List ℕ
cut_record h track k address out = choose (eqb (number_made (cut_answer h track k datagram_most)) 0) (capture_record address (cut_packet h track k)) out
