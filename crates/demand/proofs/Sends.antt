-- What the box reads and lays of a sender's packets, and what of their schedule it needs: all that the proofs below know of a sender.
use mathlib.Core.Path.{◌≡◌}
use mathlib.Core.List.{List}
use Prim.Native.Nat.{ℕ, ◌+◌, ◌^◌, ◌≤◌, ◌<◌}
use lib.ListN.{length}
use Rattle.formats.specs.Formats.{format_of}
use Rattle.sample_rules.specs.Bits.{signed_of}
use Rattle.wire_rules.specs.declared.Header.{Header}
use Rattle.wire_rules.specs.Header.{header_of, header_size}
use Rattle.wire_rules.specs.Read.{Readable}
use Rattle.wire_rules.specs.Write.{GoodForm}
use Rattle.wire_rules.specs.Again.{kept_header}
use Rattle.track_rules.specs.Records.{packet_slot}
use Rattle.cutter_rules.specs.Schedule.{Divides, Equal}
use Rattle.cutter_rules.specs.Cut.{packet_header}
use Rattle.demand.specs.Sender.{Sender}

-- the header of packet k, as it is read
abbrev pub read_header : Sender → ℕ → Header
read_header x k = kept_header (packet_header x.header x.schedule k)

-- bytes that are read as packet k
pub record ReadAs (x : Sender) (k : ℕ) (d : List ℕ) : Type 0 where
  pub below : k < x.schedule.packets
  pub readable : Readable d
  pub header : header_of d ≡ read_header x k

pub record Sends (x : Sender) : Type 0 where
  pub formed : GoodForm x.header
  pub short : length x.header.name ≤ 16
  pub channels_few : x.header.channels ≤ 8
  pub total : ℕ
  pub divides : Divides total x.schedule
  pub equal : Equal x.header.frames x.schedule
  pub few : x.schedule.packets ≤ 2 ^ 31
  pub reads : (k : ℕ) → k < x.schedule.packets → ReadAs x k (x.packet k)
  pub below : (k o c : ℕ) → k < x.schedule.packets → o < x.schedule.count k → packet_slot (format_of x.header.format) (x.packet k) header_size x.header.channels o c < 2 ^ 24
  pub shown : (k o c : ℕ) → k < x.schedule.packets → o < x.schedule.count k → c < 8
      → signed_of 24 (packet_slot (format_of x.header.format) (x.packet k) header_size x.header.channels o c) ≡ x.number (x.schedule.from k + o) c
