-- What each byte weighs: an accepted datagram, and a packet written, spell their header as the table of the 28 bytes has it.
use mathlib.Core.Path.{◌≡◌, refl, ap}
use mathlib.Core.List.{List}
use Prim.Native.Nat.{ℕ}
use native.Mathlib.Omega.{arith}
use Rattle.lists.proofs.Little.{little_weighs}
use Rattle.answers.specs.declared.Answer.TheVariants.{Accepted}
use Rattle.answers.specs.declared.Made.TheVariants.{Done}
use Rattle.wire_rules.specs.declared.Header.{Header}
use Rattle.wire_rules.specs.declared.Read.{Read}
use Rattle.wire_rules.specs.Header.{header_of}
use Rattle.wire_rules.specs.Read.{read_of, Readable}
use Rattle.wire_rules.specs.Write.{packet_of, write_of}
use Rattle.wire_rules.specs.Again.{kept_header, Typed, Spells}
use Rattle.wire_rules.proofs.Reading.{read_accepted_exactly, read_accepted_fields}
use Rattle.wire_rules.proofs.RoundTrip.{written_reads_back}

module _ (d : List ℕ) where
  header_spelled : Readable d → Spells d (header_of d)
  header_spelled r = record {
    mark = r.marked;
    rate = omega (arith, r.audio);
    frames = refl;
    channels = refl;
    format = omega (arith, r.pcm, r.unreserved);
    name = refl;
    counter = little_weighs 4 d 24;
  }

  -- an accepted datagram
  pub read_spelled : (read_of d).answer ≡ Accepted → Spells d (read_of d).header
  read_spelled e = rw (read_accepted_fields d e) (header_spelled ((read_accepted_exactly d).0 e))

-- a packet written: its name is kept with zeros after it
pub written_spelled : (h : Header) (samples out : List ℕ) → Typed h → (write_of h samples out).answer ≡ Done → Spells (packet_of h samples) (kept_header h)
written_spelled h samples out t e =
    let r = (written_reads_back h samples out t e).fields in
    let s = read_spelled (packet_of h samples) (ap (λ (x : Read). x.answer) r) in
    rw (ap (λ (x : Read). x.header) r) at s
