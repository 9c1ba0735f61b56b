-- Acceptance changes the packet's records and no other byte, and each slot is the packet's sample by the sample rules.
use mathlib.Core.Path.{◌≡◌, ap, ◌∙◌}
use mathlib.Core.List.{List}
use Prim.Native.Nat.{ℕ, ◌+◌, ◌-◌, ◌*◌, ◌^◌, ◌≤◌, ◌<◌}
use native.Mathlib.Omega.{arith}
use lib.ListN.{length}
use Rattle.lists.specs.Lists.{byte}
use Rattle.answers.specs.declared.Answer.TheVariants.{Accepted}
use Rattle.formats.specs.declared.Integer.{Integer}
use Rattle.formats.specs.declared.Integer.TheVariants.{Signed24}
use Rattle.formats.specs.declared.Format.TheVariants.{Whole}
use Rattle.formats.specs.Formats.{format_of, whole_size, width_of}
use Rattle.sample_rules.specs.Bits.{signed_of, slot_of}
use Rattle.sample_rules.proofs.Bits.{slot_nearest, slot_number_is, sample_has}
use Rattle.sample_rules.proofs.Nearest.{widened_exact}
use Rattle.wire_rules.specs.declared.Header.{Header}
use Rattle.wire_rules.specs.Header.{header_size, header_of}
use Rattle.lists.specs.Little.{little}
use Rattle.track_rules.specs.Records.{record_bytes, records_held, slot_at, laid_of, packet_slot}
use Rattle.track_rules.proofs.Laws.{laid_length, laid_slot, laid_before, laid_after, packet_below, packet_heard, packet_silent, sample_below, silence}
use Rattle.take_rules.specs.declared.Take.{Take}
use Rattle.take_rules.specs.Follow.{place_of, answer_of, followed_track}
use Rattle.take_rules.specs.Laid.{sample_number, LaidDown}
use Rattle.take_rules.proofs.Exactly.{follow_track, accepted_passed}

module _ (f : Integer) (d : List ℕ) (bytes : (i : ℕ) → byte d i < 256) (h : Header) (place : ℕ) (track : List ℕ) (room : place + h.frames ≤ records_held track)
    (few : h.channels ≤ 8) where
  abbrev slots : ℕ → ℕ → ℕ
  slots = packet_slot (Whole f) d header_size h.channels

  abbrev after : List ℕ
  after = laid_of track place h.frames slots

  abbrev bits : ℕ → ℕ → ℕ
  bits k c = little (whole_size f) d (header_size + k * (h.channels * whole_size f) + c * whole_size f)

  in_track : place * record_bytes + h.frames * record_bytes ≤ length track
  in_track = omega arith

  slot_is : (i c : ℕ) → place ≤ i → i < place + h.frames → c < 8 → slot_at after i c ≡ slots (i - place) c
  slot_is i c a b l = laid_slot track place h.frames slots in_track i c a b l (packet_below (Whole f) d header_size h.channels (i - place) c)

  heard_is : (i c : ℕ) → place ≤ i → i < place + h.frames → c < h.channels → slot_at after i c ≡ slot_of (Whole f) (bits (i - place) c)
  heard_is i c a b l = slot_is i c a b (omega arith) ∙ packet_heard (Whole f) d header_size h.channels (i - place) c l

  below : (k c : ℕ) → bits k c < 2 ^ width_of f
  below k c = sample_below f d (header_size + k * (h.channels * whole_size f) + c * whole_size f) bytes

  pub laid_down : LaidDown f d h place track after
  laid_down = record {
    same_length = laid_length track place h.frames slots in_track;
    nearest = λ i c a b l. rw (heard_is i c a b l) (slot_nearest f (bits (i - place) c) (below (i - place) c));
    exact = λ w i c a b l.
        rw (heard_is i c a b l, slot_number_is f (bits (i - place) c) (below (i - place) c))
        (widened_exact f Signed24 (sample_number f d h (i - place) c) (sample_has f (bits (i - place) c) (below (i - place) c)) w);
    silent = λ i c a b l m. ap (signed_of 24) (slot_is i c a b m ∙ packet_silent (Whole f) d header_size h.channels (i - place) c l) ∙ silence;
    before = laid_before track place h.frames slots in_track;
    behind = laid_after track place h.frames slots in_track;
  }

-- following a datagram that is accepted
pub follow_lays : (t : Take) (address : ℕ) (d track : List ℕ) → ((i : ℕ) → byte d i < 256) → answer_of t address d (records_held track) ≡ Accepted
    → (f : Integer) → format_of (header_of d).format ≡ Whole f → LaidDown f d (header_of d) (place_of t (header_of d)) track (followed_track t address d track)
follow_lays t address d track bytes e f k =
    let h = header_of d in
    let p = accepted_passed t address d (records_held track) e in
    let laid : followed_track t address d track ≡ laid_of track (place_of t h) h.frames (packet_slot (Whole f) d header_size h.channels) =
    follow_track t address d track e ∙ rw k in
    rw laid (laid_down f d bytes h (place_of t h) track p.fits p.channels_few)
