-- What a caller in C keeps over a history of calls is the box over that history.
use mathlib.Core.Path.{◌≡◌, refl, ap, ◌∙◌}
use mathlib.Core.List.{List, [], ◌∷◌}
use Prim.Native.Nat.{ℕ, ◌^◌, ◌≤◌, ◌<◌}
use native.Mathlib.Omega.{arith}
use lib.Dec.{eqb}
use lib.ListN.{length}
use borrow.Author.Tests.{eqb-true, ne_eqb}
use Rattle.lists.specs.Tables.{choose}
use Rattle.lists.proofs.Tables.{by_test}
use Rattle.answers.specs.declared.Answer.{Answer}
use Rattle.answers.specs.declared.Answer.TheVariants.{Accepted}
use Rattle.answers.specs.Numbers.{number_of}
use Rattle.answers.proofs.Numbers.{number_told}
use Rattle.formats.specs.Formats.{format_of}
use Rattle.wire_rules.specs.declared.Header.{Header}
use Rattle.wire_rules.specs.Header.{header_size, header_of}
use Rattle.wire_rules.specs.Names.{good_name}
use Rattle.track_rules.specs.Records.{records_held, cleared_of, packet_slot}
use Rattle.track_rules.proofs.Laws.{cleared_length, laid_length}
use Rattle.take_rules.specs.declared.Take.{Take}
use Rattle.take_rules.specs.declared.Tally.{Tally}
use Rattle.take_rules.specs.declared.Tallied.{Tallied}
use Rattle.take_rules.specs.Take.{opened_track}
use Rattle.take_rules.specs.Follow.{place_of, answer_of, laid_by, followed_by, followed_of, followed_track}
use Rattle.take_rules.specs.Tally.{tally_of, tallied_of}
use Rattle.take_rules.specs.Box.{Event, Box, opened, tells_of, follows, after}
use Rattle.take_rules.proofs.Exactly.{accepted_passed, refused_track}
use Rattle.kept.specs.Kept.{take_bytes, take_of, TypedTake}
use Rattle.kept.proofs.Back.{kept_back}
use Rattle.kept.proofs.Given.{opened_typed, followed_typed}
use Rattle.demand.specs.Sender.{Each}
use Rattle.firmware.specs.Face.{kept_after}
use Rattle.face_rules.specs.History.{Kept, opened_for, followed_from, told_by, left_by, left_after, Holds, OfBytes}

-- ---- a track keeps its length

opened_length : (name track : List ℕ) → length (opened_track name track) ≡ length track
unfolding opened_track
opened_length name track =
    by_test (λ b. length (choose b (cleared_of track) track) ≡ length track) (good_name name) (λ e. cleared_length track) (λ e. refl)

module _ (t : Take) (address : ℕ) (d track : List ℕ) where
  abbrev answer : Answer
  answer = answer_of t address d (records_held track)

  abbrev h : Header
  h = header_of d

  laid_long : answer ≡ Accepted → length (laid_by h d (place_of t h) track) ≡ length track
  laid_long e =
      laid_length track (place_of t h) h.frames (packet_slot (format_of h.format) d header_size h.channels)
      (omega (arith, (accepted_passed t address d (records_held track) e).fits))

  followed_length : length (followed_track t address d track) ≡ length track
  unfolding followed_track
  followed_length =
      by_test (λ b. eqb (number_of answer) 0 ≡ b → length (choose b (laid_by h d (place_of t h) track) track) ≡ length track) (eqb (number_of answer) 0)
      (λ q p. laid_long (number_told answer Accepted (eqb-true (number_of answer) 0 p))) (λ q p. refl) refl

  -- the caller's bytes are the take's, whatever the answer
  kept_is : (kept : List ℕ) → kept ≡ take_bytes t → let f = followed_of t address d track in kept_after kept f ≡ take_bytes f.take
  unfolding followed_of
  kept_is kept e =
      by_test (λ b. choose b (take_bytes (choose b (followed_by t h) t)) kept ≡ take_bytes (choose b (followed_by t h) t)) (eqb (number_of answer) 0)
      (λ q. refl) (λ q. e)

  followed_told : (tally : Tally) → (tallied_of t tally address d track).followed ≡ followed_of t address d track
  unfolding tallied_of
  followed_told tally = refl

-- ---- what is kept, and the box

record Keeps (k : Kept) (b : Box) : Type 0 where
  bytes : k.take ≡ take_bytes b.take
  typed : TypedTake b.take
  counts : k.counts ≡ b.tally.counts
  track : k.track ≡ b.track
  room : length b.track < 2 ^ 64

module _ (k : Kept) (b : Box) (w : Keeps k b) where
  holds : Holds k b
  holds = record { take = ap take_of w.bytes ∙ kept_back b.take w.typed; counts = w.counts; track = w.track }

  module _ (e : Event) where
    called : followed_from k e ≡ tallied_of b.take b.tally e.address e.datagram b.track
    called = rw (holds.take, w.counts, w.track)

    tells : told_by k e ≡ tells_of b e
    tells = ap (λ (x : Tallied). x.followed.told) called ∙ ap (λ f. f.told) (followed_told b.take e.address e.datagram b.track b.tally)

    step : OfBytes e → Keeps (left_by k e) (follows b e)
    step below = record {
      bytes = ap (λ (x : Tallied). kept_after k.take x.followed) called
          ∙ ap (kept_after k.take) (followed_told b.take e.address e.datagram b.track b.tally)
          ∙ kept_is b.take e.address e.datagram b.track k.take w.bytes;
      typed = followed_typed b.take e.address e.datagram b.track w.typed below w.room;
      counts = ap (λ (x : Tallied). x.tally.counts) called;
      track = rw (holds.take, w.track);
      room = rw (followed_length b.take e.address e.datagram b.track) w.room;
    }

-- ---- every history: a name of any bytes, an address and a lent track as their types in C have them

module _ (name : List ℕ) (short : length name ≤ 16) (address : ℕ) (fits : address < 2 ^ 32) (counts track : List ℕ) (room : length track < 2 ^ 64) where
  abbrev left : List Event → Kept
  left past = left_after (opened_for name address counts track) past

  abbrev box : List Event → Box
  box past = after (opened name address (tally_of counts) track) past

  open_keeps : Keeps (left []) (box [])
  open_keeps = record {
    bytes = refl;
    typed = opened_typed name address short fits;
    counts = refl;
    track = refl;
    room = rw (opened_length name track) room;
  }

  keeps : (past : List Event) → Each OfBytes past → Keeps (left past) (box past)
  keeps [] v = open_keeps
  keeps (e ∷ past) v = step (left past) (box past) (keeps past v.1) e v.0

  -- the take that the bytes are, the counts and the track are the box's
  pub face_history : (past : List Event) → Each OfBytes past → Holds (left past) (box past)
  face_history past v = holds (left past) (box past) (keeps past v)

  -- and the next call tells what the box tells
  pub face_tells : (past : List Event) → Each OfBytes past → (e : Event) → told_by (left past) e ≡ tells_of (box past) e
  face_tells past v e = tells (left past) (box past) (keeps past v) e

-- a refusal leaves the caller's bytes and the track
pub face_refused : (k : Kept) (e : Event) → (number_of (told_by k e).answer ≡ 0 → ⊥) → ((left_by k e).take ≡ k.take) × ((left_by k e).track ≡ k.track)
unfolding tallied_of followed_of
face_refused k e z = (rw (ne_eqb _ 0 z), refused_track (take_of k.take) e.address e.datagram k.track (λ a. z (ap number_of a)))
