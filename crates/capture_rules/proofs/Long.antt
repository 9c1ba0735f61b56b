-- A datagram over 1,464 bytes, and the datagram of a record.
use mathlib.Core.Path.{◌≡◌, sym, ap, ◌∙◌}
use mathlib.Core.Bool.{Bool, true, false}
use mathlib.Core.List.{List, append-nil}
use Prim.Native.Nat.{ℕ, ◌-◌, ◌≤◌, ◌<◌}
use native.Mathlib.Omega.{arith}
use lib.ListN.{length, take, drop, length-append, length-take, length-drop, length-replicate}
use borrow.Author.Tests.{lt-ltb, le-ltb}
use Rattle.lists.specs.Tables.{choose}
use Rattle.answers.specs.declared.Answer.TheVariants.{Accepted, Long, State}
use Rattle.answers.specs.Numbers.{number_of}
use Rattle.track_rules.specs.Records.{records_held}
use Rattle.take_rules.specs.declared.Take.{Take}
use Rattle.take_rules.specs.declared.Tally.{Tally}
use Rattle.take_rules.specs.Take.{bad_state}
use Rattle.take_rules.specs.Follow.{answer_of, followed_of, followed_track}
use Rattle.take_rules.specs.Tally.{tallied_of}
use Rattle.take_rules.proofs.Exactly.{follow_refused, refused_track}
use Rattle.wire_rules.specs.Header.{datagram_most}
use Rattle.capture_rules.specs.Records.{record_size, length_of, datagram_of}

-- ---- a datagram over 1,464 bytes is answered 16 or 2, whatever its bytes

refuses : (b : Bool) → choose b State Long ≡ Accepted → ⊥
refuses true e = omega (arith, ap number_of e)
refuses false e = omega (arith, ap number_of e)

module _ (t : Take) (address : ℕ) (d : List ℕ) (long : datagram_most < length d) where
  pub long_answered : (held : ℕ) → answer_of t address d held ≡ choose (bad_state t) State Long
  unfolding answer_of
  long_answered held = rw (le-ltb (length d) 28 (omega arith), lt-ltb datagram_most (length d) long)

  refused : (held : ℕ) → answer_of t address d held ≡ Accepted → ⊥
  refused held e = refuses (bad_state t) (sym (long_answered held) ∙ e)

-- two of them are followed alike
module _ (t : Take) (address : ℕ) (d e : List ℕ) (long : datagram_most < length d) (as_long : datagram_most < length e) (track : List ℕ) where
  pub long_followed : followed_of t address d track ≡ followed_of t address e track
  long_followed =
      follow_refused t address d track (refused t address d long _)
      ∙ rw (long_answered t address d long (records_held track), ← long_answered t address e as_long (records_held track))
      (sym (follow_refused t address e track (refused t address e as_long _)))

  pub long_follows : (tally : Tally) → tallied_of t tally address d track ≡ tallied_of t tally address e track
  unfolding tallied_of
  long_follows tally = rw long_followed

  pub long_track : followed_track t address d track ≡ followed_track t address e track
  long_track = refused_track t address d track (refused t address d long _) ∙ sym (refused_track t address e track (refused t address e as_long _))

-- ---- the datagram of a record

module _ (r : List ℕ) (whole : length r ≡ record_size) where
  pub datagram_held : length_of r ≤ datagram_most → datagram_of r ≡ take (length_of r) (drop 8 r)
  unfolding datagram_of
  datagram_held h =
      let z : length_of r - datagram_most ≡ 0 = omega arith in
      rw z (append-nil (take (length_of r) (drop 8 r)))

  -- it is as long as the record states
  pub datagram_length : length (datagram_of r) ≡ length_of r
  unfolding datagram_of
  datagram_length = simp (length-append, length-take, length-drop, length-replicate) (omega (arith, whole))
