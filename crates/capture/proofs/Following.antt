-- Following one record: what it states is what is followed.
use mathlib.Core.Path.{◌≡◌, sym, ◌∙◌}
use mathlib.Core.List.{List}
use Prim.Native.Nat.{ℕ, ◌+◌, ◌-◌, ◌≤◌, ◌<◌}
use native.Mathlib.Omega.{arith}
use lib.ListN.{length, take, drop}
use Rattle.take_rules.specs.declared.Take.{Take}
use Rattle.take_rules.specs.declared.Followed.{Followed}
use Rattle.take_rules.specs.declared.Tally.{Tally}
use Rattle.take_rules.specs.Follow.{followed_of, followed_track}
use Rattle.take_rules.specs.Tally.{tallied_of}
use Rattle.wire_rules.specs.Header.{datagram_most}
use Rattle.capture_rules.specs.Records.{record_size, address_of, length_of, datagram_of}
use Rattle.capture_rules.proofs.Long.{long_followed, long_follows, long_track, datagram_held, datagram_length}

-- what following a datagram gives, as the contract has it
pub record Follows (t : Take) (tally : Tally) (track : List ℕ) (address : ℕ) (d : List ℕ) (result : Followed) (tally' : Tally) (track' : List ℕ) : Type 0 where
  pub answered : result ≡ followed_of t address d track
  pub tallied : tally' ≡ (tallied_of t tally address d track).tally
  pub laid : track' ≡ followed_track t address d track

module _ (t : Take) (before : Tally) (heard laid : List ℕ) (sender n : ℕ) (whole : length heard ≡ record_size) (p : sender ≡ address_of heard)
    (q : n ≡ length_of heard) (result : Followed) (after : Tally) (laid' : List ℕ) where
  -- the record's own bytes stand in for a datagram that it can't hold: they are longer
  pub over_long : datagram_most < n → Follows t before laid sender heard result after laid'
      → Follows t before laid (address_of heard) (datagram_of heard) result after laid'
  over_long l f =
      let as_long : datagram_most < length heard = omega (arith, whole) in
      let long : datagram_most < length (datagram_of heard) = rw (datagram_length heard whole, ← q) l in
      record {
        answered = f.answered ∙ rw p (long_followed t (address_of heard) heard (datagram_of heard) as_long long laid);
        tallied = f.tallied ∙ rw (p, long_follows t (address_of heard) heard (datagram_of heard) as_long long laid before);
        laid = f.laid ∙ rw p (long_track t (address_of heard) heard (datagram_of heard) as_long long laid);
      }

  pub as_stated : n ≤ datagram_most → Follows t before laid sender (take (8 + n - 8) (drop 8 heard)) result after laid'
      → Follows t before laid (address_of heard) (datagram_of heard) result after laid'
  as_stated l f =
      let m : 8 + n - 8 ≡ length_of heard = omega (arith, q) in
      let e : take (8 + n - 8) (drop 8 heard) ≡ datagram_of heard = rw m (sym (datagram_held heard whole (rw (← q) l))) in
      record { answered = f.answered ∙ rw (p, e); tallied = f.tallied ∙ rw (p, e); laid = f.laid ∙ rw (p, e) }
