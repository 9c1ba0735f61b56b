-- What follow, lay and open put together, on plain values: a premise is what a callee ensures or a test says.
use Rattle.std.proofs.Common.{◌≡◌, ℕ, ◌+◌, ◌*◌, ◌^◌, ◌<◌, Bool, true, false, List, length, sym, ◌∙◌, arith}
use Rattle.std.specs.Prelude.{Ok, Err}
use Rattle.lists.specs.Tables.{Row, checked}
use Rattle.lists.proofs.Tables.{none_says}
use Rattle.lists.proofs.Checked.{first_ok, first_err, says_other}
use Rattle.answers.specs.declared.Answer.{Answer}
use Rattle.answers.specs.declared.Answer.TheVariants.{Accepted, Name}
use Rattle.answers.specs.Numbers.{number_of}
use Rattle.wire_rules.specs.declared.Header.{Header}
use Rattle.wire_rules.specs.Names.{good_name, kept_name}
use Rattle.wire_rules.specs.Header.{header_of}
use Rattle.reader.specs.Unnamed.{unnamed}
use Rattle.track_rules.specs.Records.{records_held, cleared_of}
use Rattle.take_rules.specs.declared.Decision.{Decision}
use Rattle.take_rules.specs.declared.Decision.TheVariants.{Ahead}
use Rattle.take_rules.specs.declared.Take.{Take}
use Rattle.take_rules.specs.declared.Followed.{Followed}
use Rattle.take_rules.specs.declared.Tally.{Tally}
use Rattle.take_rules.specs.Take.{unbegun_for, no_take, open_of, opened_track}
use Rattle.take_rules.specs.Counter.{away}
use Rattle.take_rules.specs.Follow.{decided, place_of, skipped_of, follow_rows, answer_of, followed_by, laid_by, followed_of, followed_track}
use Rattle.take_rules.specs.Tally.{raised_of, tallied_of}
use Rattle.take_rules.proofs.Exactly.{accepted_passed, refused_track, follow_track, follow_refused, follow_accepted}
use Rattle.take.specs.Judging.{judged_by, refused_by, accepted_by, Asked}
use Rattle.take.proofs.Judging.{err_rows, ok_rows}

-- ---- following

module _ (t : Take) (address : ℕ) (d track : List ℕ) (held : ℕ) (eh : held ≡ records_held track) where
  abbrev rows : List (Row Answer)
  rows = follow_rows t address d (records_held track)

  -- a refusal
  module _ (a : Answer) (ej : Err a ≡ judged_by (follow_rows t address d held) d) where
    refused_rows : Err a ≡ checked rows
    refused_rows = err_rows rows d a (rw eh at ej)

    pub answer_is : answer_of t address d (records_held track) ≡ a
    unfolding answer_of
    answer_is = first_err Accepted rows a refused_rows

    pub refusal_is : a ≡ Accepted → ⊥
    refusal_is = says_other Accepted a rows (none_says Accepted number_of rows tt) refused_rows

    refusal : answer_of t address d (records_held track) ≡ Accepted → ⊥
    refusal x = refusal_is (sym answer_is ∙ x)

    pub refused_followed : refused_by t a ≡ followed_of t address d track
    refused_followed = rw (← answer_is) (sym (follow_refused t address d track refusal))

    pub refused_left : track ≡ followed_track t address d track
    refused_left = sym (refused_track t address d track refusal)

  -- a packet that is accepted
  module _ (h : Header) (ej : Ok h ≡ judged_by (follow_rows t address d held) d) where
    passed : (Ok tt ≡ checked rows) × (h ≡ unnamed (header_of d))
    passed = ok_rows rows d h (rw eh at ej)

    pub pass : answer_of t address d (records_held track) ≡ Accepted
    unfolding answer_of
    pass = first_ok Accepted rows passed.0

    -- what the packet's own functions ask
    pub asked : length track < 2 ^ 64 → Asked t h d track
    asked l =
        let p = accepted_passed t address d (records_held track) pass in
        rw passed.1 (record {
          unchanged = p.unchanged;
          not_late = p.not_late;
          channels_few = p.channels_few;
          typed = p.typed;
          exact = p.exact;
          place_fits = omega (arith, p.fits);
          within = p.fits;
        })

    pub accepted_followed : (f : Followed) → f ≡ accepted_by t h → f ≡ followed_of t address d track
    accepted_followed f e = e ∙ rw passed.1 (sym (follow_accepted t address d track pass))

    pub accepted_laid : (after : List ℕ) → after ≡ laid_by h d (place_of t h) track → after ≡ followed_track t address d track
    accepted_laid after ea = ea ∙ rw passed.1 (sym (follow_track t address d track pass))

-- a packet ahead lies at the newest place and N records more for each step of the counter
pub ahead_place_is : (t : Take) (h : Header) (k : Decision) (e : k ≡ decided t h) (o : k ≡ Ahead) (d : ℕ) (q : d ≡ away 32 h.counter t.line.newest)
    → t.line.place + d * t.line.n ≡ place_of t h
ahead_place_is t h k e o d q = rw (sym e ∙ o, q)

-- a packet that was laid at its place
module _ (t : Take) (h : Header) (p : ℕ) (e : p ≡ place_of t h) where
  pub next_accepted : (s : ℕ) (k : Take) → s ≡ skipped_of t h → k ≡ followed_by t h
      → record { told = record { answer = Accepted; place = p; frames = h.frames; skipped = s }; take = k } ≡ accepted_by t h
  next_accepted s k u v = rw (e, u, v)

  pub next_laid : (d track after : List ℕ) → after ≡ laid_by h d p track → after ≡ laid_by h d (place_of t h) track
  next_laid d track after q = q ∙ rw e

-- the tally is raised by the answer, and nothing else looks at it
pub tallied : (t : Take) (tally : Tally) (address : ℕ) (d track : List ℕ) (f : Followed) → f ≡ followed_of t address d track → (w : Tally)
    → w ≡ raised_of tally f.told.answer → record { followed = f; tally = w } ≡ tallied_of t tally address d track
unfolding tallied_of
tallied t tally address d track f e w p = rw (p, e)

-- ---- opening

module _ (name : List ℕ) (address : ℕ) (track : List ℕ) (good : Bool) (e : good ≡ good_name name) where
  pub refused_opened : good ≡ false → (k : Take) → k ≡ no_take → record { answer = Name; take = k } ≡ open_of name address
  unfolding open_of
  refused_opened h k p = rw (p, sym e ∙ h)

  pub refused_kept : good ≡ false → track ≡ opened_track name track
  unfolding opened_track
  refused_kept h = rw (sym e ∙ h)

  pub opened : good ≡ true → (k : Take) (m : List ℕ) → m ≡ kept_name name → k ≡ unbegun_for (record { name = m; address = address })
      → record { answer = Accepted; take = k } ≡ open_of name address
  unfolding open_of
  opened h k m p r = rw (r, p, sym e ∙ h)

  pub cleared : good ≡ true → (after : List ℕ) → after ≡ cleared_of track → after ≡ opened_track name track
  unfolding opened_track
  cleared h after q = q ∙ rw (sym e ∙ h)
