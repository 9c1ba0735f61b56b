-- What following tells a caller in C, on plain values.
use mathlib.Core.Path.{◌≡◌, refl, sym, ap, ◌∙◌}
use mathlib.Core.List.{List, [], ◌∷◌}
use Prim.Native.Nat.{ℕ}
use lib.Dec.{eqb}
use lib.ListN.{length, take, replicate}
use borrow.Author.Tests.{ne_eqb}
use Rattle.std.specs.Prelude.{Result, Ok, Err}
use Rattle.lists.specs.Lists.{put}
use Rattle.lists.specs.Tables.{choose}
use Rattle.lists.proofs.Tables.{by_test}
use Rattle.wire_rules.specs.declared.Header.{Header}
use Rattle.wire_rules.specs.Header.{header_of}
use Rattle.track_rules.specs.Records.{records_held}
use Rattle.answers.specs.declared.Answer.{Answer}
use Rattle.answers.specs.declared.Answer.TheVariants.{Accepted}
use Rattle.answers.specs.Numbers.{number_of}
use Rattle.answers.proofs.Numbers.{number_told}
use Rattle.take_rules.specs.declared.Take.{Take}
use Rattle.take_rules.specs.declared.Followed.{Followed}
use Rattle.take_rules.specs.declared.Tallied.{Tallied}
use Rattle.take_rules.specs.Follow.{place_of, skipped_of, answer_of, follow_rows, followed_by, laid_by, followed_of, followed_track}
use Rattle.take_rules.specs.Tally.{tally_of, raised_of}
use Rattle.take.specs.Judging.{judged_by, refused_by}
use Rattle.take.proofs.Following.{tallied, refusal_is, refused_followed, refused_left, accepted_followed, accepted_laid, next_accepted, next_laid}
use Rattle.kept.specs.Kept.{tail_of, take_bytes, take_of}
use Rattle.firmware.specs.Face.{followed_for, laid_for, kept_after}
use Rattle.kept.proofs.Keeping.{tail_alone}

-- ---- following

-- a take that is followed keeps its name
name_kept : (t : Take) (address : ℕ) (d track : List ℕ) → (followed_of t address d track).take.who.name ≡ t.who.name
unfolding followed_of
name_kept t address d track =
    by_test (λ b. (choose b (followed_by t (header_of d)) t).who.name ≡ t.who.name) (eqb (number_of (answer_of t address d (records_held track))) 0)
    (λ e. refl) (λ e. refl)

pub loaded_name : (kept name : List ℕ) (t : Take) → t ≡ take_of kept → name ≡ take 16 kept → name ≡ t.who.name
unfolding take_of
loaded_name kept name t e n = n ∙ rw e

-- what a caller in C is told of what following gives: the number, the words beside it, its bytes and counts, and the track
pub record Tells (kept counts : List ℕ) (address : ℕ) (d track : List ℕ) (n : ℕ) (laid kept' counts' track' : List ℕ) : Type 0 where
  pub answer : n ≡ number_of (followed_for kept counts address d track).followed.told.answer
  pub words : laid ≡ laid_for (followed_for kept counts address d track).followed.told
  pub take_kept : kept' ≡ kept_after kept (followed_for kept counts address d track).followed
  pub counted : counts' ≡ (followed_for kept counts address d track).tally.counts
  pub track_laid : track' ≡ followed_track (take_of kept) address d track

module _ (kept counts d track : List ℕ) (address : ℕ) (t : Take) (f : Followed) (n : ℕ) (et : t ≡ take_of kept) (ef : f ≡ followed_of t address d track)
    (q : n ≡ number_of f.told.answer) where
  abbrev given : Tallied
  given = followed_for kept counts address d track

  -- what following gives, with the tally that the caller's counts give
  same : record { followed = f; tally = raised_of (tally_of counts) f.told.answer } ≡ given
  same = tallied t (tally_of counts) address d track f ef (raised_of (tally_of counts) f.told.answer) refl ∙ rw et

  number_is : n ≡ number_of given.followed.told.answer
  number_is = q ∙ ap (λ (x : Tallied). number_of x.followed.told.answer) same

  tells : (track' kept' counts' : List ℕ) → track' ≡ followed_track t address d track → kept' ≡ kept_after kept given.followed
      → counts' ≡ (raised_of (tally_of counts) f.told.answer).counts → Tells kept counts address d track n (laid_for f.told) kept' counts' track'
  tells track' kept' counts' p k c = record {
    answer = number_is;
    words = ap (λ (x : Tallied). laid_for x.followed.told) same;
    take_kept = k;
    counted = c ∙ ap (λ (x : Tallied). x.tally.counts) same;
    track_laid = p ∙ ap (λ (x : Take). followed_track x address d track) et;
  }

  named : f.take.who.name ≡ take 16 kept
  named = ap (λ (x : Followed). x.take.who.name) ef ∙ name_kept t address d track ∙ sym (loaded_name kept (take 16 kept) t et refl)

  kept_new : length kept ≡ 40 → (kept' : List ℕ) → n ≡ 0 → kept' ≡ put kept 16 (tail_of f.take) → kept' ≡ kept_after kept given.followed
  kept_new forty kept' z e =
      e ∙ tail_alone kept forty f.take named ∙ ap (λ (x : Tallied). take_bytes x.followed.take) same ∙ rw (← number_is, z)

  kept_old : (n ≡ 0 → ⊥) → kept ≡ kept_after kept given.followed
  kept_old z = rw (← number_is, ne_eqb n 0 z)

-- by what was judged: a refusal, and a packet that is accepted
module _ (kept counts d track : List ℕ) (address : ℕ) (t : Take) (held : ℕ) (et : t ≡ take_of kept) (eh : held ≡ records_held track) (counts' : List ℕ) where
  abbrev judged : Result Header Answer
  judged = judged_by (follow_rows t address d held) d

  pub told_refused : (a : Answer) → Err a ≡ judged → counts' ≡ (raised_of (tally_of counts) a).counts
      → Tells kept counts address d track (number_of a) (replicate 8 0) kept counts' track
  told_refused a ej c =
      let ef = refused_followed t address d track held eh a ej in
      tells kept counts d track address t (refused_by t a) (number_of a) et ef refl track kept counts' (refused_left t address d track held eh a ej)
      (kept_old kept counts d track address t (refused_by t a) (number_of a) et ef refl
      (λ z. refusal_is t address d track held eh a ej (number_told a Accepted z))) c

  pub told_accepted : (h : Header) → Ok h ≡ judged → length kept ≡ 40 → (p n s : ℕ) (kept' track' : List ℕ) → p ≡ place_of t h → n ≡ h.frames → s ≡ skipped_of t h
      → kept' ≡ put kept 16 (tail_of (followed_by (take_of kept) h)) → track' ≡ laid_by h d p track
      → counts' ≡ (raised_of (tally_of counts) Accepted).counts
      → Tells kept counts address d track 0 (p ∷ n ∷ s ∷ 0 ∷ 0 ∷ 0 ∷ 0 ∷ 0 ∷ []) kept' counts' track'
  told_accepted h ej forty p n s kept' track' ep en es ekept etrack c =
      let k : Take = followed_by t h in
      let f : Followed = record { told = record { answer = Accepted; place = p; frames = h.frames; skipped = s }; take = k } in
      let ef : f ≡ followed_of t address d track = accepted_followed t address d track held eh h ej f (next_accepted t h p ep s k es refl) in
      let laid : track' ≡ followed_track t address d track =
      accepted_laid t address d track held eh h ej track' (next_laid t h p ep d track track' etrack) in
      let stored = kept_new kept counts d track address t f 0 et ef refl forty kept' refl (ekept ∙ rw et) in
      rw en (tells kept counts d track address t f 0 et ef refl track' kept' counts' laid stored c)
