-- Following and opening answer as the paper's rules say, and what comes with the answer.
use mathlib.Core.Path.{◌≡◌, refl, sym, ap, ◌∙◌}
use mathlib.Core.Logic.{◌↔◌, inr}
use mathlib.Core.Bool.{Bool, true, false, not, ◌&&◌}
use mathlib.Core.List.{List, [], ◌∷◌}
use Prim.Native.Nat.{ℕ, ◌+◌, ◌≤◌}
use native.Mathlib.Omega.{arith}
use lib.Dec.{ltb}
use lib.ListN.{length, replicate}
use borrow.Author.Tests.{ltb-false, le-ltb, eq-eqb, not-false}
use Rattle.lists.specs.Tables.{choose, row, any, unlike, outside, NoneRefuses}
use Rattle.lists.specs.Rules.{rule, numbers_of, AllHold, FirstBroken}
use Rattle.lists.proofs.Tables.{by_test, true_false, like_by, none_holds, inside_by, by_inside, none_says, passes_exactly}
use Rattle.lists.proofs.Rules.{Judges, judged, judged_less, none_answers, all_hold_exactly, first_broken_exactly}
use Rattle.answers.specs.declared.Answer.{Answer}
use Rattle.answers.specs.declared.Answer.TheVariants.{Accepted, Name, OtherStream, State}
use Rattle.answers.specs.Numbers.{number_of}
use Rattle.answers.proofs.Numbers.{refusal_number}
use Rattle.formats.specs.Formats.{MayRead, MaySend, may_read}
use Rattle.formats.proofs.Types.{read_by, by_read, sent_read}
use Rattle.wire_rules.specs.declared.Header.{Header}
use Rattle.wire_rules.specs.Names.{good_name, kept_name, same_name, GoodName}
use Rattle.wire_rules.specs.Header.{header_size, name_field, header_of, data_size}
use Rattle.wire_rules.specs.Read.{Readable}
use Rattle.wire_rules.specs.Write.{GoodForm}
use Rattle.wire_rules.proofs.Names.{good_exactly, bad_exactly, same_exactly, zeros_bad}
use Rattle.wire_rules.proofs.Reading.{front_judges, audio_judges}
use Rattle.track_rules.specs.Records.{records_held, cleared_of}
use Rattle.take_rules.specs.declared.Who.{Who}
use Rattle.take_rules.specs.declared.Shape.{Shape}
use Rattle.take_rules.specs.declared.Line.{Line}
use Rattle.take_rules.specs.declared.Decision.TheVariants.{Opening, Ahead, Late}
use Rattle.take_rules.specs.declared.Take.{Take}
use Rattle.take_rules.specs.declared.Opened.{Opened}
use Rattle.take_rules.specs.declared.Tally.{Tally}
use Rattle.take_rules.specs.Counter.{newer}
use Rattle.take_rules.specs.Take.{bad_shape, bad_line, bad_state, GoodShape, GoodLine, GoodState, no_take, unbegun, open_of, opened_track}
use Rattle.take_rules.specs.Line.{is_late, distance}
use Rattle.take_rules.specs.Follow.{place_of, skipped_of, other_stream, other_shape, changed_shape, late, take_rows, packet_rows, follow_rows, answer_of, followed_of, followed_by, laid_by, followed_track, OurStream, SameShape, Newer, line_rules, take_rules, packet_rules, follow_rules, Followable}
use Rattle.take_rules.specs.Tally.{raised_of, tallied_of}
use Rattle.take_rules.proofs.Wraps.{newer_exactly}

-- ---- tests that hold back once begun

once_by : {P : Type 0} (b x : Bool) → (x ≡ false → P) → b && x ≡ false → b ≡ true → P
once_by true x f e t = f e
once_by false x f e t = absurd (true_false (sym t))

by_once : {P : Type 0} (b x : Bool) → (P → x ≡ false) → (b ≡ true → P) → b && x ≡ false
by_once true x f g = f (g refl)
by_once false x f g = refl

-- ---- each row judges its rule

module _ (s : Shape) where
  shape_by : bad_shape s ≡ false → GoodShape s
  shape_by e =
      let c = none_holds (outside 8 s.channels ∷ ltb 20 s.rate ∷ not (may_read s.format) ∷ []) e in
      record { channels_few = inside_by 8 s.channels c.0; rated = ltb-false _ _ c.1.0; typed = read_by _ (not-false _ c.1.1.0) }

  by_shape : GoodShape s → bad_shape s ≡ false
  by_shape g = rw (by_inside 8 s.channels g.channels_few, le-ltb 20 s.rate g.rated, by_read s.format g.typed)

module _ (l : Line) where
  line_by : bad_line l ≡ false → GoodLine l
  line_by e = record { frames_few = inside_by 256 l.n e }

  by_line : GoodLine l → bad_line l ≡ false
  by_line g = by_inside 256 l.n g.frames_few

module _ (t : Take) (short : length t.who.name ≤ 16) where
  abbrev bad : Bool
  bad = any (bad_shape t.shape ∷ bad_line t.line ∷ [])

  kept_by : bad ≡ false → GoodShape t.shape × GoodLine t.line
  kept_by e = let c = none_holds (bad_shape t.shape ∷ bad_line t.line ∷ []) e in (shape_by t.shape c.0, line_by t.line c.1.0)

  by_kept : GoodShape t.shape × GoodLine t.line → bad ≡ false
  by_kept g = rw (by_shape t.shape g.0, by_line t.line g.1)

  pub state_by : bad_state t ≡ false → GoodState t
  state_by e =
      let c = none_holds (not (good_name t.who.name) ∷ (t.begun && bad) ∷ []) e in
      record {
        named = (good_exactly t.who.name short).0 (not-false _ c.0);
        shaped = λ b. (once_by t.begun bad kept_by c.1.0 b).0;
        lined = λ b. (once_by t.begun bad kept_by c.1.0 b).1;
      }

  pub by_state : GoodState t → bad_state t ≡ false
  by_state g = rw ((good_exactly t.who.name short).1 g.named, by_once t.begun bad by_kept (λ b. (g.shaped b, g.lined b)))

module _ (who : Who) (address : ℕ) (d : List ℕ) where
  ours_by : other_stream who address d ≡ false → OurStream who address d
  ours_by e =
      let c = none_holds (not (same_name who.name (name_field d)) ∷ unlike address who.address ∷ []) e in
      record { our_name = (same_exactly who.name (name_field d)).0 (not-false _ c.0); our_address = like_by _ _ c.1.0 }

  by_ours : OurStream who address d → other_stream who address d ≡ false
  by_ours o = rw ((same_exactly who.name (name_field d)).1 o.our_name, eq-eqb address who.address o.our_address)

module _ (t : Take) (h : Header) where
  abbrev s : Shape
  s = t.shape

  same_by : any (other_shape s h ∷ ltb t.line.n h.frames ∷ []) ≡ false → SameShape t h
  same_by e =
      let c = none_holds (other_shape s h ∷ ltb t.line.n h.frames ∷ []) e in
      let k = none_holds (unlike h.rate s.rate ∷ unlike h.channels s.channels ∷ unlike h.format s.format ∷ []) c.0 in
      record {
        same_rate = like_by _ _ k.0;
        same_channels = like_by _ _ k.1.0;
        same_format = like_by _ _ k.1.1.0;
        no_longer = ltb-false _ _ c.1.0;
      }

  pub shape_kept : changed_shape t h ≡ false → t.begun ≡ true → SameShape t h
  shape_kept = once_by t.begun _ same_by

  by_same : SameShape t h → any (other_shape s h ∷ ltb t.line.n h.frames ∷ []) ≡ false
  by_same e =
      let r = eq-eqb h.rate s.rate e.same_rate in
      let c = eq-eqb h.channels s.channels e.same_channels in
      let f = eq-eqb h.format s.format e.same_format in
      rw (r, c, f, le-ltb t.line.n h.frames e.no_longer)

  abbrev d : ℕ
  d = distance t.line h.counter h.frames

  -- late is what is not newer, once begun
  pub late_once : late t h ≡ t.begun && not (newer 32 d)
  late_once = by_cases t.begun (newer 32 d)
    where
      by_cases : (b n : Bool) → is_late (choose b (choose n Ahead Late) Opening) ≡ b && not n
      by_cases true true = refl
      by_cases true false = refl
      by_cases false n = refl

  newer_by : not (newer 32 d) ≡ false → Newer t h
  newer_by e = let n = (newer_exactly 32 d).0 (not-false _ e) in (n.0, omega (arith, n.1))

  by_newer : Newer t h → not (newer 32 d) ≡ false
  by_newer n = let e = (newer_exactly 32 d).1 (n.0, omega (arith, n.1)) in rw e

-- ---- following

module _ (t : Take) (address : ℕ) (d : List ℕ) (held : ℕ) (short : length t.who.name ≤ 16) where
  abbrev h : Header
  h = header_of d

  take_judges : Judges (take_rows t h held) (take_rules t h held)
  take_judges =
      judged_less 8 h.channels
      (judged (changed_shape t h) (by_once t.begun _ (by_same t h)) (shape_kept t h)
      (judged (late t h) (λ n. late_once t h ∙ by_once t.begun _ (by_newer t h) n)
      (λ e. once_by t.begun _ (newer_by t h) (sym (late_once t h) ∙ e))
      (judged_less held (place_of t h + h.frames) tt)))

  packet_judges : Judges (packet_rows t d held) (packet_rules t d held)
  packet_judges = audio_judges d (take_rows t h held) (take_rules t h held) take_judges

  stream_judges : Judges (row OtherStream (other_stream t.who address d) ∷ packet_rows t d held)
      (rule OtherStream (OurStream t.who address d) (packet_rules t d held))
  stream_judges = judged (other_stream t.who address d) (by_ours t.who address d) (ours_by t.who address d) packet_judges

  judges : Judges (follow_rows t address d held) (follow_rules t address d held)
  judges =
      judged (bad_state t) (by_state t short) (state_by t short)
      (front_judges d (row OtherStream (other_stream t.who address d) ∷ packet_rows t d held)
      (rule OtherStream (OurStream t.who address d) (packet_rules t d held)) stream_judges)

  -- the table's numbers, in its order
  pub follow_numbers : numbers_of number_of (follow_rules t address d held)
      ≡ 16 ∷ 1 ∷ 2 ∷ 3 ∷ 4 ∷ 5 ∷ 6 ∷ 7 ∷ 8 ∷ 9 ∷ 10 ∷ 11 ∷ 12 ∷ 13 ∷ 14 ∷ 15 ∷ []
  follow_numbers = refl

  all_hold : answer_of t address d held ≡ Accepted ↔ AllHold (follow_rules t address d held)
  unfolding answer_of
  all_hold =
      all_hold_exactly Accepted (follow_rows t address d held) (follow_rules t address d held) judges
      (none_answers Accepted (follow_rows t address d held) (follow_rules t address d held) judges (none_says Accepted number_of (follow_rows t address d held) tt))

  -- accepted exactly when every rule holds
  pub follow_accepted_exactly : answer_of t address d held ≡ Accepted ↔ Followable t address d held
  follow_accepted_exactly = (
    (λ e.
        let a = all_hold.0 e in
        let f = a.1 in
        let o = f.1.1.1.1 in
        let u = o.1 in
        let k = u.1.1.1.1.1.1 in
        record {
          good_state = a.0;
          readable = record {
            not_short = f.0;
            not_long = f.1.0;
            marked = f.1.1.0;
            named = f.1.1.1.0;
            audio = u.0;
            pcm = u.1.0;
            unreserved = u.1.1.0;
            rated = u.1.1.1.0;
            typed = u.1.1.1.1.0;
            exact = u.1.1.1.1.1.0;
          };
          ours = o.0;
          channels_few = k.0;
          same_shape = k.1.0;
          is_newer = k.1.1.0;
          fits = k.1.1.1.0;
        }),
    (λ f.
        let r = f.readable in
        all_hold.1 (
          f.good_state,
          (
            r.not_short,
            (
              r.not_long,
              (
                r.marked,
                (
                  r.named,
                  (
                    f.ours,
                    (
                      r.audio,
                      (
                        r.pcm,
                        (
                          r.unreserved,
                          (
                            r.rated,
                            (
                              r.typed,
                              (r.exact, (f.channels_few, (f.same_shape, (f.is_newer, (f.fits, tt))))),
                            ),
                          ),
                        ),
                      ),
                    ),
                  ),
                ),
              ),
            ),
          ),
        )),
  )

  -- each number exactly when its rule is broken and all before it hold
  pub follow_refused_exactly : (a : Answer) → (a ≡ Accepted → ⊥) → answer_of t address d held ≡ a ↔ FirstBroken (follow_rules t address d held) a
  unfolding answer_of
  follow_refused_exactly = first_broken_exactly Accepted (follow_rows t address d held) (follow_rules t address d held) judges

  -- where the take is sound, and the datagram one of its stream that reading accepts, the rules left are 13 to 15
  pub line_broken : GoodState t → Readable d → OurStream t.who address d → h.channels ≤ 8 → (a : Answer) → (a ≡ Accepted → ⊥)
      → FirstBroken (line_rules t h held) a → answer_of t address d held ≡ a
  line_broken g r o c a z f =
      let audio : FirstBroken (packet_rules t d held) a =
      inr (r.audio, inr (r.pcm, inr (r.unreserved, inr (r.rated, inr (r.typed, inr (r.exact, inr (c, f))))))) in
      (follow_refused_exactly a z).1 (inr (g, inr (r.not_short, inr (r.not_long, inr (r.marked, inr (r.named, inr (o, audio)))))))

-- what rows 11 to 15 let pass, whatever the take's name
pub record Passed (t : Take) (d : List ℕ) (held : ℕ) : Type 0 where
  pub typed : MayRead (header_of d).format
  pub exact : length d ≡ header_size + data_size (header_of d)
  pub channels_few : (header_of d).channels ≤ 8
  pub unchanged : changed_shape t (header_of d) ≡ false
  pub not_late : late t (header_of d) ≡ false
  pub fits : place_of t (header_of d) + (header_of d).frames ≤ held

pub accepted_passed : (t : Take) (address : ℕ) (d : List ℕ) (held : ℕ) → answer_of t address d held ≡ Accepted → Passed t d held
unfolding answer_of
accepted_passed t address d held e =
    let rows = follow_rows t address d held in
    let p : NoneRefuses rows = (passes_exactly Accepted rows (none_says Accepted number_of rows tt)).0 e in
    let y = p.1.1.1.1.1.1.1.1.1.1 in
    let r = y.1 in
    record {
      typed = read_by _ (not-false _ y.0);
      exact = like_by _ _ r.0;
      channels_few = ltb-false _ _ r.1.0;
      unchanged = r.1.1.0;
      not_late = r.1.1.1.0;
      fits = ltb-false _ _ r.1.1.1.1.0;
    }

module _ (t : Take) (address : ℕ) (d track : List ℕ) where
  abbrev answer : Answer
  answer = answer_of t address d (records_held track)

  -- what is told is that answer
  pub told_answer : (followed_of t address d track).told.answer ≡ answer
  unfolding followed_of
  told_answer = refl

  -- a refusal leaves the track
  pub refused_track : (answer ≡ Accepted → ⊥) → followed_track t address d track ≡ track
  unfolding followed_track
  refused_track z = rw (refusal_number answer z)

  -- acceptance lays the packet's records at its place
  pub follow_track : answer ≡ Accepted → followed_track t address d track ≡ laid_by (header_of d) d (place_of t (header_of d)) track
  unfolding followed_track
  follow_track e = rw e

  -- a refusal gives its number and zeros, and leaves the take
  pub follow_refused : (answer ≡ Accepted → ⊥)
      → followed_of t address d track ≡ record { told = record { answer = answer; place = 0; frames = 0; skipped = 0 }; take = t }
  unfolding followed_of
  follow_refused z = rw (refusal_number answer z)

  -- acceptance answers place, frames and skipped count
  pub follow_accepted : answer ≡ Accepted → let h = header_of d in
      followed_of t address d track
      ≡ record { told = record { answer = Accepted; place = place_of t h; frames = h.frames; skipped = skipped_of t h }; take = followed_by t h }
  unfolding followed_of
  follow_accepted e = rw e

  -- the tally moves either way, by the answer
  pub follow_tallied : (tally : Tally) → tallied_of t tally address d track ≡ record { followed = followed_of t address d track; tally = raised_of tally answer }
  unfolding tallied_of followed_of
  follow_tallied tally = refl

-- an all-zero take answers 16
pub all_zero : (address : ℕ) (d : List ℕ) (held : ℕ) → answer_of no_take address d held ≡ State
unfolding answer_of
all_zero address d held = rw (zeros_bad 16)

-- ---- opening

name_refuses : Name ≡ Accepted → ⊥
name_refuses e = omega (arith, ap number_of e)

module _ (name : List ℕ) (address : ℕ) (short : length name ≤ 16) where
  -- by the check, and nothing else
  pub by_name : (P : Opened → Type 0) → (GoodName name → P (record { answer = Accepted; take = unbegun name address }))
      → ((GoodName name → ⊥) → P (record { answer = Name; take = no_take })) → P (open_of name address)
  unfolding open_of
  by_name P f g =
      by_test (λ b. good_name name ≡ b → P (choose b (record { answer = Accepted; take = unbegun name address }) (record { answer = Name; take = no_take })))
      (good_name name) (λ q p. f ((good_exactly name short).0 p)) (λ q p. g ((bad_exactly name short).0 p)) refl

  -- opening refuses exactly when its check does
  pub open_accepted_exactly : (open_of name address).answer ≡ Accepted ↔ GoodName name
  open_accepted_exactly =
      by_name (λ r. r.answer ≡ Accepted ↔ GoodName name) (λ g. (λ e. g, λ x. refl)) (λ g. (λ e. absurd (name_refuses e), λ x. absurd (g x)))

  pub open_refused_exactly : (open_of name address).answer ≡ Name ↔ (GoodName name → ⊥)
  open_refused_exactly =
      by_name (λ r. r.answer ≡ Name ↔ (GoodName name → ⊥)) (λ g. (λ e. absurd (name_refuses (sym e)), λ x. absurd (x g))) (λ g. (λ e. g, λ x. refl))

  -- a refusal gives the all-zero take and leaves the track
  pub open_refused : (GoodName name → ⊥) → (track : List ℕ)
      → (open_of name address ≡ record { answer = Name; take = no_take }) × (opened_track name track ≡ track)
  unfolding open_of opened_track
  open_refused z track = let b = (bad_exactly name short).1 z in (rw b, rw b)

  pub open_accepted : GoodName name → (track : List ℕ)
      → (open_of name address ≡ record { answer = Accepted; take = unbegun name address }) × (opened_track name track ≡ cleared_of track)
  unfolding open_of opened_track
  open_accepted g track = let b = (good_exactly name short).1 g in (rw b, rw b)

  -- the takes that opening gives, written out
  pub opened_take : GoodName name → (open_of name address).take ≡ record {
    who = record { name = kept_name name; address = address };
    begun = false;
    shape = record { rate = 0; channels = 0; format = 0 };
    line = record { n = 0; newest = 0; place = 0 };
  }
  opened_take g = ap (λ (o : Opened). o.take) (open_accepted g []).0

  pub closed_take : (GoodName name → ⊥) → (open_of name address).take ≡ record {
    who = record { name = replicate 16 0; address = 0 };
    begun = false;
    shape = record { rate = 0; channels = 0; format = 0 };
    line = record { n = 0; newest = 0; place = 0 };
  }
  closed_take z = ap (λ (o : Opened). o.take) (open_refused z []).0

-- 16 asks of a begun take what 20 asks of a header of that shape, and 8 channels at most
abbrev header_of_take : Take → Header
header_of_take t = record {
  rate = t.shape.rate;
  frames = t.line.n;
  channels = t.shape.channels;
  format = t.shape.format;
  name = t.who.name;
  counter = t.line.newest;
}

pub state_formed : (t : Take) → t.begun ≡ true → MaySend t.shape.format → GoodState t ↔ (GoodForm (header_of_take t) × (t.shape.channels ≤ 8))
state_formed t b m = (
  (λ g.
      let s = g.shaped b in
      let n = (g.lined b).frames_few in
      let c = s.channels_few in
      (record { rated = s.rated; typed = m; frames_few = n; channels_few = (c.0, omega (arith, c.1)); named = g.named }, c.1)),
  (λ f. record {
    named = f.0.named;
    shaped = λ _. record { channels_few = (f.0.channels_few.0, f.1); rated = f.0.rated; typed = sent_read _ f.0.typed };
    lined = λ _. record { frames_few = f.0.frames_few };
  }),
)
