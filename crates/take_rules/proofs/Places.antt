-- What one packet does to a take, and over every history what a take keeps and where its packets lie.
use mathlib.Core.Path.{◌≡◌, refl, sym, ap, subst, ◌∙◌}
use Rattle.take_rules.specs.declared.Shape.{Shape}
use Rattle.take_rules.specs.declared.Line.{Line}
use mathlib.Core.Bool.{Bool, true, false, not}
use mathlib.Core.List.{List, [], ◌∷◌}
use Prim.Native.Nat.{ℕ, ◌-◌, ◌^◌, ◌≤◌}
use native.Mathlib.Nat.{add-mul}
use native.Mathlib.Omega.{arith}
use lib.Dec.{eqb}
use borrow.Author.Tests.{eqb-true, eqb-false, not-false}
use Rattle.lists.specs.Tables.{choose}
use Rattle.lists.proofs.Tables.{by_test}
use Rattle.answers.specs.declared.Answer.{Answer}
use Rattle.answers.specs.declared.Answer.TheVariants.{Accepted, Name}
use Rattle.answers.specs.Numbers.{number_of}
use Rattle.answers.proofs.Numbers.{number_told}
use Rattle.wire_rules.specs.declared.Header.{Header}
use Rattle.wire_rules.specs.Header.{header_of}
use Rattle.track_rules.specs.Records.{records_held}
use Rattle.take_rules.specs.declared.Who.{Who}
use Rattle.take_rules.specs.declared.Decision.TheVariants.{Ahead, Late}
use Rattle.take_rules.specs.declared.Take.{Take}
use Rattle.take_rules.specs.declared.Opened.{Opened}
use Rattle.take_rules.specs.Take.{open_of, no_take, unbegun}
use Rattle.wire_rules.specs.Names.{good_name}
use Rattle.take_rules.specs.declared.Followed.{Followed}
use Rattle.take_rules.specs.declared.Tally.{Tally}
use Rattle.take_rules.specs.Counter.{newer}
use Rattle.take_rules.specs.Line.{distance, next_for}
use Rattle.take_rules.specs.Follow.{decided, place_of, skipped_of, answer_of, followed_by, shape_of, SameShape, Newer}
use Rattle.take_rules.specs.Box.{Box, Event, opened, tells_of, follows, after}
use Rattle.take_rules.specs.Places.{accepted_after, first_of, step_of, summed_place, summed_skipped, KeepsFrom, Keeps}
use Rattle.take_rules.proofs.Wraps.{newer_exactly}
use Rattle.take_rules.proofs.Exactly.{shape_kept, late_once, accepted_passed, told_answer, follow_refused, follow_accepted}

-- ---- one packet

module _ (t : Take) (h : Header) where
  -- the first fixes rate, channels, type and N, lies at place 0 and skips none
  pub first_fixes : t.begun ≡ false
      → (followed_by t h ≡ record { who = t.who; begun = true; shape = shape_of h; line = record { n = h.frames; newest = h.counter; place = 0 } })
      × (place_of t h ≡ 0) × (skipped_of t h ≡ 0)
  first_fixes e = (rw e, rw e, rw e)

  -- once begun they stay, and so do the name and the address
  pub begun_keeps : t.begun ≡ true → ((followed_by t h).who ≡ t.who) × ((followed_by t h).shape ≡ t.shape) × ((followed_by t h).line.n ≡ t.line.n)
  begun_keeps e = (refl, rw e, rw e (stays (newer 32 (distance t.line h.counter h.frames))))
    where
      stays : (b : Bool) → (next_for t.line h.counter h.frames (choose b Ahead Late)).n ≡ t.line.n
      stays true = refl
      stays false = refl

  -- a packet that is newer goes ahead: d x N further on than the newest
  ahead : t.begun ≡ true → newer 32 (distance t.line h.counter h.frames) ≡ true → decided t h ≡ Ahead
  ahead e n = rw (e, n)

-- a packet that a begun take accepts, whatever the take's name: newer, and of the take's shape
module _ (t : Take) (address : ℕ) (d : List ℕ) (held : ℕ) (a : answer_of t address d held ≡ Accepted) (b : t.begun ≡ true) where
  accepted_newer : Newer t (header_of d)
  accepted_newer =
      let m = distance t.line (header_of d).counter (header_of d).frames in
      let n : not (newer 32 m) ≡ false = rw (late_once t (header_of d), b) at ((accepted_passed t address d held a).not_late) in
      let e = (newer_exactly 32 m).0 (not-false _ n) in
      (e.0, omega (arith, e.1))

  accepted_alike : SameShape t (header_of d)
  accepted_alike = shape_kept t (header_of d) (accepted_passed t address d held a).unchanged b

-- ---- every history

module _ (who : Who) where
  -- an accepted packet: where it lies, and what the take keeps then
  module _ (t : Take) (h : Header) where
    abbrev Next : List Header → Type 0
    Next past = (place_of t h ≡ summed_place h past) × (skipped_of t h ≡ summed_skipped h past) × Keeps who (h ∷ past) (followed_by t h)

    next : (past : List Header) → Keeps who past t → (t.begun ≡ true → newer 32 (distance t.line h.counter h.frames) ≡ true) → Next past
    next [] k n =
        let f = first_fixes t h k.1 in
        let z : summed_place h [] ≡ 0 = omega arith in
        (f.1 ∙ sym z, f.2 ∙ omega arith, (k.0, subst (KeepsFrom h []) (sym f.0) (record { begun = refl; shape = refl; line = rw z })))
    next (g ∷ past) k n =
        let b = k.1.begun in
        let a = ahead t h b (n b) in
        let p : place_of t h ≡ summed_place h (g ∷ past) = rw a (rw k.1.line (sym (rw add-mul (omega arith)))) in (
          p,
          rw a (rw k.1.line),
          (
            k.0,
            record {
              begun = refl;
              shape = (begun_keeps t h b).1 ∙ k.1.shape;
              line = rw a (cc (p, k.1.line));
            },
          ),
        )

  -- one event more: refused it leaves what is kept, accepted it is told where the rule puts it
  module _ (x : Box) (e : Event) (past : List Header) (k : Keeps who past x.take) where
    abbrev h : Header
    h = header_of e.datagram

    abbrev answer : Answer
    answer = answer_of x.take e.address e.datagram (records_held x.track)

    is_newer : answer ≡ Accepted → x.take.begun ≡ true → Newer x.take h
    is_newer = accepted_newer x.take e.address e.datagram (records_held x.track)

    accepted : answer ≡ Accepted → Next x.take h past
    accepted a = next x.take h past k (λ b. let n = is_newer a b in (newer_exactly 32 _).1 (n.0, omega (arith, n.1)))

    pub told : answer ≡ Accepted → tells_of x e ≡ record { answer = Accepted; place = summed_place h past; frames = h.frames; skipped = summed_skipped h past }
    told a =
        let n = accepted a in
        ap (λ (f : Followed). f.told) (follow_accepted x.take e.address e.datagram x.track a) ∙ rw (n.0, n.1)

    keeps_next : Keeps who (choose (eqb (number_of (tells_of x e).answer) 0) (h ∷ past) past) (follows x e).take
    keeps_next =
        rw (told_answer x.take e.address e.datagram x.track)
        (by_test (λ b. eqb (number_of answer) 0 ≡ b → Keeps who (choose b (h ∷ past) past) (follows x e).take) (eqb (number_of answer) 0)
        (λ t p. let a = number_told answer Accepted (eqb-true _ _ p) in
        rw (follow_accepted x.take e.address e.datagram x.track a) (accepted a).2)
        (λ t p. rw (follow_refused x.take e.address e.datagram x.track (λ a. eqb-false _ _ p (ap number_of a))) k)
        refl)

-- a box whose take has not begun, as opening gives it
module _ (b : Box) (fresh : b.take.begun ≡ false) where
  -- WHAT A TAKE KEEPS, after every history
  pub keeps : (past : List Event) → Keeps b.take.who (accepted_after b past) (after b past).take
  keeps [] = (refl, fresh)
  keeps (e ∷ past) = keeps_next b.take.who (after b past) e (accepted_after b past) (keeps past)

  -- PLACES: an accepted packet is told its place, its frames and the packets skipped by document 01's rule, summed up from the first
  module _ (past : List Event) (e : Event) (zero : number_of (tells_of (after b past) e).answer ≡ 0) where
    accepts : answer_of (after b past).take e.address e.datagram (records_held (after b past).track) ≡ Accepted
    accepts = let x = after b past in sym (told_answer x.take e.address e.datagram x.track) ∙ number_told _ Accepted zero

    pub placed : let h = header_of e.datagram in let before = accepted_after b past in
        tells_of (after b past) e ≡ record { answer = Accepted; place = summed_place h before; frames = h.frames; skipped = summed_skipped h before }
    placed = told b.take.who (after b past) e (accepted_after b past) (keeps past) accepts

    -- and it is 1 to 2^31 - 1 steps on from the one accepted before it
    pub steps_on : (g : Header) (before : List Header) → accepted_after b past ≡ g ∷ before → let d = step_of (header_of e.datagram) (g ∷ before) in
        (1 ≤ d) × (d ≤ 2 ^ 31 - 1)
    steps_on g before q =
        let k : KeepsFrom g before (after b past).take = (rw q at (keeps past)).1 in
        let n = is_newer b.take.who (after b past) e (accepted_after b past) (keeps past) accepts k.begun in
        rw k.line at n

    -- and has the first one's rate, channels and type, and no more frames
    pub alike_on : (g : Header) (before : List Header) → accepted_after b past ≡ g ∷ before → let h = header_of e.datagram in let f = first_of g before in
        (h.rate ≡ f.rate) × (h.channels ≡ f.channels) × (h.format ≡ f.format) × (h.frames ≤ f.frames)
    alike_on g before q =
        let k : KeepsFrom g before (after b past).take = (rw q at (keeps past)).1 in
        let x = after b past in
        let s = accepted_alike x.take e.address e.datagram (records_held x.track) accepts k.begun in (
          s.same_rate ∙ ap (λ (y : Shape). y.rate) k.shape,
          s.same_channels ∙ ap (λ (y : Shape). y.channels) k.shape,
          s.same_format ∙ ap (λ (y : Shape). y.format) k.shape,
          subst (λ (y : Line). (header_of e.datagram).frames ≤ y.n) k.line s.no_longer,
        )

-- opening gives such a box, whatever the name
pub opened_fresh : (name : List ℕ) (address : ℕ) (tally : Tally) (track : List ℕ) → (opened name address tally track).take.begun ≡ false
unfolding open_of
opened_fresh name address tally track =
    by_test (λ b. (choose {A = Opened} b (record { answer = Accepted; take = unbegun name address }) (record { answer = Name; take = no_take })).take.begun ≡ false)
    (good_name name) (λ e. refl) (λ e. refl)
