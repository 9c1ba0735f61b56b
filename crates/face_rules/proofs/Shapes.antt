-- What tashmirok_shape tells of a take that tashmirok_open and tashmirok_follow left.
use mathlib.Core.Path.{◌≡◌, refl, sym, ap, ◌∙◌}
use mathlib.Core.Logic.{◌↔◌}
use mathlib.Core.Bool.{Bool, true, false, not, ◌&&◌}
use mathlib.Core.List.{List, [], ◌∷◌}
use Prim.Native.Nat.{ℕ, ◌^◌, ◌≤◌, ◌<◌}
use native.Mathlib.Omega.{arith}
use lib.Dec.{eqb}
use lib.ListN.{length, get_or, replicate, length-take}
use Rattle.lists.specs.Lists.{byte}
use Rattle.lists.specs.Tables.{choose}
use Rattle.lists.proofs.Tables.{by_test, true_false}
use Rattle.answers.specs.declared.Answer.{Answer}
use Rattle.answers.specs.declared.Answer.TheVariants.{Accepted, State}
use Rattle.answers.specs.Numbers.{number_of}
use Rattle.answers.proofs.Numbers.{number_told}
use Rattle.wire_rules.specs.declared.Header.{Header}
use Rattle.wire_rules.specs.Header.{header_of}
use Rattle.track_rules.specs.Records.{records_held}
use Rattle.take_rules.specs.declared.Decision.TheVariants.{Ahead, Late}
use Rattle.take_rules.specs.declared.Take.{Take}
use Rattle.take_rules.specs.Counter.{newer}
use Rattle.take_rules.specs.Line.{distance, next_for}
use Rattle.take_rules.specs.Take.{bad_state, GoodState, open_of}
use Rattle.take_rules.specs.Follow.{answer_of, followed_by, followed_of, Followable}
use Rattle.take_rules.specs.Tally.{tallied_of}
use Rattle.take_rules.specs.Box.{Event}
use Rattle.take_rules.proofs.Exactly.{state_by, by_state, follow_accepted_exactly, by_name}
use Rattle.kept.specs.Kept.{take_bytes, take_of}
use Rattle.kept.proofs.Given.{kept_opened, kept_followed}
use Rattle.firmware.specs.Face.{state_for, shape_fixed, shape_for}
use Rattle.face_rules.specs.History.{Kept, bytes_opened, kept_of, heard_from, told_by, left_by}

-- ---- any bytes

-- a take that bytes are has a name of 16 bytes at most
name_short : (kept : List ℕ) → length (take_of kept).who.name ≤ 16
unfolding take_of
name_short kept = rw (length-take 16 kept) (omega arith)

-- 0 exactly where the take is in good state
pub state_exactly : (kept : List ℕ) → number_of (state_for kept) ≡ 0 ↔ GoodState (take_of kept)
state_exactly kept =
    let t = take_of kept in
    by_test (λ b. bad_state t ≡ b → number_of (choose b State Accepted) ≡ 0 ↔ GoodState t) (bad_state t)
    (λ q p. (λ e. absurd (omega (arith, e)), λ g. absurd (true_false (sym p ∙ by_state t (name_short kept) g))))
    (λ q p. (λ e. state_by t (name_short kept) p, λ g. refl)) refl

no_shape : (b : Bool) (l : List ℕ) → choose (b && false) l (replicate 4 0) ≡ replicate 4 0
no_shape true l = refl
no_shape false l = refl

unbegun_zeros : (kept : List ℕ) → (take_of kept).begun ≡ false → shape_for kept ≡ replicate 4 0
unbegun_zeros kept e =
    let t = take_of kept in
    ap (λ (b : Bool). choose (not (bad_state t) && b) (shape_fixed t) (replicate 4 0)) e ∙ no_shape (not (bad_state t)) (shape_fixed t)

-- a take in good state by its bytes
module _ (kept : List ℕ) (good : GoodState (take_of kept)) where
  begun_fixed : (take_of kept).begun ≡ true → shape_for kept ≡ shape_fixed (take_of kept)
  begun_fixed b = rw (by_state (take_of kept) (name_short kept) good, b)

  -- N is 0 exactly where it has not begun
  pub shape_begun_exactly : get_or (shape_for kept) 3 0 ≡ 0 ↔ (take_of kept).begun ≡ false
  shape_begun_exactly =
      by_test (λ b. (take_of kept).begun ≡ b → get_or (shape_for kept) 3 0 ≡ 0 ↔ b ≡ false) (take_of kept).begun
      (λ q p. (
        (λ z.
            let n : (take_of kept).line.n ≡ 0 = sym (ap (λ (l : List ℕ). get_or l 3 0) (begun_fixed p)) ∙ z in
            absurd (omega (arith, n, (good.lined p).frames_few))),
        λ e. absurd (true_false e),
      ))
      (λ q p. (λ z. refl, λ e. ap (λ (l : List ℕ). get_or l 3 0) (unbegun_zeros kept p))) refl

-- ---- opened, whatever the name

opened_fresh : (name : List ℕ) (address : ℕ) → length name ≤ 16 → (open_of name address).take.begun ≡ false
opened_fresh name address short = by_name name address short (λ r. r.take.begun ≡ false) (λ g. refl) (λ g. refl)

pub shape_opened : (name : List ℕ) (address : ℕ) → length name ≤ 16 → address < 2 ^ 32 → shape_for (bytes_opened name address) ≡ replicate 4 0
shape_opened name address short fits =
    unbegun_zeros (bytes_opened name address)
    (ap (λ (t : Take). t.begun) (kept_opened name address short fits) ∙ opened_fresh name address short)

-- ---- followed, whatever the bytes handed in

-- what is told of a take itself
abbrev told_of : Take → List ℕ
told_of t = choose (not (bad_state t) && t.begun) (shape_fixed t) (replicate 4 0)

-- once begun, what the first packet fixed stays
stays : (t : Take) (h : Header) → t.begun ≡ true → ((followed_by t h).shape ≡ t.shape) × ((followed_by t h).line.n ≡ t.line.n)
stays t h b = (rw b, rw b (same (newer 32 (distance t.line h.counter h.frames))))
  where
    same : (a : Bool) → (next_for t.line h.counter h.frames (choose a Ahead Late)).n ≡ t.line.n
    same true = refl
    same false = refl

-- and no packet changes what is told of it
followed_stays : (t : Take) (h : Header) → t.begun ≡ true → told_of (followed_by t h) ≡ told_of t
followed_stays t h b = let k = stays t h b in rw (k.0, k.1, b)

module _ (kept counts d track : List ℕ) (address : ℕ) (forty : length kept ≡ 40) (bytes : (i : ℕ) → byte kept i < 256)
    (heard : (i : ℕ) → byte d i < 256) (room : length track < 2 ^ 64) where
  abbrev t : Take
  t = take_of kept

  abbrev h : Header
  h = header_of d

  abbrev answer : Answer
  answer = answer_of t address d (records_held track)

  abbrev k : Kept
  k = kept_of kept counts track

  abbrev e : Event
  e = heard_from address d

  -- the bytes after the call
  abbrev next : List ℕ
  next = (left_by k e).take

  next_take : take_of next ≡ (followed_of t address d track).take
  unfolding tallied_of followed_of
  next_take =
      by_test (λ b. let k = choose b (followed_by t h) t in take_of (take_bytes k) ≡ k → take_of (choose b (take_bytes k) kept) ≡ k) (eqb (number_of answer) 0)
      (λ q e. e) (λ q e. refl) (kept_followed kept d track address forty bytes heard room)

  next_told : shape_for next ≡ told_of (followed_of t address d track).take
  next_told = ap told_of next_take

  -- the first packet's good state
  fixed_good : t.begun ≡ false → Followable t address d (records_held track) → GoodState (followed_by t h)
  fixed_good b f = record {
    named = f.good_state.named;
    shaped = λ _. rw b (record { channels_few = (omega arith, f.channels_few); rated = f.readable.rated; typed = f.readable.typed });
    lined = λ _. rw b (record { frames_few = (omega arith, omega (arith, heard 5)) });
  }

  -- after a first packet that is accepted, it is that packet's
  pub shape_first : t.begun ≡ false → number_of (told_by k e).answer ≡ 0
      → shape_for next ≡ h.rate ∷ h.channels ∷ h.format ∷ h.frames ∷ []
  unfolding tallied_of followed_of
  shape_first b z =
      let a : answer ≡ Accepted = number_told answer Accepted z in
      let f = (follow_accepted_exactly t address d (records_held track) (name_short kept)).0 a in
      let good = by_state (followed_by t h) (name_short kept) (fixed_good b f) in
      next_told ∙ rw (a, good, b)

  -- once begun it stays, whatever the answer
  pub shape_stays : t.begun ≡ true → shape_for next ≡ shape_for kept
  unfolding followed_of
  shape_stays b =
      next_told
      ∙ by_test (λ c. told_of (choose c (followed_by t h) t) ≡ told_of t) (eqb (number_of answer) 0) (λ q. followed_stays t h b) (λ q. refl)
