-- What the box answers along a history, in the sender's terms (demand 3: "wherever the packet .. was heard, fitted and was newer than all
-- accepted before it"; document 01, "Numbers the bench sees").
use Rattle.std.specs.Prelude.{ℕ, ◌-◌, ◌≤◌, ◌<◌, ◌≡◌, ◌↔◌}
use Rattle.answers.specs.Numbers.{number_of}
use Rattle.take_rules.specs.declared.Told.{Told}
use Rattle.cutter_rules.specs.Schedule.{Schedule}
use Rattle.demand.specs.Took.{Took, Joins, Fits}

-- what is told: the answer's number, place, frames and skipped count
abbrev pub Tells : ℕ → ℕ → ℕ → ℕ → Told → Type 0
Tells number place frames skipped t = (number_of t.answer ≡ number) × (t.place ≡ place) × (t.frames ≡ frames) × (t.skipped ≡ skipped)

-- packet m is the newest of those accepted
abbrev pub Newest : Took → ℕ → Type 0
Newest A m = A.taken m × ((j : ℕ) → A.taken j → j ≤ m)

-- what is told of an event where packets A were accepted, by a track of R records; is says which packet it is, if it is one
pub record Answered (s : Schedule) (R : ℕ) (A : Took) (is : ℕ → Type 0) (t : Told) : Type 0 where
  -- 0 exactly when it is a packet that joins
  pub joins : number_of t.answer ≡ 0 ↔ ((k : ℕ) × (is k × Joins s R A k))
  -- the first lies at place 0; a later one as far behind the first as the sender has it, and as many were skipped as are between
  pub first : (k : ℕ) → is k → Joins s R A k → ((j : ℕ) → A.taken j → ⊥) → Tells 0 0 (s.count k) 0 t
  pub next : (k k₀ m : ℕ) → is k → Joins s R A k → A.earliest k₀ → Newest A m → Tells 0 (s.from k - s.from k₀) (s.count k) (k - m - 1) t
  -- newer than all accepted, and not fitting: 15
  pub beyond : (k : ℕ) → is k → ((m : ℕ) → A.taken m → m < k) → (Fits s R A k → ⊥) → Tells 15 0 0 0 t
  -- not newer: 14, or 13 if it has more frames than the first
  pub late : (k k₀ m : ℕ) → is k → A.earliest k₀ → A.taken m → k ≤ m → s.count k ≤ s.count k₀ → Tells 14 0 0 0 t
  pub longer : (k k₀ m : ℕ) → is k → A.earliest k₀ → A.taken m → k ≤ m → s.count k₀ < s.count k → Tells 13 0 0 0 t
  -- no packet of the sender's: a refusal, by the rules of following
  pub other : ((k : ℕ) → is k → ⊥) → (number_of t.answer ≡ 0 → ⊥) × Tells (number_of t.answer) 0 0 0 t
