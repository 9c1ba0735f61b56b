-- Which packets a take accepts, said of the history of packet numbers alone: no counter, no place and no take is in this file.
use Rattle.std.specs.Prelude.{ℕ, ◌+◌, ◌-◌, ◌≤◌, ◌<◌, ◌⊎◌, List, [], ◌∷◌}
use Rattle.cutter_rules.specs.Schedule.{Schedule}

-- what was accepted so far, and what was accepted first
pub record Took : Type 1 where
  pub taken : ℕ → Type 0
  pub earliest : ℕ → Type 0

-- before any event
abbrev pub nothing : Took
nothing = record { taken = λ j. ⊥; earliest = λ k. ⊥ }

-- a rule by which packets join: where so much was accepted, this packet is accepted next
abbrev pub Joining : Type 1
Joining = Took → ℕ → Type 0

module _ (joins : Joining) where
  -- after one event more; heard says which packet the event is, if it is one
  abbrev pub hears : Took → (ℕ → Type 0) → Took
  hears A heard = record {
    taken = λ j. A.taken j ⊎ (heard j × joins A j);
    earliest = λ k. A.earliest k ⊎ (((m : ℕ) → A.taken m → ⊥) × heard k × joins A k);
  }

  -- after a history, the latest event first
  abbrev pub took_after : List (ℕ → Type 0) → Took
  took_after [] = nothing
  took_after (heard ∷ past) = hears (took_after past) heard

-- ---- the rule of a VBAN take (demand 3: "heard, fitted and was newer than all accepted before it")

-- packet k of a schedule fits in R records, where the packet accepted first, or k itself if there is none, begins at record 0
pub record Fits (s : Schedule) (R : ℕ) (A : Took) (k : ℕ) : Type 0 where
  pub alone : s.count k ≤ R
  pub behind : (k₀ : ℕ) → A.earliest k₀ → (s.from k - s.from k₀) + s.count k ≤ R

-- newer than all accepted before it, and fitting
pub record Joins (s : Schedule) (R : ℕ) (A : Took) (k : ℕ) : Type 0 where
  pub newer : (m : ℕ) → A.taken m → m < k
  pub fits : Fits s R A k
