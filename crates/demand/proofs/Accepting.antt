-- What was accepted, by the history of packet numbers alone and by any rule: it is settled, and there is one first packet.
use mathlib.Core.Path.{◌≡◌, sym, ◌∙◌}
use mathlib.Core.Logic.{◌⊎◌, inl, inr, ⊎_elim}
use Prim.Native.Nat.{ℕ, ◌≤◌}
use native.Mathlib.Nat.{le_of_eq}
use native.Mathlib.Decide.{ℕ_discrete}
use Rattle.demand.specs.Took.{Took, Joining, nothing, hears}

-- it is known whether any was accepted, which first, and of each packet whether
pub record Settled (A : Took) : Type 0 where
  pub begun : ((j : ℕ) → A.taken j → ⊥) ⊎ ((k : ℕ) × A.earliest k)
  pub settled : (j : ℕ) → Dec (A.taken j)

-- the packet accepted first is one of those accepted, the only first one, and the lowest
pub record Ordered (A : Took) : Type 0 where
  pub is_taken : (k : ℕ) → A.earliest k → A.taken k
  pub is_one : (j k : ℕ) → A.earliest j → A.earliest k → j ≡ k
  pub is_lowest : (k j : ℕ) → A.earliest k → A.taken j → k ≤ j

pub nothing_settled : Settled nothing
nothing_settled = record { begun = inl (λ j a. a); settled = λ j. no (λ a. a) }

pub nothing_ordered : Ordered nothing
nothing_ordered = record { is_taken = λ k a. a; is_one = λ j k a b. absurd a; is_lowest = λ k j a b. absurd a }

module _ (joins : Joining) (A : Took) (heard : ℕ → Type 0) where
  -- packet k joins, and the event is no other
  pub record JoinsAlone (k : ℕ) : Type 0 where
    pub this : heard k
    pub only : (m : ℕ) → heard m → m ≡ k
    pub joined : joins A k

  abbrev pub NoneJoins : Type 0
  NoneJoins = (m : ℕ) → heard m → joins A m → ⊥

  abbrev B : Took
  B = hears joins A heard

  module _ (d : ((k : ℕ) × JoinsAlone k) ⊎ NoneJoins) where
    joins_one : (j k : ℕ) → heard j → joins A j → heard k → joins A k → j ≡ k
    joins_one j k a p b q = ⊎_elim (λ y. y.1.only j a ∙ sym (y.1.only k b)) (λ n. absurd (n j a p)) d

    pub hears_settled : Settled A → Settled B
    hears_settled u = record {
      begun = ⊎_elim
          (λ e. ⊎_elim (λ y. inr (y.0, inr (e, y.1.this, y.1.joined))) (λ n. inl (λ j. ⊎_elim (e j) (λ y. n j y.0 y.1))) d)
          (λ f. inr (f.0, inl f.1))
          u.begun;
      settled = λ j. elim (u.settled j) [
        | yes a ↦ yes (inl a)
        | no z ↦ ⊎_elim
            (λ (y : (k : ℕ) × JoinsAlone k). elim (ℕ_discrete j y.0) [
              | yes q ↦ yes (inr (rw q (y.1.this, y.1.joined)))
              | no q ↦ no (⊎_elim z (λ p. q (y.1.only j p.0)))
            ])
            (λ n. no (⊎_elim z (λ p. n j p.0 p.1)))
            d
      ];
    }

    -- by a rule that lets nothing join before the first
    pub hears_ordered : Ordered A → ((k₀ k : ℕ) → A.earliest k₀ → joins A k → k₀ ≤ k) → Ordered B
    hears_ordered o later = record {
      is_taken = λ k. ⊎_elim (λ a. inl (o.is_taken k a)) (λ y. inr (y.1, y.2));
      is_one = λ j k. ⊎_elim
          (λ a. ⊎_elim (o.is_one j k a) (λ y. absurd (y.0 j (o.is_taken j a))))
          (λ y. ⊎_elim (λ b. absurd (y.0 k (o.is_taken k b))) (λ z. joins_one j k y.1 y.2 z.1 z.2));
      is_lowest = λ k j. ⊎_elim
          (λ a. ⊎_elim (o.is_lowest k j a) (λ y. later k j a y.1))
          (λ y. ⊎_elim (λ b. absurd (y.0 j b)) (λ z. le_of_eq (joins_one k j y.1 y.2 z.0 z.1)));
    }
