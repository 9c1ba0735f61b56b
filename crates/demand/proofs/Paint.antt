-- The painting of a track, over any frame counts and offsets, with no counter, place rule or box in it: packets that lie apart are
-- painted one by one, and the track shows all of them and silence elsewhere.
use mathlib.Core.Path.{◌≡◌, refl, ◌∙◌}
use mathlib.Core.Logic.{◌⊎◌, inl, inr, ⊎_elim}
use Prim.Native.Nat.{ℕ, ◌+◌, ◌-◌, ◌≤◌, ◌<◌}

-- record i is one of the n from record at on
abbrev pub Within : ℕ → ℕ → ℕ → Type 0
Within at n i = (at ≤ i) × (i < at + n)

module _ {Frame : Type 0} (silence : Frame) (R : ℕ) where
  -- packet j lies at off j with cnt j frames, frame o of it being content j o
  pub record Paints (off cnt : ℕ → ℕ) (content : ℕ → ℕ → Frame) (A : ℕ → Type 0) (f : ℕ → Frame) : Type 0 where
    pub painted : (i j : ℕ) → i < R → A j → Within (off j) (cnt j) i → f i ≡ content j (i - off j)
    pub blank : (i : ℕ) → i < R → ((j : ℕ) → A j → Within (off j) (cnt j) i → ⊥) → f i ≡ silence

  -- n frames laid at a place
  pub record Laid (at n : ℕ) (frames : ℕ → Frame) (f g : ℕ → Frame) : Type 0 where
    pub inside : (i : ℕ) → i < R → Within at n i → g i ≡ frames (i - at)
    pub outside : (i : ℕ) → i < R → (Within at n i → ⊥) → g i ≡ f i

  module _ (off cnt : ℕ → ℕ) (content : ℕ → ℕ → Frame) where
    -- one packet more, where it lies apart from all that are painted
    pub paint : {A : ℕ → Type 0} (k : ℕ) {f g : ℕ → Frame} → Laid (off k) (cnt k) (content k) f g
        → ((i j : ℕ) → A j → Within (off j) (cnt j) i → Within (off k) (cnt k) i → ⊥)
        → Paints off cnt content A f → Paints off cnt content (λ j. A j ⊎ (j ≡ k)) g
    paint {A} k {f} {g} laid apart p = record {
      painted = λ i j l. ⊎_elim
          (λ a w. laid.outside i l (λ v. apart i j a w v) ∙ p.painted i j l a w)
          (λ e w. rw e (laid.inside i l (rw e at w)));
      blank = λ i l n. laid.outside i l (λ v. n k (inr refl) v) ∙ p.blank i l (λ j a w. n j (inl a) w);
    }

    -- the same packets
    pub repaint : {A B : ℕ → Type 0} {f : ℕ → Frame} → ((j : ℕ) → A j → B j) → ((j : ℕ) → B j → A j)
        → Paints off cnt content A f → Paints off cnt content B f
    repaint to back p = record {
      painted = λ i j l b w. p.painted i j l (back j b) w;
      blank = λ i l n. p.blank i l (λ j a w. n j (to j a) w);
    }

  -- nothing is painted yet
  pub unpainted : (off cnt : ℕ → ℕ) (content : ℕ → ℕ → Frame) {A : ℕ → Type 0} {f : ℕ → Frame} → ((j : ℕ) → A j → ⊥)
      → ((i : ℕ) → i < R → f i ≡ silence) → Paints off cnt content A f
  unpainted off cnt content e z = record { painted = λ i j l a w. absurd (e j a); blank = λ i l n. z i l }
