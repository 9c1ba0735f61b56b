-- Two tracks that show the same are the same bytes.
use mathlib.Core.Path.{◌≡◌, sym, ap, ◌∙◌, subst}
use mathlib.Core.Logic.{◌⊎◌, ⊎_elim}
use mathlib.Core.List.{List}
use Prim.Native.Nat.{ℕ, ◌+◌, ◌*◌, ◌/◌, ◌%◌, ◌^◌, ◌≤◌, ◌<◌}
use native.Mathlib.Decide.{dec_lt}
use native.Mathlib.Omega.{arith}
use lib.Dec.{lit≤}
use lib.IntN.{ℤ, pos}
use lib.Seq.{ext_get_or}
use Rattle.lists.specs.Lists.{byte}
use Rattle.lists.proofs.Little.{little_byte}
use Rattle.sample_rules.specs.Bits.{bits_of}
use Rattle.sample_rules.proofs.Bits.{signed_bits}
use Rattle.track_rules.specs.Records.{records_held, slot_at, slot_number, record_bytes}
use Rattle.track_rules.proofs.Laws.{slot_fits}
use Rattle.demand.specs.Took.{Took}
use Rattle.demand.specs.Shows.{Shows}
use Rattle.demand.specs.Sender.{Recorded}
use Rattle.demand.proofs.Accepting.{Settled}

-- where it is known which packet holds a frame, and that is one
module _ {Frame : Type 0} (silence : Frame) (source : ℕ → Frame) (from : ℕ → ℕ) (holds : ℕ → ℕ → Type 0) (R : ℕ) (A : Took)
    (held : (x : ℕ) → ((j : ℕ) × holds j x) ⊎ ((j : ℕ) → holds j x → ⊥)) (once : (x j k : ℕ) → holds j x → holds k x → j ≡ k) (known : Settled A) where
  -- what is shown has one value at every record
  pub shown_one : (f g : ℕ → Frame) → Shows silence source from holds R A f → Shows silence source from holds R A g → (i : ℕ) → i < R → f i ≡ g i
  shown_one f g p q i l = ⊎_elim (λ n. p.none n i l ∙ sym (q.none n i l)) begun known.begun
    where
      begun : (k : ℕ) × A.earliest k → f i ≡ g i
      begun (k, a) = ⊎_elim (λ y. inside y (known.settled y.0)) (λ n. silent (λ j t. n j)) (held (from k + i))
        where
          silent : ((j : ℕ) → A.taken j → holds j (from k + i) → ⊥) → f i ≡ g i
          silent n = (p.begun k a).other i l n ∙ sym ((q.begun k a).other i l n)

          inside : (y : (j : ℕ) × holds j (from k + i)) → Dec (A.taken y.0) → f i ≡ g i
          inside y (yes t) = (p.begun k a).accepted i _ l t y.1 ∙ sym ((q.begun k a).accepted i _ l t y.1)
          inside y (no n) = silent (λ j t w. n (rw (once _ y.0 j y.1 w) t))

-- bytes whose slots are alike, and those past the last record
module _ (t u : List ℕ) (bt : (j : ℕ) → byte t j < 256) (bu : (j : ℕ) → byte u j < 256) (R : ℕ)
    (slots : (i c : ℕ) → i < R → c < 8 → slot_number t i c ≡ slot_number u i c) where
  same_slot : (i c : ℕ) → i < R → c < 8 → slot_at t i c ≡ slot_at u i c
  same_slot i c l m =
      sym (signed_bits 24 (lit≤ tt) (slot_at t i c) (slot_fits t i c bt)) ∙ ap (bits_of 24) (slots i c l m)
      ∙ signed_bits 24 (lit≤ tt) (slot_at u i c) (slot_fits u i c bu)

  -- a slot's bytes are told from its number
  same_three : (i c k : ℕ) → i < R → c < 8 → k < 3 → byte t (i * record_bytes + c * 3 + k) ≡ byte u (i * record_bytes + c * 3 + k)
  same_three i c k l m n =
      let a = i * record_bytes + c * 3 in
      sym (little_byte 3 t a k bt n) ∙ ap (λ (x : ℕ). x / 256 ^ k % 256) (same_slot i c l m) ∙ little_byte 3 u a k bu n

  pub same_byte : (j : ℕ) → j < R * record_bytes → byte t j ≡ byte u j
  same_byte j l =
      let e : j / record_bytes * record_bytes + j % record_bytes / 3 * 3 + j % 3 ≡ j = omega arith in
      subst (λ (y : ℕ). byte t y ≡ byte u y) e (same_three (j / record_bytes) (j % record_bytes / 3) (j % 3) (omega arith) (omega arith) (omega arith))

pub recorded_one : (from : ℕ → ℕ) (holds : ℕ → ℕ → Type 0) (number : ℕ → ℕ → ℤ)
    → ((x : ℕ) → ((j : ℕ) × holds j x) ⊎ ((j : ℕ) → holds j x → ⊥)) → ((x j k : ℕ) → holds j x → holds k x → j ≡ k) → (A : Took) → Settled A
    → (before t u : List ℕ) → ((j : ℕ) → byte t j < 256) → ((j : ℕ) → byte u j < 256)
    → Recorded from holds number A before t → Recorded from holds number A before u → t ≡ u
recorded_one from holds number held once A known before t u bt bu p q =
    ext_get_or 0 t u (p.same_length ∙ sym q.same_length) (λ j l. elim (dec_lt j (records_held before * record_bytes)) [
      | yes m ↦ same_byte t u bt bu (records_held before)
          (λ i c a b. shown_one (pos 0) (λ x. number x c) from holds (records_held before) A held once known _ _ (p.slots c b) (q.slots c b) i a) j m
      | no m ↦ let n : records_held before * record_bytes ≤ j = omega arith in p.rest j n ∙ sym (q.rest j n)
    ])
