-- A capture in two parts is the capture: wherever whole records end, the box goes on from where it stood.
use mathlib.Core.Path.{◌≡◌, refl, sym, ap, ◌∙◌}
use mathlib.Core.List.{List, ◌∷◌, ◌++◌, append_assoc, append-nil}
use Prim.Native.Nat.{ℕ, zero, suc, ◌+◌, ◌*◌, ◌≤◌, ◌<◌}
use native.Mathlib.Nat.{add-suc, add-zero, le_refl}
use native.Mathlib.Numerals.{add-one}
use native.Mathlib.Omega.{arith}
use lib.ListN.{length, take, drop, length-append, length-drop}
use lib.Seq.{drop_at, drop-drop, take-append-le, drop-append-le}
use Rattle.take_rules.specs.Box.{Event, Box, after, follows}
use Rattle.capture_rules.specs.Records.{record_size}
use Rattle.capture_rules.specs.Fold.{event_of, record_at, heard_in, answers_in, whole_records, captured}

module _ (a c : List ℕ) (m : ℕ) (whole : length a ≡ m * record_size) where
  -- records of the first part
  pub front_record : (n : ℕ) → n < m → record_at (a ++ c) n ≡ record_at a n
  front_record n h =
      ap (λ (l : List ℕ). take record_size l) (drop-append-le (n * record_size) a c (omega (arith, whole)))
      ∙ take-append-le record_size (drop (n * record_size) a) c (rw length-drop (omega (arith, whole)))

  pub heard_front : (n : ℕ) → n ≤ m → heard_in (a ++ c) n ≡ heard_in a n
  unfolding heard_in
  heard_front zero h = refl
  heard_front (suc n) h =
      ap (λ (r : List ℕ). event_of r ∷ heard_in (a ++ c) n) (front_record n (omega arith)) ∙ ap (λ (l : List Event). event_of (record_at a n) ∷ l)
      (heard_front n (omega arith))

  -- records of the second
  pub back_record : (n : ℕ) → record_at (a ++ c) (m + n) ≡ record_at c n
  back_record n =
      let e : (m + n) * record_size ≡ m * record_size + n * record_size = omega arith in
      ap (λ (l : List ℕ). take record_size l) (ap (λ (k : ℕ). drop k (a ++ c)) e ∙ sym (drop-drop (n * record_size) (m * record_size) (a ++ c)) ∙ ap
      (λ (l : List ℕ). drop (n * record_size) l) (drop_at a c (m * record_size) whole))

  pub heard_both : (b : Box) (n : ℕ) → after b (heard_in (a ++ c) (m + n)) ≡ after (after b (heard_in a m)) (heard_in c n)
  unfolding heard_in
  heard_both b zero = rw (add-zero, heard_front m (le_refl m))
  heard_both b (suc n) =
      let e : after b (heard_in (a ++ c) (m + suc n)) ≡ after b (heard_in (a ++ c) (suc (m + n))) = ap (λ (k : ℕ). after b (heard_in (a ++ c) k)) (add-suc m n) in
      e ∙ ap (λ (r : List ℕ). follows (after b (heard_in (a ++ c) (m + n))) (event_of r)) (back_record n) ∙ ap (λ (x : Box). follows x (event_of (record_at c n)))
      (heard_both b n)

  -- what is told of both parts: of the first, then of the second by the box that the first left
  answers_front : (b : Box) (n : ℕ) → n ≤ m → answers_in b (a ++ c) n ≡ answers_in b a n
  unfolding answers_in
  answers_front b zero h = refl
  answers_front b (suc n) h = rw (answers_front b n (omega arith), heard_front n (omega arith), front_record n (omega arith))

  pub answers_joined : (b : Box) (n : ℕ) → answers_in b (a ++ c) (m + n) ≡ answers_in b a m ++ answers_in (after b (heard_in a m)) c n
  unfolding answers_in
  answers_joined b zero =
      ap (λ (k : ℕ). answers_in b (a ++ c) k) (add-zero m) ∙ answers_front b m (le_refl m) ∙ sym (append-nil (answers_in b a m))
  answers_joined b (suc n) =
      ap (λ (k : ℕ). answers_in b (a ++ c) k) (add-suc m n)
      ∙ rw (answers_joined b n, back_record n, heard_both b n) (append_assoc (answers_in b a m) (answers_in (after b (heard_in a m)) c n) _)

  pub captured_joined : (b : Box) → captured b (a ++ c) ≡ captured (captured b a) c
  captured_joined b =
      let l : whole_records a ≡ m = omega (arith, whole) in
      let n : whole_records (a ++ c) ≡ m + whole_records c = rw length-append (omega (arith, whole)) in
      rw (n, l) (heard_both b (whole_records c))

-- one answer a record
pub answers_length : (b : Box) (capture : List ℕ) (n : ℕ) → length (answers_in b capture n) ≡ n
unfolding answers_in
answers_length b capture zero = refl
answers_length b capture (suc n) = length-append (answers_in b capture n) _ ∙ rw (answers_length b capture n) (add-one n)
