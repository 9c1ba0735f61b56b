-- What converting one number answers, exactly when, and that what it gives is the nearest.
use mathlib.Core.Path.{◌≡◌, refl, sym, ap, ◌∙◌}
use mathlib.Core.Bool.{Bool, true, false, not, false≢true}
use mathlib.Core.Logic.{◌↔◌}
use mathlib.Core.List.{[], ◌∷◌}
use Prim.Native.Nat.{ℕ}
use native.Mathlib.Omega.{arith}
use lib.IntN.{ℤ, pos}
use borrow.Author.Tests.{not-true, not-false}
use Rattle.lists.specs.Tables.{first}
use Rattle.lists.specs.Rules.{numbers_of, AllHold, FirstBroken}
use Rattle.lists.proofs.Rules.{Judges, all_hold_exactly, first_broken_exactly}
use Rattle.answers.specs.declared.Made.{Made}
use Rattle.answers.specs.declared.Made.TheVariants.{Done}
use Rattle.answers.specs.Numbers.{number_made}
use Rattle.answers.proofs.Numbers.{refusal_made}
use Rattle.formats.specs.declared.Integer.{Integer}
use Rattle.formats.specs.declared.Format.{Format}
use Rattle.formats.specs.declared.Format.TheVariants.{Whole, Other}
use Rattle.formats.specs.Formats.{format_of, index_of, has, MayConvert, may_convert}
use Rattle.formats.proofs.Types.{convert_by, by_convert, convert_known, whole_converted, index_back}
use Rattle.sample_rules.specs.Convert.{has_number, convert_rows, converted_as, convert_of}
use Rattle.sample_rules.specs.Nearest.{NearestAs, Has, convert_rules}
use Rattle.sample_rules.proofs.Formats.{within, has_within}
use Rattle.sample_rules.proofs.Nearest.{converted_nearest}

-- ---- exactly when

absurd_test : {P : Type 0} {b : Bool} → b ≡ true → b ≡ false → P
absurd_test p q = absurd (false≢true (sym q ∙ p))

type_holds : (t : ℕ) → (not (may_convert t) ≡ true → MayConvert t → ⊥) × (not (may_convert t) ≡ false → MayConvert t)
type_holds t = (λ e h. absurd_test (by_convert t h) (not-true _ e), λ e. convert_by t (not-false _ e))

number_holds : (i : Format) (n : ℤ) → (not (has_number i n) ≡ true → Has i n → ⊥) × (not (has_number i n) ≡ false → Has i n)
number_holds (Whole f) n = (λ e h. absurd_test (has_within f n h.0 h.1) (not-true _ e), λ e. within f n (not-false _ e))
number_holds Other n = (λ e h. h, λ e. absurd_test (sym e) refl)

module _ (from to : ℕ) (n : ℤ) where
  judged : Judges (convert_rows from to n) (convert_rules from to n)
  judged =
      let i = format_of from in
      (refl, (type_holds from).0, (type_holds from).1, (refl, (type_holds to).0, (type_holds to).1, (refl, (number_holds i n).0, (number_holds i n).1, tt)))

  -- the table's numbers, in its order
  pub convert_numbers : numbers_of number_made (convert_rules from to n) ≡ 20 ∷ 20 ∷ 26 ∷ []
  convert_numbers = refl

  pub convert_done_exactly : (convert_of from to n).answer ≡ Done ↔ AllHold (convert_rules from to n)
  unfolding convert_of
  convert_done_exactly =
      all_hold_exactly Done (convert_rows from to n) (convert_rules from to n) judged
      (λ e. omega (arith, ap number_made e), (λ e. omega (arith, ap number_made e), (λ e. omega (arith, ap number_made e), tt)))

  pub convert_refused_exactly : (a : Made) → (a ≡ Done → ⊥) → (convert_of from to n).answer ≡ a ↔ FirstBroken (convert_rules from to n) a
  unfolding convert_of
  convert_refused_exactly a z = first_broken_exactly Done (convert_rows from to n) (convert_rules from to n) judged a z

  -- a refusal gives zero beside its number
  pub convert_refused_zero : ((convert_of from to n).answer ≡ Done → ⊥) → convert_of from to n ≡ record { answer = (convert_of from to n).answer; value = pos 0 }
  unfolding convert_of
  convert_refused_zero other = rw (refusal_made (first Done (convert_rows from to n)) other)

-- every number of every whole type is converted to every whole type
pub convert_whole : (f t : Integer) (n : ℤ) → has f n ≡ true → number_made (convert_of (index_of f) (index_of t) n).answer ≡ 0
convert_whole f t n h =
    ap number_made
    ((convert_done_exactly (index_of f) (index_of t) n).1 (whole_converted f, (whole_converted t, (rw (index_back f) (within f n h), tt))))

-- the number given is the nearest
given_nearest : (i j : Format) (n : ℤ) → Has i n → (j ≡ Other → ⊥) → NearestAs i j n (converted_as i j n)
given_nearest (Whole f) (Whole t) n h k = converted_nearest f t n (has_within f n h.0 h.1)
given_nearest (Whole f) Other n h k = k refl
given_nearest Other j n h k = h

pub convert_nearest : (from to : ℕ) (n : ℤ) → (convert_of from to n).answer ≡ Done → NearestAs (format_of from) (format_of to) n (convert_of from to n).value
unfolding convert_of
convert_nearest from to n d =
    let h = (convert_done_exactly from to n).0 d in
    rw d (given_nearest (format_of from) (format_of to) n h.1.1.0 (convert_known to h.1.0))
