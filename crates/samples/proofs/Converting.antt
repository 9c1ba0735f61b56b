-- What converting answers, as the code goes through it, on plain values. Nothing is to be believed here.
use mathlib.Core.Path.{◌≡◌, sym, ◌∙◌}
use mathlib.Core.Bool.{Bool, true, false, not}
use Prim.Native.Nat.{ℕ, ◌^◌, ◌<◌}
use lib.IntN.{ℤ, pos}
use lib.Signed.{mag}
use mir.Syntax.{w64}
use mir.Val.{SFits}
use mir.Facts.{to_z-of_z}
use borrow.Author.Tests.{not-true, not-false}
use Rattle.answers.specs.declared.Made.{Made}
use Rattle.answers.specs.declared.Made.TheVariants.{Done, Form, Sample}
use Rattle.formats.specs.declared.Integer.{Integer}
use Rattle.formats.specs.declared.Format.{Format}
use Rattle.formats.specs.declared.Format.TheVariants.{Whole, Other}
use Rattle.formats.specs.Formats.{format_of, may_convert, has}
use Rattle.formats.proofs.Machine.{Long, back}
use Rattle.formats.proofs.Types.{convert_by, convert_known}
use Rattle.sample_rules.specs.declared.Converted.{Converted}
use Rattle.sample_rules.specs.Convert.{converted, convert_of}
use Rattle.sample_rules.specs.Nearest.{NearestAs}
use Rattle.sample_rules.proofs.Converts.{convert_nearest}

abbrev refusal : Made → Converted
refusal a = record { answer = a; value = pos 0 }

-- a type that may be converted is known
pub no_other : (t : ℕ) (b : Bool) → b ≡ may_convert t → not b ≡ false → (i : Format) → i ≡ format_of t → i ≡ Other → may_convert t ≡ false
no_other t b e l i p q = absurd (convert_known t (convert_by t (sym e ∙ not-false b l)) (sym p ∙ q))

-- the answers in the code's order
module _ (from to : ℕ) (n : ℤ) where
  pub bad_from : may_convert from ≡ false → refusal Form ≡ convert_of from to n
  unfolding convert_of
  bad_from e = rw e

  module _ (e : may_convert from ≡ true) where
    pub bad_to : may_convert to ≡ false → refusal Form ≡ convert_of from to n
    unfolding convert_of
    bad_to g = rw (e, g)

    module _ (g : may_convert to ≡ true) (f t : Integer) (p : format_of from ≡ Whole f) (q : format_of to ≡ Whole t)
        (s : SFits w64 n) (h : Bool) (eh : h ≡ has f (Long n)) where
      pub bad_number : h ≡ false → refusal Sample ≡ convert_of from to n
      unfolding convert_of
      bad_number l = rw (e, g, p, sym (rw (to_z-of_z s) at eh) ∙ l)

      pub is_converted : h ≡ true → (z : ℤ) → mag z < 2 ^ 63 → z ≡ converted f t (Long n) → record { answer = Done; value = Long z } ≡ convert_of from to n
      unfolding convert_of
      is_converted l z m w = rw (back z m, w, to_z-of_z s, e, g, p, q, sym (rw (to_z-of_z s) at eh) ∙ l)

-- a number that its type does not have, by the tests themselves
pub bad_number_is : (from to : ℕ) (n : ℤ) (b : Bool) (e : b ≡ may_convert from) (t : not b ≡ false) (c : Bool) (g : c ≡ may_convert to) (s : not c ≡ false)
    (i j : Format) (f v : Integer) (pi : i ≡ format_of from) (pj : j ≡ format_of to) (p : i ≡ Whole f) (q : j ≡ Whole v) (s₀ : SFits w64 n)
    (h : Bool) (eh : h ≡ has f (Long n)) (r : Converted) → not h ≡ true → r ≡ refusal Sample → r ≡ convert_of from to n
bad_number_is from to n b e t c g s i j f v pi pj p q s₀ h eh r l w =
    w ∙ bad_number from to n (sym e ∙ not-false b t) (sym g ∙ not-false c s) f v (sym pi ∙ p) (sym pj ∙ q) s₀ h eh (not-true h l)

-- and what is given is the nearest
pub meets : (from to : ℕ) (n : ℤ) (r : Converted) → r ≡ convert_of from to n
    → r.answer ≡ Done → NearestAs (format_of from) (format_of to) n r.value
meets from to n r e = rw e (convert_nearest from to n)
