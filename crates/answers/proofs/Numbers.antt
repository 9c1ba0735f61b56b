-- Each answer has a number of its own, and a count of its own in the house tally.
use mathlib.Core.Path.{◌≡◌, refl, sym, ap, ◌∙◌}
use mathlib.Core.Logic.{◌↔◌}
use mathlib.Core.Bool.{false}
use mathlib.Core.List.{List, [], ◌∷◌}
use Prim.Native.Nat.{ℕ, ◌-◌, ◌≤◌, ◌<◌}
use native.Mathlib.Decide.{dec_lt}
use native.Mathlib.Omega.{arith}
use lib.Dec.{eqb, lit<}
use lib.ListN.{length, get_or, get_or-eq_default}
use borrow.Author.Tests.{ne_eqb}
use Rattle.answers.specs.declared.Answer.{Answer}
use Rattle.answers.specs.declared.Answer.TheVariants.{Accepted, Short, Long, Foreign, Name, OtherStream, SubProtocol, Codec, Reserved, Rate, DataType, Length, Channels, Shape, Late, Beyond, State}
use Rattle.answers.specs.declared.Made.{Made}
use Rattle.answers.specs.declared.Made.TheVariants.{Done, Form, Big, Data, Room, Number, Sample}
use Rattle.answers.specs.Numbers.{number_of, number_made, counts_kept, count_of}

-- what has a name of its own in the list is told from every other
module _ {A : Type 0} (number : A → ℕ) (named : ℕ → A) (back : (a : A) → named (number a) ≡ a) where
  pub told : (a b : A) → number a ≡ number b → a ≡ b
  told a b e = sym (back a) ∙ ap named e ∙ back b

-- what is so exactly when an answer's number is told is so exactly when that answer is
module _ {A : Type 0} (number : A → ℕ) (told : (a b : A) → number a ≡ number b → a ≡ b) where
  by_number : {a b : A} {P : Type 0} → number a ≡ number b ↔ P → a ≡ b ↔ P
  by_number {a} {b} e = ((λ q. e.0 (ap number q)), (λ p. told a b (e.1 p)))

-- the answers of following in the order of their counts
abbrev kept : List Answer
kept = Accepted ∷ Short ∷ Long ∷ Foreign ∷ Name ∷ OtherStream ∷ SubProtocol ∷ Codec ∷ Reserved ∷ Rate ∷ DataType ∷ Length ∷ Channels ∷ Shape ∷ Late ∷ Beyond ∷ State ∷ []

abbrev kept_at : ℕ → Answer
kept_at i = get_or kept i Accepted

-- where an answer's count stands tells the answer: the one place with a case an answer
kept_count : (a : Answer) → kept_at (count_of (number_of a)) ≡ a
kept_count Accepted = refl
kept_count Short = refl
kept_count Long = refl
kept_count Foreign = refl
kept_count Name = refl
kept_count OtherStream = refl
kept_count SubProtocol = refl
kept_count Codec = refl
kept_count Reserved = refl
kept_count Rate = refl
kept_count DataType = refl
kept_count Length = refl
kept_count Channels = refl
kept_count Shape = refl
kept_count Late = refl
kept_count Beyond = refl
kept_count State = refl

-- each answer has a count of its own
pub count_told : (a b : Answer) → count_of (number_of a) ≡ count_of (number_of b) → a ≡ b
count_told = told (λ a. count_of (number_of a)) kept_at kept_count

pub number_told : (a b : Answer) → number_of a ≡ number_of b → a ≡ b
number_told a b e = count_told a b (ap count_of e)

-- and the tally has it: an answer past the last count would be the first one
pub count_below : (a : Answer) → count_of (number_of a) < counts_kept
count_below a = elim (dec_lt (count_of (number_of a)) counts_kept) [
  | yes l ↦ l
  | no z ↦
      let past : length kept ≤ count_of (number_of a) = omega arith in
      let e : a ≡ Accepted = sym (kept_count a) ∙ get_or-eq_default kept Accepted past in
      absurd (z (rw e (lit< tt)))
]

-- a refusal's number is not 0
pub refusal_number : (a : Answer) → (a ≡ Accepted → ⊥) → eqb (number_of a) 0 ≡ false
refusal_number a z = ne_eqb (number_of a) 0 (λ e. z (number_told a Accepted e))

-- a number that was tested against 0 tells acceptance
module _ (a : Answer) (n : ℕ) (q : n ≡ number_of a) where
  pub accepts : n ≡ 0 → a ≡ Accepted
  accepts z = number_told a Accepted (sym q ∙ z)

abbrev named_made : ℕ → Made
named_made n = get_or (Done ∷ Form ∷ Big ∷ Data ∷ Room ∷ Number ∷ Done ∷ Sample ∷ []) (n - 19) Done

named_made_number : (m : Made) → named_made (number_made m) ≡ m
named_made_number Done = refl
named_made_number Form = refl
named_made_number Big = refl
named_made_number Data = refl
named_made_number Room = refl
named_made_number Number = refl
named_made_number Sample = refl

pub made_told : (a b : Made) → number_made a ≡ number_made b → a ≡ b
made_told = told number_made named_made named_made_number

pub refusal_made : (a : Made) → (a ≡ Done → ⊥) → eqb (number_made a) 0 ≡ false
refusal_made a z = ne_eqb (number_made a) 0 (λ e. z (made_told a Done e))

-- 0 is acceptance, and nothing else is
pub accepted_by_number : {a : Answer} {P : Type 0} → number_of a ≡ 0 ↔ P → a ≡ Accepted ↔ P
accepted_by_number = by_number number_of number_told

pub done_by : {a : Made} {P : Type 0} → number_made a ≡ 0 ↔ P → a ≡ Done ↔ P
done_by = by_number number_made made_told
