-- The rates: three rows of seven, each rate twice the one before; an index over 20 gets 9 and zero.
use mathlib.Core.Path.{◌≡◌, refl}
use mathlib.Core.Logic.{◌↔◌}
use mathlib.Core.List.{◌++◌}
use Prim.Native.Nat.{ℕ, ◌≤◌, ◌<◌}
use native.Mathlib.Omega.{arith}
use lib.Dec.{ltb}
use lib.ListN.{get_or}
use borrow.Author.Tests.{ltb-true, ltb-false, lt-ltb, le-ltb}
use Rattle.lists.specs.Tables.{choose}
use Rattle.lists.proofs.Tables.{by_test}
use Rattle.answers.specs.declared.Answer.TheVariants.{Accepted, Rate}
use Rattle.answers.specs.Numbers.{number_of}
use Rattle.wire_rules.specs.declared.Rated.{Rated}
use Rattle.wire_rules.specs.Rates.{rates, rate_of, doubled}

-- each is twice the one before, from 6000, 8000 and 11025
pub rates_double : rates ≡ doubled 7 6000 ++ (doubled 7 8000 ++ doubled 7 11025)
unfolding rates
rates_double = refl

module _ (i : ℕ) where
  -- 0 and the rate in the list
  pub rate_given : i ≤ 20 → rate_of i ≡ record { answer = Accepted; hertz = get_or rates i 0 }
  unfolding rate_of
  rate_given h = rw (le-ltb 20 i h)

  -- a refusal gives 9 and zero
  pub rate_refused : 20 < i → rate_of i ≡ record { answer = Rate; hertz = 0 }
  unfolding rate_of
  rate_refused h = rw (lt-ltb 20 i h)

  by_index : (P : Rated → Type 0) → (i ≤ 20 → P (record { answer = Accepted; hertz = get_or rates i 0 }))
      → (20 < i → P (record { answer = Rate; hertz = 0 })) → P (rate_of i)
  unfolding rate_of
  by_index P f g =
      by_test (λ b. P (choose b (record { answer = Rate; hertz = 0 }) (record { answer = Accepted; hertz = get_or rates i 0 }))) (ltb 20 i)
      (λ t. g (ltb-true 20 i t)) (λ t. f (ltb-false 20 i t))

  pub rate_given_exactly : number_of (rate_of i).answer ≡ 0 ↔ i ≤ 20
  rate_given_exactly = by_index (λ r. number_of r.answer ≡ 0 ↔ i ≤ 20) (λ h. ((λ e. h), (λ l. refl))) (λ h. ((λ e. omega arith), (λ l. omega arith)))

  pub rate_refused_exactly : number_of (rate_of i).answer ≡ 9 ↔ 20 < i
  rate_refused_exactly = by_index (λ r. number_of r.answer ≡ 9 ↔ 20 < i) (λ h. ((λ e. omega arith), (λ l. omega arith))) (λ h. ((λ e. h), (λ l. refl)))
