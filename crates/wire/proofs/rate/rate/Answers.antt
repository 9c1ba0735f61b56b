-- The table's number, or none past its end.
use Rattle.std.proofs.Common.{◌≡◌, ◌<◌, ◌≤◌, ℕ, get_or, arith, rules, le-ltb, lt-ltb}
use Rattle.answers.specs.declared.Answer.TheVariants.{Accepted, Rate}
use Rattle.wire_rules.specs.Rates.{rates, rate_of}
use Rattle.wire.proofs.rate.rate.Goals as goal

module _ (i k : ℕ) (e : k ≡ i) where
  found : (n : ℕ) → k < 21 → n ≡ get_or rates k 0 → record { answer = Accepted; hertz = n } ≡ rate_of i
  unfolding rate_of
  found n h p = rw (← e, le-ltb 20 k (omega arith), p)

  past : 21 ≤ k → record { answer = Rate; hertz = 0 } ≡ rate_of i
  unfolding rate_of
  past h = rw (← e, lt-ltb 20 k h)

pub returns-in-Some : goal.returns-in-Some
unfolding rates
returns-in-Some c = found c.args.index c.from.result c.from.ensures _ (search rules) (search rules)

pub returns-in-None : goal.returns-in-None
returns-in-None c = past c.args.index c.from.result c.from.ensures (search rules)
