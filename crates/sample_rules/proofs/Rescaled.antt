-- A place that is rescaled is a place.
use mathlib.Core.Path.{◌≡◌}
use Prim.Native.Nat.{ℕ, ◌+◌, ◌-◌, ◌^◌, ◌<◌}
use native.Mathlib.Omega.{arith}
use native.Mathlib.Decide.{dec_le}
use lib.Pow.{pow_pos, shl_lt}
use borrow.Author.Tests.{le-leb, lt-leb}
use Rattle.sample_rules.specs.Convert.{narrowed, rescaled}

pub narrowed_lt : (k v u : ℕ) → narrowed k v u < 2 ^ v
unfolding narrowed
narrowed_lt k v u = omega (arith, pow_pos v)

pub rescaled_lt : (w v u : ℕ) → u < 2 ^ w → rescaled w v u < 2 ^ v
unfolding rescaled
rescaled_lt w v u h = elim (dec_le w v) [
  | yes k ↦ (let e : w + (v - w) ≡ v = omega arith in
      simp (le-leb w v k) (rw e at (shl_lt w (v - w) h)))
  | no k ↦ simp (lt-leb w v (omega arith)) (narrowed_lt (w - v) v u)
]
