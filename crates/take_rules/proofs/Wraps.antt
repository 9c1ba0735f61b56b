-- Distances of counters that wrap, over the counter's width.
use mathlib.Core.Path.{◌≡◌, ◌∙◌}
use mathlib.Core.Logic.{◌↔◌}
use mathlib.Core.Bool.{true}
use Prim.Native.Nat.{ℕ, ◌+◌, ◌-◌, ◌*◌, ◌/◌, ◌%◌, ◌^◌, ◌≤◌, ◌<◌}
use native.Mathlib.Nat.{mod-add-mod, add-mod_right, mod-eq_of_lt, mod-lt, div-add-mod'}
use native.Mathlib.Omega.{arith}
use lib.Arith.{digits_mod}
use lib.Dec.{ltb}
use lib.Pow.{pow_pos}
use borrow.Author.Tests.{ltb-true, lt-ltb}
use Rattle.lists.proofs.Tables.{both}
use Rattle.wire_rules.specs.declared.Header.{Header}
use Rattle.take_rules.specs.declared.Take.{Take}
use Rattle.take_rules.specs.Counter.{away, newer}
use Rattle.take_rules.specs.Line.{distance}
use Rattle.take_rules.specs.Follow.{place_of, skipped_of, followed_by}

module _ (w : ℕ) where
  -- the distance and the newest wrap back to the counter
  pub away_wraps : (counter newest : ℕ) → counter < 2 ^ w → newest ≤ 2 ^ w → (away w counter newest + newest) % 2 ^ w ≡ counter
  away_wraps c n h l =
      let e : c + (2 ^ w - n) + n ≡ c + 2 ^ w = omega arith in
      mod-add-mod (c + (2 ^ w - n)) (2 ^ w) n ∙ rw e (add-mod_right c (2 ^ w) ∙ mod-eq_of_lt h)

  -- a counter j steps on is j away, wherever it wraps
  pub away_steps : (start j : ℕ) → j < 2 ^ w → away w ((start + j) % 2 ^ w) (start % 2 ^ w) ≡ j
  away_steps s j h =
      let M = 2 ^ w in
      let q = s / M in
      let r = s % M in
      let l : r < M = mod-lt s (pow_pos w) in
      let d : q * M + r ≡ s = div-add-mod' s M in
      let e : s + j + (M - r) ≡ (q * M + j) + M = omega arith in
      mod-add-mod (s + j) M (M - r) ∙ rw e (add-mod_right (q * M + j) M ∙ digits_mod q h)

  -- newer exactly when d is from 1 to half the range less one
  pub newer_exactly : (d : ℕ) → newer w d ≡ true ↔ (1 ≤ d) × (d < 2 ^ (w - 1))
  newer_exactly d = (
    (λ e. let p = both (ltb 0 d) (ltb d (2 ^ (w - 1))) e in (ltb-true 0 d p.0, ltb-true _ _ p.1)),
    (λ h. rw (lt-ltb 0 d h.0, lt-ltb d (2 ^ (w - 1)) h.1)),
  )

-- ---- a begun take's packet j steps on from the newest

module _ (t : Take) (h : Header) (begun : t.begun ≡ true) (start j : ℕ) (few : j < 2 ^ 32)
    (en : t.line.newest ≡ start % 2 ^ 32) (ec : h.counter ≡ (start + j) % 2 ^ 32) where
  pub distance_steps : distance t.line h.counter h.frames ≡ j
  distance_steps = rw (en, ec) (away_steps 32 start j few)

  -- from 1 to 2^31 - 1 steps it is newer: so many were skipped, and it lies j times N further on
  module _ (some : 1 ≤ j) (half : j < 2 ^ 31) where
    goes_ahead : newer 32 j ≡ true
    goes_ahead = (newer_exactly 32 j).1 (some, half)

    pub skipped_steps : skipped_of t h + 1 ≡ j
    skipped_steps = rw (begun, distance_steps, goes_ahead) (omega arith)

    pub place_steps : place_of t h ≡ t.line.place + j * t.line.n
    place_steps = rw (begun, distance_steps, goes_ahead) (rw distance_steps)

    -- the line after it: N stays, and the newest is the packet
    pub next_steps : (followed_by t h).line ≡ record { n = t.line.n; newest = (start + j) % 2 ^ 32; place = t.line.place + j * t.line.n }
    next_steps = rw (begun, distance_steps, goes_ahead) (rw (distance_steps, ec))
