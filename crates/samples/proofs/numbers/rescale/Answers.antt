-- Wider or narrower, by the test.
use mathlib.Core.Path.{◌≡◌, sym, ap, ◌∙◌}
use Prim.Native.Nat.{ℕ, ◌+◌, ◌*◌, ◌-◌, ◌^◌, ◌≤◌, ◌<◌}
use native.Mathlib.Omega.{arith}
use native.Mathlib.Nat.{mul-le-mul_right, suc-mul, add-mul}
use lib.IntN.{ℤ, pos, sub_ℕ, ◌*ℤ◌}
use lib.Pow.{pow_pos, pow-add, pow_mono}
use lib.Signed.{mag}
use borrow.Author.Tests.{le-leb, lt-leb}
use mir.Syntax.{w32}
use mir.Val.{SFits}
use mir.Facts.{to_z-of_z}
use Rattle.sample_rules.specs.Convert.{rank, narrowed, rescaled}
use Rattle.formats.proofs.Machine.{Int}
use Rattle.sample_rules.proofs.Places.{sub_rank, rank_lt, sub_mag}
use Rattle.sample_rules.proofs.Signed.{times}
use Rattle.samples.proofs.numbers.rescale.Goals as goal

module _ (n : ℤ) (w v : ℕ) (s : SFits w32 n) (h : (2 ≤ w) × (w ≤ 32) × (2 ≤ v) × (v ≤ 32) × (mag n < 2 ^ (w - 1))) where
  abbrev u : ℕ
  u = rank (2 ^ (w - 1)) n

  module _ (g : w ≤ v) where
    steps : 2 ^ (w - 1) * 2 ^ (v - w) ≡ 2 ^ (v - 1)
    steps = let e : v - 1 ≡ (w - 1) + (v - w) = omega arith in sym (ap (λ (x : ℕ). 2 ^ x) e ∙ pow-add 2 (w - 1) (v - w))

    product : n *ℤ pos (2 ^ (v - w)) ≡ sub_ℕ (u * 2 ^ (v - w)) (2 ^ (v - 1))
    product =
        ap (λ (z : ℤ). z *ℤ pos (2 ^ (v - w))) (sym (sub_rank (2 ^ (w - 1)) n h.4))
        ∙ times u (2 ^ (w - 1)) (2 ^ (v - w)) (pow_pos (v - w))
        ∙ ap (λ (b : ℕ). sub_ℕ (u * 2 ^ (v - w)) b) steps

    room : (v - w ≤ 32) × (mag (Int n *ℤ pos (2 ^ (v - w))) < 2 ^ 31)
    room =
        let b = 2 ^ (w - 1) in
        let q = 2 ^ (v - w) in
        let l : u * q < 2 ^ (v - 1) + 2 ^ (v - 1) =
        omega (arith, mul-le-mul_right q (rank_lt b n h.4), suc-mul u q, add-mul b b q, steps, pow_pos (v - w)) in
        (omega arith, rw (to_z-of_z s, product) (sub_mag (u * 2 ^ (v - w)) (2 ^ (v - 1)) (2 ^ 31) (omega (arith, pow_mono {i = v - 1} {j = 31} (omega arith))) (pow_mono {i = v - 1} {j = 31} (omega arith))))

    widened : (r : ℤ) → SFits w32 r → r ≡ Int n *ℤ pos (2 ^ (v - w)) → Int r ≡ sub_ℕ (rescaled w v u) (2 ^ (v - 1))
    unfolding rescaled
    widened r f e = to_z-of_z f ∙ e ∙ rw (to_z-of_z s, product, le-leb w v g)

  module _ (g : v < w) where
    is_narrowed : (r : ℤ) → SFits w32 r → r ≡ sub_ℕ (narrowed (w - v) v (rank (2 ^ (v + (w - v) - 1)) (Int n))) (2 ^ (v - 1)) → Int r ≡ sub_ℕ (rescaled w v u) (2 ^ (v - 1))
    unfolding rescaled
    is_narrowed r f e = let k : v + (w - v) - 1 ≡ w - 1 = omega arith in to_z-of_z f ∙ e ∙ rw (to_z-of_z s, k, lt-leb w v g)

pub widen-requires : goal.widen-requires
widen-requires c = room _ _ _ c.ranges.n c.requires c.if-w-v.true

pub returns-then-w-v : goal.returns-then-w-v
returns-then-w-v c = widened _ _ _ c.ranges.n c.requires c.if-w-v.true _ (record { sfits = c.widen.type_inv }) c.widen.ensures

pub returns : goal.returns
returns c = is_narrowed _ _ _ c.ranges.n c.requires c.if-w-v.false _ (record { sfits = c.narrow.type_inv }) c.narrow.ensures
