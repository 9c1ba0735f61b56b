-- A number of a type is the number at its place, and the places are those below 2 to the width. By the types' constants.
use mathlib.Core.Path.{◌≡◌, refl, ap, ◌∙◌}
use mathlib.Core.Bool.{Bool, true, false, ◌&&◌, false≢true}
use Prim.Native.Nat.{ℕ, zero, suc, ◌+◌, ◌-◌, ◌%◌, ◌^◌, ◌≤◌, ◌<◌}
use native.Mathlib.Omega.{arith}
use native.Mathlib.Decide.{dec_le}
use lib.Dec.{T, leb→le, le→leb, lit≤}
use lib.Pow.{pow_pos}
use lib.IntN.{ℤ, pos, negsuc, neg_ℤ, sub_ℕ, ◌+ℤ◌, ◌-ℤ◌}
use lib.Signed.{le_z, ◌≤ℤ◌}
use Rattle.formats.specs.declared.Integer.{Integer}
use Rattle.formats.specs.declared.Integer.TheVariants.{Unsigned8, Signed16, Signed24, Signed32}
use Rattle.formats.specs.Formats.{width_of, lowest_of, highest_of, middle_of, has}
use Rattle.sample_rules.specs.Convert.{bias_of, rank, rank_of, number_at}
use Rattle.sample_rules.proofs.Places.{sub_le, sub_lt, plus, sub_sub}

-- a fact of the four types, from a test that computes
each : (P : Integer → Type 0) → P Unsigned8 → P Signed16 → P Signed24 → P Signed32 → (f : Integer) → P f
each P a b c d Unsigned8 = a
each P a b c d Signed16 = b
each P a b c d Signed24 = c
each P a b c d Signed32 = d

pub width_le : (f : Integer) → width_of f ≤ 32
width_le = each (λ f. width_of f ≤ 32) (lit≤ tt) (lit≤ tt) (lit≤ tt) (lit≤ tt)

pub width_ge : (f : Integer) → 8 ≤ width_of f
width_ge = each (λ f. 8 ≤ width_of f) (lit≤ tt) (lit≤ tt) (lit≤ tt) (lit≤ tt)

pub middle_is : (f : Integer) → bias_of f + middle_of f ≡ 2 ^ (width_of f - 1)
middle_is = each (λ f. bias_of f + middle_of f ≡ 2 ^ (width_of f - 1)) refl refl refl refl

pub bias_even : (f : Integer) → bias_of f % 2 ≡ 0
bias_even = each (λ f. bias_of f % 2 ≡ 0) refl refl refl refl

lowest_is : (f : Integer) → (lowest_of f ≡ neg_ℤ (pos (bias_of f))) × (lowest_of f ≡ sub_ℕ 0 (bias_of f))
lowest_is =
    each (λ f. (lowest_of f ≡ neg_ℤ (pos (bias_of f))) × (lowest_of f ≡ sub_ℕ 0 (bias_of f))) (refl, refl) (refl, refl) (refl, refl) (refl, refl)

highest_is : (f : Integer) → highest_of f ≡ sub_ℕ (2 ^ width_of f - 1) (bias_of f)
highest_is = each (λ f. highest_of f ≡ sub_ℕ (2 ^ width_of f - 1) (bias_of f)) refl refl refl refl

-- ---- over the bias b

low_rank : (b : ℕ) (n : ℤ) → neg_ℤ (pos b) ≤ℤ n → sub_ℕ (rank b n) b ≡ n
low_rank b (pos n) h = sub_le (n + b) b (omega arith) ∙ ap pos (omega arith)
low_rank zero (negsuc n) h = absurd h.le
low_rank (suc b) (negsuc n) h =
    let k = leb→le n b h.le in
    sub_lt (suc b - suc n) (suc b) (omega arith) ∙ ap negsuc (omega arith)

rank_le : (b s : ℕ) (n : ℤ) → n ≤ℤ sub_ℕ s b → rank b n ≤ s
rank_le b s (pos n) h = elim (dec_le b s) [
  | yes k ↦ (let g = rw (sub_le s b k) at h in omega (arith, leb→le n (s - b) g.le))
  | no k ↦ (let g = rw (sub_lt s b (omega arith)) at h in absurd g.le)
]
rank_le b s (negsuc n) h = elim (dec_le b s) [
  | yes k ↦ omega arith
  | no k ↦ (let g = rw (sub_lt s b (omega arith)) at h in omega (arith, leb→le (b - suc s) n g.le))
]

sub_mono : (b u s : ℕ) → u ≤ s → sub_ℕ u b ≤ℤ sub_ℕ s b
sub_mono b u s h = elim (dec_le b u) [
  | yes k ↦ rw (sub_le u b k, sub_le s b (omega arith)) (record { le = le→leb (u - b) (s - b) (omega arith) })
  | no k ↦ elim (dec_le b s) [
    | yes l ↦ rw (sub_lt u b (omega arith), sub_le s b l) (record { le = tt })
    | no l ↦ rw (sub_lt u b (omega arith), sub_lt s b (omega arith)) (record { le = le→leb (b - suc s) (b - suc u) (omega arith) })
  ]
]

-- ---- numbers of a type

and_yes : (a b : Bool) → a && b ≡ true → T a × T b
and_yes true true e = (tt, tt)
and_yes true false e = absurd (false≢true e)
and_yes false b e = absurd (false≢true e)

yes_and : (a b : Bool) → T a → T b → a && b ≡ true
yes_and true true s t = refl
yes_and true false s t = absurd t
yes_and false b s t = absurd s

pub within : (f : Integer) (n : ℤ) → has f n ≡ true → (lowest_of f ≤ℤ n) × (n ≤ℤ highest_of f)
within f n h = let b = and_yes (le_z (lowest_of f) n) (le_z n (highest_of f)) h in (record { le = b.0 }, record { le = b.1 })

pub has_within : (f : Integer) (n : ℤ) → lowest_of f ≤ℤ n → n ≤ℤ highest_of f → has f n ≡ true
has_within f n l h = yes_and (le_z (lowest_of f) n) (le_z n (highest_of f)) l.le h.le

pub rank_below : (f : Integer) (n : ℤ) → has f n ≡ true → rank_of f n < 2 ^ width_of f
rank_below f n h = omega (arith, pow_pos (width_of f), rank_le (bias_of f) (2 ^ width_of f - 1) n (rw highest_is at (within f n h).1))

pub rank_back : (f : Integer) (n : ℤ) → has f n ≡ true → number_at f (rank_of f n) ≡ n
rank_back f n h = low_rank (bias_of f) n (rw (lowest_is f).0 at (within f n h).0)

pub number_has : (f : Integer) (u : ℕ) → u < 2 ^ width_of f → has f (number_at f u) ≡ true
number_has f u h =
    let low : lowest_of f ≤ℤ number_at f u = rw (lowest_is f).1 (sub_mono (bias_of f) 0 u (omega arith)) in
    let high : number_at f u ≤ℤ highest_of f = rw highest_is (sub_mono (bias_of f) u (2 ^ width_of f - 1) (omega arith)) in
    has_within f (number_at f u) low high

-- ---- from the middle

both_more : (a b z : ℕ) → sub_ℕ (a + z) (b + z) ≡ sub_ℕ a b
both_more a b z = elim (dec_le b a) [
  | yes h ↦ rw (sub_le a b h, sub_le (a + z) (b + z) (omega arith)) (ap pos (omega arith))
  | no h ↦ rw (sub_lt a b (omega arith), sub_lt (a + z) (b + z) (omega arith)) (ap negsuc (omega arith))
]

-- the number at a place, less the middle, and the other way round
pub centred : (f : Integer) (u : ℕ) → number_at f u -ℤ pos (middle_of f) ≡ sub_ℕ u (2 ^ (width_of f - 1))
centred f u = sub_sub u (bias_of f) (middle_of f) ∙ ap (sub_ℕ u) (middle_is f)

pub uncentred : (f : Integer) (u : ℕ) → sub_ℕ u (2 ^ (width_of f - 1)) +ℤ pos (middle_of f) ≡ number_at f u
uncentred f u =
    rw (← middle_is f) (plus u (bias_of f + middle_of f) (middle_of f) ∙ both_more u (bias_of f) (middle_of f))
