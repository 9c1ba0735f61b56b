-- A sample's bits spell one of its type's numbers, each number has bits of its own, and what a slot holds and a sample sent stands
-- for is the definition's. Over the width.
use mathlib.Core.Path.{◌≡◌, refl, ap, ◌∙◌, subst}
use mathlib.Core.Bool.{true, false≢true}
use Prim.Native.Nat.{ℕ, suc, ◌+◌, ◌-◌, ◌*◌, ◌%◌, ◌^◌, ◌≤◌, ◌<◌}
use native.Mathlib.Nat.{mod-lt, mod-eq_of_lt, add-mod_right}
use native.Mathlib.Omega.{arith}
use native.Mathlib.Decide.{dec_lt}
use lib.Dec.{lit<, lit≤}
use lib.Pow.{pow_pos}
use lib.IntN.{ℤ, pos, negsuc, nat_abs, sub_ℕ}
use lib.Signed.{mag}
use borrow.Author.Tests.{lt-ltb, le-ltb}
use Rattle.formats.specs.declared.Integer.{Integer}
use Rattle.formats.specs.declared.Integer.TheVariants.{Unsigned8, Signed16, Signed24, Signed32}
use Rattle.formats.specs.declared.Format.{Format}
use Rattle.formats.specs.declared.Format.TheVariants.{Whole, Other}
use Rattle.formats.specs.Formats.{whole_size, size_of, width_of, has}
use Rattle.sample_rules.specs.Convert.{bias_of, rank, rank_of, number_at, rescaled, converted, carried}
use Rattle.sample_rules.specs.Nearest.{value_of, Nearest}
use Rattle.sample_rules.specs.Bits.{signed_of, bits_of, sample_of, sample_bits, slot_of, sent_of}
use Rattle.sample_rules.proofs.Places.{doubles, sub_le, sub_lt, sub_mag, sub_rank, rank_lt}
use Rattle.sample_rules.proofs.Formats.{rank_below, rank_back, number_has}
use Rattle.sample_rules.proofs.Rescaled.{rescaled_lt}
use Rattle.sample_rules.proofs.Nearest.{converted_has, converted_nearest}

-- ---- signed numbers of w bits

module _ (w : ℕ) (h : 1 ≤ w) where
  abbrev H : ℕ
  H = 2 ^ (w - 1)

  pub signed_mag : (u : ℕ) → u < 2 ^ w → mag (signed_of w u) < H
  unfolding signed_of
  signed_mag u l = elim (dec_lt u H) [
    | yes g ↦ rw (lt-ltb u H g) g
    | no g ↦ rw (le-ltb u H (omega arith), sub_lt u (2 ^ w) l) (omega (arith, doubles w h))
  ]

  -- with half the numbers added, the rest by all of them is the number's place
  pub signed_place : (u : ℕ) → u < 2 ^ w → sub_ℕ ((u + H) % (H * 2)) H ≡ signed_of w u
  unfolding signed_of
  signed_place u l =
      let d = doubles w h in
      elim (dec_lt u H) [
        | yes g ↦
            (let a : (u + H) % (H * 2) ≡ u + H = mod-eq_of_lt (omega arith) in
            rw (lt-ltb u H g, a) (sub_le (u + H) H (omega arith) ∙ ap pos (omega arith)))
        | no g ↦
            (let b : u + H ≡ (u - H) + H * 2 = omega arith in
            let a : (u + H) % (H * 2) ≡ u - H = ap (λ (y : ℕ). y % (H * 2)) b ∙ add-mod_right (u - H) (H * 2) ∙ mod-eq_of_lt (omega arith) in
            rw (le-ltb u H (omega arith), a, sub_lt (u - H) H (omega arith), sub_lt u (2 ^ w) l) (ap negsuc (omega arith)))
      ]

  pub bits_lt : (n : ℤ) → bits_of w n < 2 ^ w
  unfolding bits_of
  bits_lt n = mod-lt (rank (2 ^ w) n) (pow_pos w)

  pub signed_bits : (u : ℕ) → u < 2 ^ w → bits_of w (signed_of w u) ≡ u
  unfolding signed_of bits_of
  signed_bits u l = elim (dec_lt u H) [
    | yes g ↦ rw (lt-ltb u H g) (add-mod_right u (2 ^ w) ∙ mod-eq_of_lt l)
    | no g ↦ rw (le-ltb u H (omega arith), sub_lt u (2 ^ w) l)
        (let e : 2 ^ w - suc (2 ^ w - suc u) ≡ u = omega arith in rw e (mod-eq_of_lt l))
  ]

  pub bits_signed : (n : ℤ) → mag n < H → signed_of w (bits_of w n) ≡ n
  unfolding signed_of bits_of
  bits_signed (pos n) g =
      let l : n < 2 ^ w = omega (arith, doubles w h) in
      rw (add-mod_right n (2 ^ w) ∙ mod-eq_of_lt l, lt-ltb n H g)
  bits_signed (negsuc n) g =
      let d = doubles w h in
      let m = 2 ^ w - suc n in
      let l : m < 2 ^ w = omega arith in
      rw (mod-eq_of_lt l, le-ltb m H (omega arith), sub_lt m (2 ^ w) l) (ap negsuc (omega arith))

-- a number that was rescaled is on either side of 0 in the other width
pub rescaled_mag : (w v : ℕ) → 1 ≤ w → 1 ≤ v → (z : ℤ) → mag z < 2 ^ (w - 1)
    → mag (sub_ℕ (rescaled w v (rank (2 ^ (w - 1)) z)) (2 ^ (v - 1))) < 2 ^ (v - 1)
rescaled_mag w v hw hv z h =
    let l : rank (2 ^ (w - 1)) z < 2 ^ w = omega (arith, doubles w hw, rank_lt (2 ^ (w - 1)) z h) in
    sub_mag (rescaled w v (rank (2 ^ (w - 1)) z)) (2 ^ (v - 1)) (2 ^ (v - 1)) (omega (arith, doubles v hv, rescaled_lt w v (rank (2 ^ (w - 1)) z) l)) (omega arith)

-- ---- the types' numbers

-- a signed type's numbers are those on either side of 0 that are no further than its bias
module _ (f : Integer) (e : bias_of f + bias_of f ≡ 2 ^ width_of f) where
  mag_has : (n : ℤ) → mag n < bias_of f → has f n ≡ true
  mag_has n h = rw (← sub_rank (bias_of f) n h) (number_has f (rank_of f n) (omega (arith, rank_lt (bias_of f) n h)))

  has_mag : (n : ℤ) → has f n ≡ true → mag n < bias_of f
  has_mag n h =
      rw (← rank_back f n h)
      (sub_mag (rank_of f n) (bias_of f) (bias_of f) (omega (arith, rank_below f n h)) (omega arith))

byte_at : (u : ℕ) → number_at Unsigned8 u ≡ pos u
byte_at u = sub_le u 0 (omega arith) ∙ ap pos (omega arith)

byte_is : (n : ℤ) → has Unsigned8 n ≡ true → pos (nat_abs n) ≡ n
byte_is (pos n) h = refl
byte_is (negsuc n) h = absurd (false≢true h)

byte_below : (n : ℤ) → has Unsigned8 n ≡ true → nat_abs n < 256
byte_below (pos n) h = let l : n + 0 < 256 = rank_below Unsigned8 (pos n) h in omega arith
byte_below (negsuc n) h = absurd (false≢true h)

pub sample_has : (f : Integer) (u : ℕ) → u < 2 ^ width_of f → has f (sample_of f u) ≡ true
sample_has Unsigned8 u l = subst (λ (z : ℤ). has Unsigned8 z ≡ true) (byte_at u) (number_has Unsigned8 u l)
sample_has Signed16 u l = mag_has Signed16 refl (signed_of 16 u) (signed_mag 16 (lit≤ tt) u l)
sample_has Signed24 u l = mag_has Signed24 refl (signed_of 24 u) (signed_mag 24 (lit≤ tt) u l)
sample_has Signed32 u l = mag_has Signed32 refl (signed_of 32 u) (signed_mag 32 (lit≤ tt) u l)

-- a number's bits spell that number
pub bits_sample : (f : Integer) (n : ℤ) → has f n ≡ true → sample_of f (sample_bits f n) ≡ n
bits_sample Unsigned8 n h = byte_is n h
bits_sample Signed16 n h = bits_signed 16 (lit≤ tt) n (has_mag Signed16 refl n h)
bits_sample Signed24 n h = bits_signed 24 (lit≤ tt) n (has_mag Signed24 refl n h)
bits_sample Signed32 n h = bits_signed 32 (lit≤ tt) n (has_mag Signed32 refl n h)

pub bits_below : (f : Integer) (n : ℤ) → has f n ≡ true → sample_bits f n < 2 ^ width_of f
bits_below Unsigned8 n h = byte_below n h
bits_below Signed16 n h = bits_lt 16 (lit≤ tt) n
bits_below Signed24 n h = bits_lt 24 (lit≤ tt) n
bits_below Signed32 n h = bits_lt 32 (lit≤ tt) n

-- a whole number's bits are those of its bytes
pub whole_bytes : (f : Integer) → 256 ^ whole_size f ≡ 2 ^ width_of f
whole_bytes Unsigned8 = refl
whole_bytes Signed16 = refl
whole_bytes Signed24 = refl
whole_bytes Signed32 = refl

-- ---- slots

-- what is laid is a slot's bits, whatever the type
pub slot_below : (f : Format) (u : ℕ) → slot_of f u < 2 ^ 24
unfolding slot_of
slot_below (Whole f) u = bits_lt 24 (lit≤ tt) (converted f Signed24 (sample_of f u))
slot_below Other u = lit< tt

module _ (f : Integer) (u : ℕ) (l : u < 2 ^ width_of f) where
  -- the number in a slot is the sample's, converted
  pub slot_number_is : signed_of 24 (slot_of (Whole f) u) ≡ converted f Signed24 (sample_of f u)
  unfolding slot_of
  slot_number_is = bits_sample Signed24 (converted f Signed24 (sample_of f u)) (converted_has f Signed24 (sample_of f u) (sample_has f u l))

  -- a sample laid is the nearest 24-bit number to it
  pub slot_nearest : Nearest (value_of f (sample_of f u)) Signed24 (signed_of 24 (slot_of (Whole f) u))
  slot_nearest = rw slot_number_is (converted_nearest f Signed24 (sample_of f u) (sample_has f u l))

module _ (f : Integer) (s : ℕ) (l : s < 2 ^ 24) where
  slot_has : has Signed24 (signed_of 24 s) ≡ true
  slot_has = sample_has Signed24 s l

  pub sent_number_is : sample_of f (sent_of (Whole f) s) ≡ converted Signed24 f (signed_of 24 s)
  unfolding sent_of
  sent_number_is = bits_sample f (converted Signed24 f (signed_of 24 s)) (converted_has Signed24 f (signed_of 24 s) slot_has)

  sent_bits : sent_of (Whole f) s < 2 ^ width_of f
  unfolding sent_of
  sent_bits = bits_below f (converted Signed24 f (signed_of 24 s)) (converted_has Signed24 f (signed_of 24 s) slot_has)

  -- a sample sent is the nearest of its type to the slot
  pub sent_nearest : Nearest (value_of Signed24 (signed_of 24 s)) f (sample_of f (sent_of (Whole f) s))
  sent_nearest = rw sent_number_is (converted_nearest Signed24 f (signed_of 24 s) slot_has)

-- what is sent is the bits of a sample's bytes, whatever the type
pub sent_below : (f : Format) (s : ℕ) → s < 2 ^ 24 → sent_of f s < 256 ^ size_of f
unfolding sent_of
sent_below (Whole f) s l = rw (whole_bytes f) (sent_bits f s l)
sent_below Other s l = lit< tt

-- sent and laid again, a slot is the slot as the type carries it
pub sent_slot : (f : Format) (s : ℕ) → s < 2 ^ 24 → slot_of f (sent_of f s) ≡ bits_of 24 (carried f (signed_of 24 s))
unfolding slot_of carried bits_of
sent_slot (Whole f) s l = rw (sent_number_is f s l)
sent_slot Other s l = refl

-- what the type carries is a 24-bit number
pub carried_has : (f : Format) (n : ℤ) → has Signed24 n ≡ true → has Signed24 (carried f n) ≡ true
unfolding carried
carried_has (Whole f) n q = converted_has f Signed24 (converted Signed24 f n) (converted_has Signed24 f n q)
carried_has Other n q = refl
