-- Half a step less one (past the last place, -1) and the parity added, the low bits dropped: the definition's `narrowed`, on signed numbers.
use mathlib.Core.Path.{◌≡◌, sym, ap, ◌∙◌}
use Prim.Native.Nat.{ℕ, ◌+◌, ◌-◌, ◌*◌, ◌/◌, ◌%◌, ◌^◌, min, ◌≤◌, ◌<◌}
use native.Mathlib.Omega.{arith}
use native.Mathlib.Decide.{dec_lt}
use native.Mathlib.Nat.{div-add-mod', mod-lt, add-mul}
use lib.Arith.{digits_div}
use lib.Pow.{pow_pos, pow-add, pow_mono, shr_lt, shr_mono}
use lib.IntN.{ℤ, pos, negsuc, nat_abs, sub_ℕ, ◌+ℤ◌, ◌-ℤ◌}
use lib.Signed.{mag, shr_z, lt_z}
use lib.Dec.{ltb}
use borrow.Author.Tests.{lt-ltb, le-ltb}
use mir.Syntax.{w32}
use mir.Val.{SFits}
use mir.Facts.{to_z-of_z}
use Rattle.lists.specs.Tables.{choose}
use Rattle.sample_rules.specs.Convert.{rank, rounded_of, narrowed}
use Rattle.formats.proofs.Machine.{Long, Int, back}
use Rattle.sample_rules.proofs.Places.{doubles, sub_le, sub_rank, rank_lt, sub_mag, plus, pos_minus}
use Rattle.sample_rules.proofs.Rescaled.{narrowed_lt}
use Rattle.sample_rules.proofs.Signed.{shifted, parity, less_is}

-- ---- on places, over half a step h

added : (q t h : ℕ) → t < h + h → rounded_of q t (h + h) ≡ (q * (h + h) + t + (h - 1) + q % 2) / (h + h)
added q t h l = elim (dec_lt (t * 2) (h + h)) [
  | yes a ↦
      (let g : t + (h - 1) + q % 2 < h + h = omega arith in
      rw (lt-ltb (t * 2) (h + h) a) (sym (ap (λ (x : ℕ). x / (h + h)) (omega arith) ∙ digits_div q g)))
  | no a ↦ elim (dec_lt (h + h) (t * 2)) [
    | yes b ↦
        (let r = t + (h - 1) + q % 2 - (h + h) in
        let g : r < h + h = omega arith in
        let e : q * (h + h) + t + (h - 1) + q % 2 ≡ (q + 1) * (h + h) + r = omega (arith, add-mul q 1 (h + h)) in
        rw (le-ltb (t * 2) (h + h) (omega arith), lt-ltb (h + h) (t * 2) b) (sym (ap (λ (x : ℕ). x / (h + h)) e ∙ digits_div (q + 1) g)))
    | no b ↦ rw (le-ltb (t * 2) (h + h) (omega arith), le-ltb (h + h) (t * 2) (omega arith)) (elim (dec_lt 0 (q % 2)) [
      | yes o ↦
          (let x : q + q % 2 ≡ q + 1 = omega arith in
          let e : q * (h + h) + t + (h - 1) + q % 2 ≡ (q + 1) * (h + h) + 0 = omega (arith, add-mul q 1 (h + h)) in
          rw x (sym (ap (λ (y : ℕ). y / (h + h)) e ∙ digits_div (q + 1) (omega arith))))
      | no o ↦
          (let x : q + q % 2 ≡ q = omega arith in
          let e : q * (h + h) + t + (h - 1) + q % 2 ≡ q * (h + h) + (h + h - 1) = omega arith in
          rw x (sym (ap (λ (y : ℕ). y / (h + h)) e ∙ digits_div q (omega arith))))
    ])
  ]
]

rounds_to : (u h : ℕ) → 0 < h → rounded_of (u / (h + h)) (u % (h + h)) (h + h) ≡ (u + (h - 1) + u / (h + h) % 2) / (h + h)
rounds_to u h l =
    let p = h + h in
    added (u / p) (u % p) h (mod-lt u (omega arith)) ∙ rw (div-add-mod' u p)

-- ---- over the widths

-- B and b are half the wider and half the narrower type's numbers, P is a step and h half of it, q the narrower type's last place
module _ (k v : ℕ) (hk : 1 ≤ k) (hv : 2 ≤ v) where
  abbrev B : ℕ
  B = 2 ^ (v + k - 1)

  abbrev b : ℕ
  b = 2 ^ (v - 1)

  abbrev P : ℕ
  P = 2 ^ k

  abbrev h : ℕ
  h = 2 ^ (k - 1)

  abbrev q : ℕ
  q = 2 ^ v - 1

  two_halves : P ≡ h + h
  two_halves = doubles k hk

  room : h + h ≤ B
  room = rw (← two_halves) (pow_mono {i = k} {j = v + k - 1} (omega arith))

  some : 0 < h
  some = pow_pos (k - 1)

  all : 2 ^ (v + k) ≡ B + B
  all = doubles (v + k) (omega arith)

  all_places : q * P + P ≡ B + B
  all_places =
      let e : q + 1 ≡ 2 ^ v = omega (arith, pow_pos v) in
      omega (arith, add-mul q 1 P, ap (λ (x : ℕ). x * P) e, pow-add 2 v k, all)

  q_odd : q % 2 ≡ 1
  q_odd = omega (arith, doubles v (omega arith), pow_pos (v - 1))

  b_even : b % 2 ≡ 0
  b_even = rw (doubles (v - 1) (omega arith)) (omega arith)

  -- a shift by k bits, on places
  shifts : (y : ℕ) → shr_z (sub_ℕ y B) P ≡ sub_ℕ (y / P) b
  shifts y =
      let e : v + k - 1 ≡ (v - 1) + k = omega arith in
      let w : B ≡ b * P = ap (λ (x : ℕ). 2 ^ x) e ∙ pow-add 2 (v - 1) k in
      rw w (shifted y b P (pow_pos k))

  -- past it a place would be rounded past q
  abbrev end : ℕ
  end = B + (B - h - 1)

  module _ (u : ℕ) (g : u < B + B) where
    abbrev raised : ℕ
    raised = u + (h - 1) + u / P % 2

    narrowed_is : narrowed k v u ≡ min (raised / P) q
    unfolding narrowed
    narrowed_is = ap (λ (x : ℕ). min x q) (rw two_halves (rounds_to u h some))

    -- what the code computes, on the place u
    abbrev stepped : ℕ
    stepped = choose (ltb end u) (u - 1) (u + (h - 1))

    abbrev risen : ℕ
    risen = stepped + u / P % 2

    -- past the end the quotient is the last place, which is odd, so that the place stays
    module _ (l : end < u) where
      rest : u ≡ q * P + (u - q * P)
      rest = omega (arith, all_places, two_halves, room, some)

      last_quotient : u / P ≡ q
      last_quotient = ap (λ (x : ℕ). x / P) rest ∙ digits_div q (omega (arith, all_places, rest))

      no_less : q ≤ raised / P
      no_less = omega (arith, last_quotient, shr_mono {a = u} {b = raised} k (omega arith))

      stays : risen ≡ u
      stays = rw (lt-ltb end u l, last_quotient) (omega (arith, q_odd))

    risen_lt : risen < B + B
    risen_lt = elim (dec_lt end u) [
      | yes l ↦ rw (stays l) g
      | no l ↦ rw (le-ltb end u (omega arith)) (omega (arith, some, room))
    ]

    rounded : risen / P ≡ narrowed k v u
    rounded = elim (dec_lt end u) [
      | yes l ↦ rw (stays l, last_quotient l, narrowed_is) (omega (arith, no_less l))
      | no l ↦
          (let n : raised < 2 ^ (v + k) = omega (arith, all, some, room) in
          rw (le-ltb end u (omega arith), narrowed_is) (omega (arith, shr_lt {n = raised} v k n)))
    ]

  -- ---- as the machine computes it, in 32 bits

  module _ (n : ℤ) (s : SFits w32 n) (few_bits : v + k ≤ 32) (small : mag n < B) where
    abbrev u : ℕ
    u = rank B n

    u_lt : u < B + B
    u_lt = rank_lt B n small

    few : B ≤ 2 ^ 31
    few = pow_mono {i = v + k - 1} {j = 31} (omega arith)

    fit : (y : ℕ) → y < B + B → SFits w32 (sub_ℕ y B)
    fit y l = record { sfits = sub_mag y B (2 ^ 31) (omega (arith, few)) few }

    held : (y : ℕ) → y < B + B → Int (sub_ℕ y B) ≡ sub_ℕ y B
    held y l = to_z-of_z (fit y l)

    held_pos : (y : ℕ) → y < B → Int (pos y) ≡ pos y
    held_pos y l = to_z-of_z {w = w32} (record { sfits = omega (arith, few) })

    narrow_held : (y : ℕ) → y < 2 ^ v → Int (sub_ℕ y b) ≡ sub_ℕ y b
    narrow_held y l =
        let f : b ≤ 2 ^ 31 = pow_mono {i = v - 1} {j = 31} (omega arith) in
        to_z-of_z {w = w32} (record { sfits = sub_mag y b (2 ^ 31) (omega (arith, doubles v (omega arith), f)) f })

    number : Int n ≡ sub_ℕ u B
    number = to_z-of_z s ∙ sym (sub_rank B n small)

    module _ (p : ℤ) (ep : p ≡ pos h) where
      half : Int (Long (Long p -ℤ pos 1)) ≡ pos (h - 1)
      half =
          rw (ep, back (pos h) (omega (arith, few, room)), pos_minus h 1 ∙ sub_le h 1 some, back (pos (h - 1)) (omega (arith, few, room)))
          (held_pos (h - 1) (omega (arith, room, some)))

      module _ (z : ℤ) (ez : z ≡ pos (B - h - 1)) (m : ℤ) (em : m ≡ choose (lt_z (Int z) (Int n)) (negsuc 0) (Int (Long (Long p -ℤ pos 1)))) where
        last_is : Int z ≡ sub_ℕ end B
        last_is = rw (ez, held_pos (B - h - 1) (omega (arith, room, some))) (sym (sub_le end B (omega arith) ∙ ap pos (omega arith)))

        step_is : m ≡ choose (ltb end u) (negsuc 0) (pos (h - 1))
        step_is = em ∙ rw (number, last_is, less_is end u B, half)

        sum : Int n +ℤ Int m ≡ sub_ℕ (stepped u u_lt) B
        sum = rw (number, step_is) (elim (dec_lt end u) [
          | yes l ↦ rw (lt-ltb end u l, sub_le u B (omega arith), sub_le (u - 1) B (omega arith)) (sub_le (u - B) 1 (omega arith) ∙ ap pos (omega arith))
          | no l ↦ rw (le-ltb end u (omega arith), held_pos (h - 1) (omega (arith, room, some))) (plus u B (h - 1))
        ])

        module _ (o : ℤ) (eo : o ≡ pos (nat_abs (Int (shr_z (Int n) P)) % 2)) where
          whole : Int (shr_z (Int n) P) ≡ sub_ℕ (u / P) b
          whole = rw (number, shifts u) (narrow_held (u / P) (shr_lt {n = u} v k (omega (arith, all, u_lt))))

          parity_bit : o ≡ pos (u / P % 2)
          parity_bit = eo ∙ ap pos (rw whole (parity (u / P) b b_even))

          abbrev Sum : ℤ
          Sum = Int (Int n +ℤ Int m) +ℤ Int o

          whole_sum : Sum ≡ sub_ℕ (risen u u_lt) B
          whole_sum =
              rw (sum, held (stepped u u_lt) (omega (arith, risen_lt u u_lt)), parity_bit, held_pos (u / P % 2) (omega (arith, some, room)))
              (plus (stepped u u_lt) B (u / P % 2))

          pub fits_all : SFits w32 Sum
          fits_all = rw whole_sum (fit (risen u u_lt) (risen_lt u u_lt))

          pub is_narrowed : Int (shr_z (Int Sum) P) ≡ sub_ℕ (narrowed k v u) b
          is_narrowed =
              rw (whole_sum, held (risen u u_lt) (risen_lt u u_lt), shifts (risen u u_lt), rounded u u_lt)
              (narrow_held (narrowed k v u) (narrowed_lt k v u))
