-- The laws of the data types: which are taken, by their tests, and what is known of each that is. Users of the sets cite these and look
-- into no set.
use mathlib.Core.Path.{◌≡◌, refl}
use mathlib.Core.Bool.{true}
use Prim.Native.Nat.{ℕ, ◌≤◌, ◌<◌}
use native.Mathlib.Decide.{ℕ_discrete}
use native.Mathlib.Omega.{arith}
use lib.Dec.{lit≤}
use borrow.Author.Tests.{leb-true, le-leb, eq-eqb, ne_eqb}
use Rattle.formats.specs.declared.Integer.{Integer}
use Rattle.formats.specs.declared.Integer.TheVariants.{Unsigned8, Signed16, Signed24, Signed32}
use Rattle.formats.specs.declared.Format.{Format}
use Rattle.formats.specs.declared.Format.TheVariants.{Whole, Other}
use Rattle.formats.specs.Formats.{format_of, index_of, unsigned8, signed16, signed24, signed32, MayRead, may_read, MaySend, may_send, MayConvert, may_convert, whole_size, size_of, size_at}

-- ---- types and indexes

-- the type of a type's index is the type
pub index_back : (f : Integer) → format_of (index_of f) ≡ Whole f
unfolding format_of
index_back Unsigned8 = refl
index_back Signed16 = refl
index_back Signed24 = refl
index_back Signed32 = refl

-- a fact of the types that are whole numbers, and of the rest
pub by_index : (P : Format → Type 0) (t : ℕ) → P unsigned8 → P signed16 → P signed24 → P signed32 → (3 < t → P Other) → P (format_of t)
unfolding format_of
by_index P t a b c d e = elim (ℕ_discrete t 0) [
  | yes p ↦ rw (eq-eqb t 0 p) a
  | no p ↦ elim (ℕ_discrete t 1) [
    | yes q ↦ rw (ne_eqb t 0 p, eq-eqb t 1 q) b
    | no q ↦ elim (ℕ_discrete t 2) [
      | yes r ↦ rw (ne_eqb t 0 p, ne_eqb t 1 q, eq-eqb t 2 r) c
      | no r ↦ elim (ℕ_discrete t 3) [
        | yes s ↦ rw (ne_eqb t 0 p, ne_eqb t 1 q, ne_eqb t 2 r, eq-eqb t 3 s) d
        | no s ↦ rw (ne_eqb t 0 p, ne_eqb t 1 q, ne_eqb t 2 r, ne_eqb t 3 s) (e (omega arith))
      ]
    ]
  ]
]

-- ---- which are taken

module _ (t : ℕ) where
  pub read_by : may_read t ≡ true → MayRead t
  unfolding MayRead may_read
  read_by e = leb-true t 3 e

  pub by_read : MayRead t → may_read t ≡ true
  unfolding MayRead may_read
  by_read h = le-leb t 3 h

  pub sent_by : may_send t ≡ true → MaySend t
  unfolding MaySend may_send
  sent_by e = leb-true t 3 e

  pub by_sent : MaySend t → may_send t ≡ true
  unfolding MaySend may_send
  by_sent h = le-leb t 3 h

  pub convert_by : may_convert t ≡ true → MayConvert t
  unfolding MayConvert may_convert
  convert_by e = leb-true t 3 e

  pub by_convert : MayConvert t → may_convert t ≡ true
  unfolding MayConvert may_convert
  by_convert h = le-leb t 3 h

  -- what may be sent may be read
  pub sent_read : MaySend t → MayRead t
  unfolding MayRead MaySend
  sent_read h = h

  -- what may be read has a place in three bits
  pub read_bits : MayRead t → t < 8
  unfolding MayRead
  read_bits h = omega arith

  -- and is handled
  pub read_known : MayRead t → format_of t ≡ Other → ⊥
  unfolding MayRead
  read_known h =
      by_index (λ f. f ≡ Other → ⊥) t (told Unsigned8) (told Signed16) (told Signed24) (told Signed32) (λ l. omega arith)
    where
      told : (f : Integer) → Whole f ≡ Other → ⊥
      told f p = let z : ◌≡◌ {A = ℕ} 0 1 = cc in omega arith

  -- what is converted is known too
  pub convert_known : MayConvert t → format_of t ≡ Other → ⊥
  unfolding MayRead MayConvert
  convert_known h = read_known h

-- every whole-number type is read, sent and converted

index_few : (f : Integer) → index_of f ≤ 3
index_few Unsigned8 = lit≤ tt
index_few Signed16 = lit≤ tt
index_few Signed24 = lit≤ tt
index_few Signed32 = lit≤ tt

pub whole_read : (f : Integer) → MayRead (index_of f)
unfolding MayRead
whole_read = index_few

pub whole_sent : (f : Integer) → MaySend (index_of f)
unfolding MaySend
whole_sent = index_few

pub whole_converted : (f : Integer) → MayConvert (index_of f)
unfolding MayConvert
whole_converted = index_few

-- ---- sizes

pub whole_le : (f : Integer) → whole_size f ≤ 4
whole_le Unsigned8 = lit≤ tt
whole_le Signed16 = lit≤ tt
whole_le Signed24 = lit≤ tt
whole_le Signed32 = lit≤ tt

pub size_le : (f : Format) → size_of f ≤ 4
size_le (Whole f) = whole_le f
size_le Other = lit≤ tt

-- a sample that may be read has bytes
pub read_size : (t : ℕ) → MayRead t → 1 ≤ size_at t
unfolding MayRead
read_size t h = by_index (λ f. 1 ≤ size_of f) t (lit≤ tt) (lit≤ tt) (lit≤ tt) (lit≤ tt) (λ l. absurd (omega arith))
