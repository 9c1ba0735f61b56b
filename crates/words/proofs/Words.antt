-- The library's bytes of a number, and the number that it reads from bytes, are the definitions'.
use mathlib.Core.Path.{◌≡◌, refl, sym, ap, ◌∙◌}
use mathlib.Core.List.{List}
use Prim.Native.Nat.{ℕ, ◌+◌, ◌-◌, ◌*◌, ◌/◌, ◌≤◌, zero-le}
use native.Mathlib.Nat.{zero-add}
use native.Mathlib.Omega.{arith}
use lib.ListN.{length, take, drop, replicate, length-take, length-drop}
use lib.Seq.{take_at}
use borrow.Rule.Slice.PartMut.{put_mid}
use mir.Syntax.{w32, w64}
use Rattle.std.specs.Int.{from_le_bytes, to_le_bytes}
use Rattle.lists.specs.Lists.{byte, put}
use Rattle.lists.specs.Little.{little, bytes_of}
use Rattle.lists.proofs.Lists.{lent, zero_at, put_inside, put_after}
use Rattle.lists.proofs.Little.{little_one, little_last, little_joined, little_same, little_zero, little_part, bytes_from, bytes_none, bytes_split, bytes_length}

-- ---- read

spelled4 : (bs : List ℕ) → from_le_bytes w32 bs ≡ little 4 bs 0
unfolding little
spelled4 bs = omega arith

spelled8 : (bs : List ℕ) → from_le_bytes w64 bs ≡ little 8 bs 0
unfolding little
spelled8 bs = omega arith

-- four bytes one by one
pub bytes_at : (d : List ℕ) (a x y z u : ℕ) → x ≡ byte d a → y ≡ byte d (a + 1) → z ≡ byte d (a + 2) → u ≡ byte d (a + 3)
    → x + y * 256 + z * 65536 + u * 16777216 ≡ little 4 d a
bytes_at d a x y z u p q r s = omega (arith, little_one d a, little_last 1 d a, little_last 2 d a, little_last 3 d a)

-- n bytes written over the front of four zeros spell what they spelled
module _ (d : List ℕ) (a n : ℕ) (l : n ≤ 4) (h : a + n ≤ length d) where
  abbrev part : List ℕ
  part = take (a + n - a) (drop a d)

  abbrev zeros : List ℕ
  zeros = replicate 4 0

  part_length : length part ≡ n
  part_length = simp (length-take, length-drop) (omega arith)

  front : little n (put zeros 0 part) 0 ≡ little n d a
  front =
      little_same n (put zeros 0 part) part 0 0 (λ j g. put_inside zeros part 0 zero-le j (rw part_length g) ∙ ap (byte part) (sym (zero-add j)))
      ∙ little_part n d a (a + n - a) (omega arith)

  rest : little (4 - n) (put zeros 0 part) (0 + n) ≡ 0
  rest =
      little_zero (4 - n) (put zeros 0 part) (0 + n)
      (λ j g. put_after zeros part 0 zero-le (0 + n + j) (rw part_length (omega arith)) ∙ zero_at 4 (0 + n + j))

  spelled : little 4 (put zeros 0 part) 0 ≡ little n d a
  spelled =
      let e : 4 ≡ n + (4 - n) = omega arith in
      ap (λ (k : ℕ). little k (put zeros 0 part) 0) e ∙ little_joined n (4 - n) (put zeros 0 part) 0 ∙ rw (front, rest) (omega arith)

  pub got : (ys : List ℕ) (r : ℕ) → ys ≡ part → r ≡ from_le_bytes w32 (put_mid 0 n zeros ys) → r ≡ little n d a
  got ys r p e = e ∙ spelled4 (put_mid 0 n zeros ys) ∙ rw (p, lent zeros part 0 n part_length) spelled

pub got8 : (d : List ℕ) (a : ℕ) (ys : List ℕ) (r : ℕ) → ys ≡ take (a + 8 - a) (drop a d) → r ≡ from_le_bytes w64 ys → r ≡ little 8 d a
got8 d a ys r p e = e ∙ spelled8 ys ∙ rw p (little_part 8 d a (a + 8 - a) (omega arith))

-- ---- stored

module _ (v : ℕ) where
  whole : (n : ℕ) → bytes_of n (v / 1) ≡ bytes_of n v
  whole n = ap (bytes_of n) (omega arith)

  bytes4 : to_le_bytes w32 v ≡ bytes_of 4 v
  bytes4 =
      bytes_from 3 v 0 _ _ (omega arith) (bytes_from 2 v 1 _ _ refl (bytes_from 1 v 2 _ _ refl (bytes_from 0 v 3 _ _ refl (bytes_none _))))
      ∙ whole 4

  -- of a number w that is v
  pub bytes8 : (w : ℕ) → w ≡ v → to_le_bytes w64 w ≡ bytes_of 8 v
  bytes8 w same =
      ap (to_le_bytes w64) same
      ∙ bytes_from 7 v 0 _ _ (omega arith) (bytes_from 6 v 1 _ _ refl (bytes_from 5 v 2 _ _ refl (bytes_from 4 v 3 _ _ refl
      (bytes_from 3 v 4 _ _ refl (bytes_from 2 v 5 _ _ refl (bytes_from 1 v 6 _ _ refl (bytes_from 0 v 7 _ _ refl (bytes_none _))))))))
      ∙ whole 8

  pub first_bytes : (w n : ℕ) → w ≡ v → n ≤ 4 → take n (to_le_bytes w32 w) ≡ bytes_of n v
  first_bytes w n same l =
      let e : 4 ≡ n + (4 - n) = omega arith in
      ap (take n) (ap (to_le_bytes w32) same ∙ bytes4 ∙ ap (λ (k : ℕ). bytes_of k v) e ∙ bytes_split n (4 - n) v) ∙ take_at (bytes_of n v) _ n (bytes_length n v)
