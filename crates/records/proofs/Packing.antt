-- Eight slots in three words of eight bytes, and four in three of four, stored one after the other.
use mathlib.Core.Path.{◌≡◌, refl, ◌∙◌}
use mathlib.Core.List.{List, ◌∷◌, [], ◌++◌, append_assoc}
use Prim.Native.Nat.{ℕ, ◌+◌, ◌*◌, ◌/◌, ◌%◌, ◌^◌, ◌<◌}
use native.Mathlib.Omega.{arith}
use lib.ListN.{length, length-append}
use borrow.Rule.Slice.PartMut.{put_mid}
use Rattle.lists.specs.Lists.{byte, put, up_to}
use Rattle.lists.specs.Little.{bytes_of}
use Rattle.lists.proofs.Lists.{lent, put_next, put_whole, up_to_length}
use Rattle.lists.proofs.Little.{bytes_length, bytes_joined}
use Rattle.track_rules.specs.Records.{record_of}
use Rattle.records.specs.Frames.{half_of}

-- the part after what is written already
pub after : (d s t xs : List ℕ) (n m : ℕ) → xs ≡ put d 0 s → length s ≡ n → length t ≡ m → put_mid n m xs t ≡ put d 0 (s ++ t)
after d s t xs n m p hs ht = rw (p, lent (put d 0 s) t n m ht) (put_next d s t n hs)

-- three words of n bytes over the whole of what was lent
three_words : (n : ℕ) (out : List ℕ) (x y z : ℕ) → length out ≡ n + n + n
    → put_mid (n + n) n (put_mid n n (put_mid 0 n out (bytes_of n x)) (bytes_of n y)) (bytes_of n z) ≡ (bytes_of n x ++ bytes_of n y) ++ bytes_of n z
three_words n out x y z h =
    let a = bytes_of n x in
    let b = bytes_of n y in
    let c = bytes_of n z in
    let ab : length (a ++ b) ≡ n + n = rw (length-append a b, bytes_length n x, bytes_length n y) in
    let abc : length ((a ++ b) ++ c) ≡ n + n + n = rw (length-append (a ++ b) c, ab, bytes_length n z) in
    let one = lent out a 0 n (bytes_length n x) in
    let two = after out a b _ n n one (bytes_length n x) (bytes_length n y) in
    after out (a ++ b) c _ (n + n) n two ab (bytes_length n z) ∙ put_whole out ((a ++ b) ++ c) (rw abc h)

-- numbers side by side in a word
pub joined : (m n u v w : ℕ) (xs : List ℕ) → u < 256 ^ m → w ≡ u + v * 256 ^ m → bytes_of n v ≡ xs → bytes_of (m + n) w ≡ bytes_of m u ++ xs
joined m n u v w xs l e p = rw e (bytes_joined m n u v l ∙ rw p)

-- a slot that two words share
cut_high : (c : ℕ) → bytes_of 3 c ≡ bytes_of 2 (c % 65536) ++ bytes_of 1 (c / 65536)
cut_high c = joined 2 1 (c % 65536) (c / 65536) c _ (omega arith) (omega arith) refl

cut_low : (c : ℕ) → bytes_of 3 c ≡ bytes_of 1 (c % 256) ++ bytes_of 2 (c / 256)
cut_low c = joined 1 2 (c % 256) (c / 256) c _ (omega arith) (omega arith) refl

module _ (c0 c1 c2 c3 c4 c5 c6 c7 : ℕ) (h0 : c0 < 16777216) (h1 : c1 < 16777216) (h2 : c2 < 16777216) (h3 : c3 < 16777216)
    (h4 : c4 < 16777216) (h5 : c5 < 16777216) (h6 : c6 < 16777216) (h7 : c7 < 16777216) where
  low : bytes_of 8 (c0 + c1 * 16777216 + c2 % 65536 * 281474976710656) ≡ bytes_of 3 c0 ++ (bytes_of 3 c1 ++ bytes_of 2 (c2 % 65536))
  low = joined 3 5 c0 (c1 + c2 % 65536 * 16777216) _ _ h0 (omega arith) (bytes_joined 3 2 c1 (c2 % 65536) h1)

  middle : bytes_of 8 (c2 / 65536 + c3 * 256 + c4 * 4294967296 + c5 % 256 * 72057594037927936)
      ≡ bytes_of 1 (c2 / 65536) ++ (bytes_of 3 c3 ++ (bytes_of 3 c4 ++ bytes_of 1 (c5 % 256)))
  middle =
      joined 1 7 (c2 / 65536) (c3 + (c4 + c5 % 256 * 16777216) * 16777216) _ _ (omega arith) (omega arith)
      (joined 3 4 c3 (c4 + c5 % 256 * 16777216) _ _ h3 refl (bytes_joined 3 1 c4 (c5 % 256) h4))

  high : bytes_of 8 (c5 / 256 + c6 * 65536 + c7 * 1099511627776) ≡ bytes_of 2 (c5 / 256) ++ (bytes_of 3 c6 ++ bytes_of 3 c7)
  high = joined 2 6 (c5 / 256) (c6 + c7 * 16777216) _ _ (omega arith) (omega arith) (bytes_joined 3 3 c6 c7 h6)

  pub packed : (out ys0 ys1 ys2 : List ℕ) → length out ≡ 24
      → ys0 ≡ bytes_of 8 (c0 + c1 * 16777216 + c2 % 65536 * 281474976710656)
      → ys1 ≡ bytes_of 8 (c2 / 65536 + c3 * 256 + c4 * 4294967296 + c5 % 256 * 72057594037927936)
      → ys2 ≡ bytes_of 8 (c5 / 256 + c6 * 65536 + c7 * 1099511627776)
      → put_mid 16 8 (put_mid 8 8 (put_mid 0 8 out ys0) ys1) ys2 ≡ record_of (byte (c0 ∷ c1 ∷ c2 ∷ c3 ∷ c4 ∷ c5 ∷ c6 ∷ c7 ∷ []))
  unfolding record_of up_to
  packed out ys0 ys1 ys2 h p q r = rw (p, q, r) (three_words 8 out _ _ _ h ∙ rw (low, middle, high, cut_high c2, cut_low c5) (simp append_assoc))

pub half_length : (slots : ℕ → ℕ) → length (half_of slots) ≡ 12
unfolding half_of
half_length slots = up_to_length 3 (λ c. bytes_of 3 (slots c)) (λ c. bytes_length 3 (slots c)) 4

-- four slots in words of four bytes
module _ (c0 c1 c2 c3 : ℕ) (h0 : c0 < 16777216) (h1 : c1 < 16777216) (h2 : c2 < 16777216) (h3 : c3 < 16777216) where
  first_word : bytes_of 4 (c0 + c1 % 256 * 16777216) ≡ bytes_of 3 c0 ++ bytes_of 1 (c1 % 256)
  first_word = bytes_joined 3 1 c0 (c1 % 256) h0

  second_word : bytes_of 4 (c1 / 256 + c2 % 65536 * 65536) ≡ bytes_of 2 (c1 / 256) ++ bytes_of 2 (c2 % 65536)
  second_word = bytes_joined 2 2 (c1 / 256) (c2 % 65536) (omega arith)

  third_word : bytes_of 4 (c2 / 65536 + c3 * 256) ≡ bytes_of 1 (c2 / 65536) ++ bytes_of 3 c3
  third_word = bytes_joined 1 3 (c2 / 65536) c3 (omega arith)

  pub half_packed : (out ys0 ys1 ys2 : List ℕ) → length out ≡ 12 → ys0 ≡ bytes_of 4 (c0 + c1 % 256 * 16777216)
      → ys1 ≡ bytes_of 4 (c1 / 256 + c2 % 65536 * 65536) → ys2 ≡ bytes_of 4 (c2 / 65536 + c3 * 256)
      → put_mid 8 4 (put_mid 4 4 (put_mid 0 4 out ys0) ys1) ys2 ≡ half_of (byte (c0 ∷ c1 ∷ c2 ∷ c3 ∷ []))
  unfolding half_of up_to
  half_packed out ys0 ys1 ys2 h p q r =
      rw (p, q, r) (three_words 4 out _ _ _ h ∙ rw (first_word, second_word, third_word, cut_low c1, cut_high c2) (simp append_assoc))
