-- Four samples of 8 bits joined in one word: channels side by side, or frames.
use mathlib.Core.Path.{◌≡◌, refl, sym, ap, ◌∙◌}
use mathlib.Core.List.{List, ◌++◌, ◌∷◌, [], append_assoc}
use Prim.Native.Nat.{ℕ, ◌+◌, ◌*◌, ◌/◌, ◌%◌, ◌^◌, ◌<◌}
use native.Mathlib.Nat.{add-zero}
use native.Mathlib.Omega.{arith}
use lib.Bits.{bit_xor}
use lib.ListN.{length, length-append}
use borrow.Rule.Slice.PartMut.{put_mid}
use Rattle.lists.specs.Lists.{up_to}
use Rattle.lists.specs.Little.{bytes_of}
use Rattle.lists.proofs.Lists.{lent, put_whole}
use Rattle.lists.proofs.Little.{bytes_from, bytes_none, bytes_length}
use Rattle.words.proofs.Flipped.{flipped_byte}
use Rattle.formats.specs.Formats.{unsigned8}
use Rattle.records.proofs.Packing.{after}
use Rattle.records.proofs.Taking.{frames_joined}
use Rattle.records.specs.Frames.{sent_at, frame_out, frames_out, run_out}

digits : (a b c d n : ℕ) → a < 256 → b < 256 → c < 256 → d < 256 → n ≡ a + b * 256 + c * 65536 + d * 16777216
    → (n / 1 % 256 ≡ a) × (n / 256 % 256 ≡ b) × (n / 65536 % 256 ≡ c) × (n / 16777216 % 256 ≡ d)
digits a b c d n h i j k e =
    let q : n / 256 ≡ b + c * 256 + d * 65536 = omega arith in
    let r : n / 65536 ≡ c + d * 256 = omega arith in
    let s : n / 16777216 ≡ d = omega arith in
    (omega arith, rw q (omega arith), rw r (omega arith), rw s (omega arith))

-- each byte of the word is 128 away
pub four_bytes : (a b c d r : ℕ) → a < 256 → b < 256 → c < 256 → d < 256 → r ≡ bit_xor (a + b * 256 + c * 65536 + d * 16777216) 0x80808080
    → bytes_of 4 r ≡ (a + 128) % 256 ∷ (b + 128) % 256 ∷ (c + 128) % 256 ∷ (d + 128) % 256 ∷ []
four_bytes a b c d r h i j k e =
    let n = a + b * 256 + c * 65536 + d * 16777216 in
    let g = digits a b c d n h i j k refl in
    let one : (p x : ℕ) → 0x80808080 / 2 ^ p % 256 ≡ 128 → n / 2 ^ p % 256 ≡ x → (x + 128) % 256 ≡ r / 2 ^ p % 256
    = λ p x t q. sym (rw e (flipped_byte 0x80808080 n p t ∙ ap (λ (y : ℕ). (y + 128) % 256) q)) in
    let whole : r ≡ r / 1 = omega arith in
    ap (bytes_of 4) whole
    ∙ sym (bytes_from 3 r 0 _ _ (one 0 a refl g.0) (bytes_from 2 r 1 _ _ (one 8 b refl g.1)
    (bytes_from 1 r 2 _ _ (one 16 c refl g.2) (bytes_from 0 r 3 _ _ (one 24 d refl g.3) (bytes_none _)))))

-- a byte by itself
alone : (x : ℕ) → bytes_of 1 (x % 256) ≡ x % 256 ∷ []
unfolding bytes_of
alone x = let e : x % 256 % 256 ≡ x % 256 = omega arith in rw e

-- bytes come less 128
module _ (t : List ℕ) (at : ℕ) (a b c d r : ℕ) (e : bytes_of 4 r ≡ (a + 128) % 256 ∷ (b + 128) % 256 ∷ (c + 128) % 256 ∷ (d + 128) % 256 ∷ []) where
  four : bytes_of 4 r ≡ ((bytes_of 1 ((a + 128) % 256) ++ bytes_of 1 ((b + 128) % 256)) ++ bytes_of 1 ((c + 128) % 256)) ++ bytes_of 1 ((d + 128) % 256)
  four = e ∙ rw (alone (a + 128), alone (b + 128), alone (c + 128), alone (d + 128))

  pub four_channels : (n : ℕ) → (a + 128) % 256 ≡ sent_at unsigned8 t at n → (b + 128) % 256 ≡ sent_at unsigned8 t at (n + 1)
      → (c + 128) % 256 ≡ sent_at unsigned8 t at (n + 2) → (d + 128) % 256 ≡ sent_at unsigned8 t at (n + 3) → bytes_of 4 r ≡ run_out unsigned8 t at n 4
  unfolding run_out up_to
  four_channels n p q u v = four ∙ rw (p, q, u, v, add-zero n)

  pub two_pairs : (a + 128) % 256 ≡ sent_at unsigned8 t at 0 → (b + 128) % 256 ≡ sent_at unsigned8 t at 1
      → (c + 128) % 256 ≡ sent_at unsigned8 t (at + 24) 0 → (d + 128) % 256 ≡ sent_at unsigned8 t (at + 24) 1
      → bytes_of 4 r ≡ frames_out unsigned8 t at 24 2 2
  unfolding frames_out frame_out up_to
  two_pairs p q u v =
      let i : at + 0 * 24 ≡ at = omega arith in
      let j : at + 1 * 24 ≡ at + 24 = omega arith in
      four ∙ rw (i, j, p, q, u, v) (simp append_assoc)

  pub four_frames : (a + 128) % 256 ≡ sent_at unsigned8 t at 0 → (b + 128) % 256 ≡ sent_at unsigned8 t (at + 24) 0
      → (c + 128) % 256 ≡ sent_at unsigned8 t (at + 48) 0 → (d + 128) % 256 ≡ sent_at unsigned8 t (at + 72) 0
      → bytes_of 4 r ≡ frames_out unsigned8 t at 24 4 1
  unfolding frames_out frame_out up_to
  four_frames p q u v =
      let i : at + 0 * 24 ≡ at = omega arith in
      let j : at + 1 * 24 ≡ at + 24 = omega arith in
      let k : at + 2 * 24 ≡ at + 48 = omega arith in
      let l : at + 3 * 24 ≡ at + 72 = omega arith in
      four ∙ rw (i, j, k, l, p, q, u, v)

-- sixteen frames as four words, each in the part that it is lent
module _ (t : List ℕ) (at : ℕ) where
  -- n frames from the m-th on
  abbrev part : ℕ → ℕ → List ℕ
  part m n = frames_out unsigned8 t (at + m * 24) 24 n 1

  sixteen : frames_out unsigned8 t at 24 16 1 ≡ ((frames_out unsigned8 t at 24 4 1 ++ part 4 4) ++ part 8 4) ++ part 12 4
  sixteen =
      frames_joined unsigned8 t at 24 12 4 1
      ∙ ap (λ (l : List ℕ). l ++ part 12 4)
      (frames_joined unsigned8 t at 24 8 4 1 ∙ ap (λ (l : List ℕ). l ++ part 8 4) (frames_joined unsigned8 t at 24 4 4 1))

  pub sixteen_frames : (out a b c d : List ℕ) (v w x y : ℕ) → length out ≡ 16 → a ≡ bytes_of 4 v → b ≡ bytes_of 4 w → c ≡ bytes_of 4 x
      → d ≡ bytes_of 4 y → bytes_of 4 v ≡ frames_out unsigned8 t at 24 4 1 → bytes_of 4 w ≡ part 4 4 → bytes_of 4 x ≡ part 8 4
      → bytes_of 4 y ≡ part 12 4 → put_mid 12 4 (put_mid 8 4 (put_mid 4 4 (put_mid 0 4 out a) b) c) d ≡ frames_out unsigned8 t at 24 16 1
  sixteen_frames out a b c d v w x y h p q r s e f g i =
      let la : length a ≡ 4 = ap length p ∙ bytes_length 4 v in
      let lb : length b ≡ 4 = ap length q ∙ bytes_length 4 w in
      let lc : length c ≡ 4 = ap length r ∙ bytes_length 4 x in
      let ld : length d ≡ 4 = ap length s ∙ bytes_length 4 y in
      let ab : length (a ++ b) ≡ 8 = rw (length-append a b, la, lb) in
      let abc : length ((a ++ b) ++ c) ≡ 12 = rw (length-append (a ++ b) c, ab, lc) in
      let abcd : length (((a ++ b) ++ c) ++ d) ≡ 16 = rw (length-append ((a ++ b) ++ c) d, abc, ld) in
      let two = after out a b _ 4 4 (lent out a 0 4 la) la lb in
      let three = after out (a ++ b) c _ 8 4 two ab lc in
      after out ((a ++ b) ++ c) d _ 12 4 three abc ld
      ∙ put_whole out (((a ++ b) ++ c) ++ d) (h ∙ sym abcd)
      ∙ rw (p, q, r, s, e, f, g, i) (sym sixteen)
