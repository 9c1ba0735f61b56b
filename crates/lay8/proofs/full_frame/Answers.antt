-- The bytes of the word are the frame's samples.
use mathlib.Core.Path.{◌≡◌, refl, sym, ◌∙◌}
use mathlib.Core.List.{List, ◌∷◌, []}
use Prim.Native.Nat.{ℕ, ◌+◌, ◌*◌, ◌/◌, ◌%◌, ◌^◌, ◌<◌}
use native.Mathlib.Nat.{mul-one}
use native.Mathlib.Omega.{arith}
use lib.Bits.{bit_xor}
use lib.Dec.{lit<}
use Rattle.lists.specs.Lists.{byte}
use Rattle.lists.specs.Little.{little}
use Rattle.lists.proofs.Little.{little_one, little_byte}
use Rattle.formats.specs.Formats.{unsigned8}
use Rattle.sample_rules.specs.Bits.{slot_of}
use Rattle.track_rules.specs.Records.{record_of, frame_slot}
use Rattle.records.proofs.Laid.{heard, framed}
use Rattle.words.proofs.Flipped.{flipped_byte}
use Rattle.lay8.proofs.full_frame.Goals as goal

-- the top bit of each of eight bytes
abbrev Tops : ℕ
Tops = 0x8080808080808080

-- 128 more than a byte with its top bit flipped is the byte again
centred_byte : (v k : ℕ) → Tops / 2 ^ k % 256 ≡ 128 → (bit_xor v Tops / 2 ^ k % 256 + 128) % 256 ≡ v / 2 ^ k % 256
centred_byte v k t = rw (flipped_byte Tops v k t) (omega arith)

module _ (d : List ℕ) (below : (i : ℕ) → byte d i < 256) (from : ℕ) where
  word_byte : (v c : ℕ) → v ≡ little 8 d from → c < 8 → v / 256 ^ c % 256 ≡ little 1 d (from + c * 1)
  word_byte v c e h = rw (e, mul-one c) (little_byte 8 d from c below h ∙ sym (little_one d (from + c)))

  word_framed : (out : List ℕ) (v w r0 r1 r2 r3 r4 r5 r6 r7 : ℕ) → v ≡ little 8 d from → w ≡ bit_xor v Tops
      → out ≡ record_of (byte (r0 ∷ r1 ∷ r2 ∷ r3 ∷ r4 ∷ r5 ∷ r6 ∷ r7 ∷ []))
      → r0 ≡ slot_of unsigned8 ((w / 1 % 256 + 128) % 256) → r1 ≡ slot_of unsigned8 ((w / 256 % 256 + 128) % 256)
      → r2 ≡ slot_of unsigned8 ((w / 65536 % 256 + 128) % 256) → r3 ≡ slot_of unsigned8 ((w / 16777216 % 256 + 128) % 256)
      → r4 ≡ slot_of unsigned8 ((w / 4294967296 % 256 + 128) % 256) → r5 ≡ slot_of unsigned8 ((w / 1099511627776 % 256 + 128) % 256)
      → r6 ≡ slot_of unsigned8 ((w / 281474976710656 % 256 + 128) % 256) → r7 ≡ slot_of unsigned8 ((w / 72057594037927936 % 256 + 128) % 256)
      → out ≡ record_of (frame_slot unsigned8 d from 8)
  word_framed out v w r0 r1 r2 r3 r4 r5 r6 r7 e x p e0 e1 e2 e3 e4 e5 e6 e7 =
      let one : (c k r : ℕ) → c < 8 → 2 ^ k ≡ 256 ^ c → Tops / 2 ^ k % 256 ≡ 128
      → r ≡ slot_of unsigned8 ((w / 2 ^ k % 256 + 128) % 256) → r ≡ frame_slot unsigned8 d from 8 c
      = λ c k r h i t s. heard unsigned8 d from 8 c _ r r h (rw (x, centred_byte v k t, i) (word_byte v c e h)) s refl in
      framed (frame_slot unsigned8 d from 8) out r0 r1 r2 r3 r4 r5 r6 r7 p
      (one 0 0 r0 (lit< tt) refl refl e0) (one 1 8 r1 (lit< tt) refl refl e1) (one 2 16 r2 (lit< tt) refl refl e2)
      (one 3 24 r3 (lit< tt) refl refl e3) (one 4 32 r4 (lit< tt) refl refl e4) (one 5 40 r5 (lit< tt) refl refl e5)
      (one 6 48 r6 (lit< tt) refl refl e6) (one 7 56 r7 (lit< tt) refl refl e7)

pub returns : goal.returns
returns c = search (word_framed c.args.d.now (λ i. (c.type_inv.d i).fits))
