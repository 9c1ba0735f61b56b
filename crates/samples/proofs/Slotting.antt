-- Slots as the code makes them, on plain values. Nothing is to be believed here.
use mathlib.Core.Path.{◌≡◌, sym, ap, ◌∙◌}
use Prim.Native.Nat.{ℕ, ◌^◌, ◌<◌}
use native.Mathlib.Omega.{arith}
use lib.Dec.{lit≤}
use lib.IntN.{pos, nat_abs, sub_ℕ}
use Rattle.formats.specs.declared.Integer.TheVariants.{Unsigned8, Signed24}
use Rattle.formats.specs.Formats.{unsigned8}
use Rattle.sample_rules.specs.Convert.{rank, number_at, rescaled, converted}
use Rattle.sample_rules.specs.Bits.{signed_of, bits_of, slot_of, sent_of}
use Rattle.sample_rules.proofs.Places.{sub_le, rank_sub}
use Rattle.sample_rules.proofs.Nearest.{converted_same}
use Rattle.sample_rules.proofs.Bits.{sample_has, signed_bits}

-- a byte sent is the rank of the slot's number among the bytes
pub byte_sent : (s : ℕ) → rescaled 24 8 (rank 8388608 (signed_of 24 s)) ≡ sent_of unsigned8 s
unfolding sent_of converted
byte_sent s = sym (ap nat_abs (byte_at (rescaled 24 8 (rank 8388608 (signed_of 24 s)))))
  where
    byte_at : (u : ℕ) → number_at Unsigned8 u ≡ pos u
    byte_at u = sub_le u 0 (omega arith) ∙ ap pos (omega arith)

-- a 24-bit sample is the slot
pub same_bits : (u : ℕ) → u < 2 ^ 24 → bits_of 24 (converted Signed24 Signed24 (signed_of 24 u)) ≡ u
same_bits u l = rw (converted_same Signed24 (signed_of 24 u) (sample_has Signed24 u l)) (signed_bits 24 (lit≤ tt) u l)

-- a byte less 128, of 8 bits, widened is the byte's slot
pub byte_slot : (x : ℕ) → bits_of 24 (sub_ℕ (rescaled 8 24 (rank 128 (sub_ℕ x 128))) 8388608) ≡ slot_of unsigned8 x
unfolding slot_of converted
byte_slot x = ap (λ (y : ℕ). bits_of 24 (sub_ℕ (rescaled 8 24 y) 8388608)) (rank_sub 128 x ∙ omega arith)
