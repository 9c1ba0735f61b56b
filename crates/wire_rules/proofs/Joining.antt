-- Bytes 4 and 7 split and joined, both ways.
use mathlib.Core.Path.{◌≡◌}
use Prim.Native.Nat.{ℕ, ◌+◌, ◌*◌, ◌<◌}
use native.Mathlib.Omega.{arith}
use Rattle.wire_rules.specs.Header.{rate_bits, sub_bits, joined_four, format_bits, reserved_bit, codec_bits, joined_seven}

-- ---- byte 4

pub four_joined : (b : ℕ) → joined_four (rate_bits b) (sub_bits b) ≡ b
four_joined b = omega arith

module _ (rate sub : ℕ) (r : rate < 32) (s : sub < 8) where
  pub four_split : (rate_bits (joined_four rate sub) ≡ rate) × (sub_bits (joined_four rate sub) ≡ sub)
  four_split = (omega arith, omega arith)

-- ---- byte 7

pub seven_joined : (b : ℕ) → joined_seven (format_bits b) (reserved_bit b) (codec_bits b) ≡ b
seven_joined b = omega arith

module _ (format reserved codec : ℕ) (f : format < 8) (r : reserved < 2) (c : codec < 16) where
  pub seven_split : (format_bits (joined_seven format reserved codec) ≡ format) × (reserved_bit (joined_seven format reserved codec) ≡ reserved)
      × (codec_bits (joined_seven format reserved codec) ≡ codec)
  seven_split = (omega arith, omega arith, omega arith)

-- ---- what each bit weighs

pub four_weighs : (b : ℕ) → (rate_bits b + sub_bits b * 32 ≡ b) × (rate_bits b < 32)
four_weighs b = (omega arith, omega arith)

pub seven_weighs : (b : ℕ) → (format_bits b + reserved_bit b * 8 + codec_bits b * 16 ≡ b) × (format_bits b < 8) × (reserved_bit b < 2)
seven_weighs b = (omega arith, omega arith, omega arith)
