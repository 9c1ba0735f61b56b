-- Eight channels of 24 bits are the record, byte for byte: laying them is a copy.
use mathlib.Core.Path.{◌≡◌, ap, ◌∙◌}
use mathlib.Core.List.{List}
use Prim.Native.Nat.{ℕ, ◌+◌, ◌*◌, ◌^◌, ◌≤◌, ◌<◌}
use native.Mathlib.Omega.{arith}
use lib.ListN.{length, take, drop}
use Rattle.lists.specs.Lists.{byte, put, up_to}
use Rattle.lists.specs.Little.{little, bytes_of}
use Rattle.lists.proofs.Lists.{up_to_run}
use Rattle.lists.proofs.Little.{little_below, bytes_back}
use Rattle.formats.specs.Formats.{signed24}
use Rattle.sample_rules.specs.Bits.{slot_of}
use Rattle.samples.proofs.Slotting.{same_bits}
use Rattle.track_rules.specs.Records.{record_of, records_of, laid_of, packet_slot}
use Rattle.track_rules.proofs.Laws.{packet_heard}

pub same_slot : (u : ℕ) → u < 2 ^ 24 → slot_of signed24 u ≡ u
unfolding slot_of
same_slot u l = same_bits u l

module _ (d : List ℕ) (below : (i : ℕ) → byte d i < 256) where
  -- eight samples from byte a on
  eight_samples : (a : ℕ) (g : ℕ → ℕ) → a + 24 ≤ length d → ((c : ℕ) → c < 8 → g c ≡ little 3 d (a + c * 3))
      → up_to 8 (λ c. bytes_of 3 (g c)) ≡ take 24 (drop a d)
  eight_samples a g h e = up_to_run 3 a 8 d (λ c. bytes_of 3 (g c)) (λ c l.
      ap (bytes_of 3) (e c l) ∙ bytes_back 3 d (a + c * 3) (omega arith) below)

  records_run : (from n : ℕ) → from + n * 24 ≤ length d → records_of n (packet_slot signed24 d from 8) ≡ take (n * 24) (drop from d)
  unfolding records_of record_of
  records_run from n h = up_to_run 24 from n d (λ k. record_of (packet_slot signed24 d from 8 k)) (λ k l.
      eight_samples (from + k * 24) (packet_slot signed24 d from 8 k) (omega arith) (λ c g.
      packet_heard signed24 d from 8 k c g ∙ same_slot (little 3 d (from + k * 24 + c * 3)) (little_below 3 d (from + k * 24 + c * 3) below)))

  pub laid_whole : (from n : ℕ) (track₀ out : List ℕ) (place : ℕ) → from + n * 24 ≤ length d
      → out ≡ put track₀ (place * 24) (take (n * 24) (drop from d)) → out ≡ laid_of track₀ place n (packet_slot signed24 d from 8)
  unfolding laid_of
  laid_whole from n track₀ out place h p = p ∙ rw (records_run from n h)
