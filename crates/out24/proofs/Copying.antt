-- A frame of 24 bits is the record's first bytes: taking it out is a copy.
use mathlib.Core.Path.{◌≡◌, ap, ◌∙◌}
use mathlib.Core.List.{List}
use Prim.Native.Nat.{ℕ, ◌+◌, ◌*◌, ◌^◌, ◌≤◌, ◌<◌}
use native.Mathlib.Omega.{arith}
use lib.ListN.{length, take, drop}
use Rattle.lists.specs.Lists.{byte, put}
use Rattle.lists.specs.Little.{little, bytes_of}
use Rattle.lists.proofs.Lists.{up_to_run}
use Rattle.lists.proofs.Little.{little_below, bytes_back}
use Rattle.formats.specs.Formats.{signed24}
use Rattle.sample_rules.specs.Bits.{sent_of}
use Rattle.samples.proofs.Slotting.{same_bits}
use Rattle.track_rules.specs.Records.{taken_of}
use Rattle.records.specs.Frames.{sent_at, frame_out}

same_sent : (s : ℕ) → s < 2 ^ 24 → sent_of signed24 s ≡ s
unfolding sent_of
same_sent s l = same_bits s l

module _ (d : List ℕ) (below : (i : ℕ) → byte d i < 256) where
  pub frame_run : (at channels : ℕ) → at + channels * 3 ≤ length d → frame_out signed24 d at channels ≡ take (channels * 3) (drop at d)
  unfolding frame_out sent_at
  frame_run at channels h = up_to_run 3 at channels d _ (λ c l.
      ap (bytes_of 3) (same_sent (little 3 d (at + c * 3)) (little_below 3 d (at + c * 3) below))
      ∙ bytes_back 3 d (at + c * 3) (omega arith) below)

  taken_run : (first n : ℕ) → (first + n) * 24 ≤ length d → taken_of signed24 d first n 8 ≡ take (n * 24) (drop (first * 24) d)
  unfolding taken_of frame_out sent_at
  taken_run first n h = up_to_run 24 (first * 24) n d _ (λ k l.
      let e : (first + k) * 24 ≡ first * 24 + k * 24 = omega arith in
      rw (← e) (frame_run ((first + k) * 24) 8 (omega arith)))

  pub taken_whole : (first n : ℕ) (out₀ out : List ℕ) (at : ℕ) → (first + n) * 24 ≤ length d
      → out ≡ put out₀ at (take (n * 24) (drop (first * 24) d)) → out ≡ put out₀ at (taken_of signed24 d first n 8)
  taken_whole first n out₀ out at h p = p ∙ rw (taken_run first n h)
