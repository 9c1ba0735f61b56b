-- What `moved` gives of the slot at the top of 32 bits is the byte less 128.
use mathlib.Core.Path.{◌≡◌, ◌∙◌}
use Prim.Native.Nat.{ℕ, ◌+◌, ◌%◌, ◌<◌}
use native.Mathlib.Omega.{arith}
use lib.Dec.{lit<}
use lib.IntN.{sub_ℕ}
use Rattle.formats.specs.Formats.{unsigned8}
use Rattle.sample_rules.specs.Bits.{bits_of, sent_of}
use Rattle.sample_rules.proofs.Places.{by_sign}
use Rattle.sample_rules.proofs.Bits.{sent_below}
use Rattle.samples.proofs.Slotting.{byte_sent}
use Rattle.samples.proofs.Aligned.{aligned}
use Rattle.samples.proofs.slots.to_signed8.Goals as goal

-- 128 more than the bits of a byte less 128 are the byte
back : (v : ℕ) → v < 256 → (bits_of 8 (sub_ℕ v 128) + 128) % 256 ≡ v
unfolding bits_of
back v l = by_sign (λ z. (bits_of 8 z + 128) % 256 ≡ v) v 128 (λ h. omega arith) (λ h. omega arith)

pub returns : goal.returns
returns c =
    let s = c.args.s in
    let h = c.requires in
    let e = c.moved.ensures in
    (rw (e.0, aligned s 8 h (lit< tt) ∙ byte_sent s) (back (sent_of unsigned8 s) (sent_below unsigned8 s h)), e.1)
