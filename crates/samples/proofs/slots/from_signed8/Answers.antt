-- The signed byte's place is the byte that it stands for.
use mathlib.Core.Path.{◌≡◌, ◌∙◌}
use Prim.Native.Nat.{ℕ, ◌+◌, ◌%◌, ◌^◌, ◌<◌}
use lib.Dec.{lit≤}
use lib.IntN.{sub_ℕ}
use Rattle.formats.specs.Formats.{unsigned8}
use Rattle.sample_rules.specs.Convert.{rank, rescaled}
use Rattle.sample_rules.specs.Bits.{signed_of, bits_of, slot_of}
use Rattle.sample_rules.proofs.Bits.{signed_place}
use Rattle.samples.proofs.Slotting.{byte_slot}
use Rattle.samples.proofs.slots.from_signed8.Goals as goal

laid : (u : ℕ) → u < 2 ^ 8 → bits_of 24 (sub_ℕ (rescaled 8 24 (rank 128 (signed_of 8 u))) 8388608) ≡ slot_of unsigned8 ((u + 128) % 256)
laid u h = rw (← signed_place 8 (lit≤ tt) u h) (byte_slot ((u + 128) % 256))

pub returns : goal.returns
returns c = (c.moved.ensures.0 ∙ laid c.args.u c.requires, c.moved.ensures.1)
