-- A packet, its header and then its samples.
use mathlib.Core.Path.{◌≡◌, ap, ◌∙◌}
use mathlib.Core.List.{List}
use Prim.Native.Nat.{ℕ, ◌+◌, ◌≤◌}
use native.Mathlib.Omega.{arith}
use lib.ListN.{length, take}
use lib.Seq.{length-take-le}
use borrow.Rule.Slice.PartMut.{put_mid}
use Rattle.lists.specs.Lists.{put}
use Rattle.lists.proofs.Lists.{put_next, lent}
use Rattle.wire_rules.specs.declared.Header.{Header}
use Rattle.wire_rules.specs.Write.{header_bytes, packet_of}

-- the header comes back in its place, and the samples follow it
pub packed : (h : Header) (samples out ys o : List ℕ) (n : ℕ) → ys ≡ header_bytes h → length ys ≡ length (take 28 out) → 28 + n ≤ length out
    → o ≡ put (put_mid 0 28 out ys) 28 samples → o ≡ put out 0 (packet_of h samples)
packed h samples out ys o n e k r p =
    let l : length ys ≡ 28 = k ∙ length-take-le 28 out (omega arith) in
    p ∙ ap (λ (x : List ℕ). put x 28 samples) (lent out ys 0 28 l) ∙ put_next out ys samples 28 l ∙ rw e
