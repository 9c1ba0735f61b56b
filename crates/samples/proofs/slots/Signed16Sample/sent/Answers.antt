-- What `moved` gives of the slot at the top of 32 bits is the definition's.
use mathlib.Core.Path.{ap, ◌∙◌}
use Prim.Native.Nat.{ℕ}
use lib.Dec.{lit<}
use lib.IntN.{sub_ℕ}
use Rattle.sample_rules.specs.Convert.{converted}
use Rattle.sample_rules.specs.Bits.{bits_of, sent_of}
use Rattle.samples.proofs.Aligned.{aligned}
use Rattle.samples.proofs.slots.Signed16Sample.sent.Goals as goal

pub returns : goal.returns
unfolding sent_of converted
returns c =
    let e = c.moved.ensures in
    (e.0 ∙ ap (λ (y : ℕ). bits_of 16 (sub_ℕ y 32768)) (aligned c.args.s 16 c.requires (lit< tt)), e.1)
