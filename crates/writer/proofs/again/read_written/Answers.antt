-- Each byte of a slice is below 256, as the round trip asks.
use Rattle.std.proofs.Common.{◌∙◌, ℕ, ◌<◌, arith}
use Rattle.lists.specs.Lists.{byte}
use Rattle.wire_rules.proofs.RoundTrip.{read_writes_back}
use Rattle.writer.proofs.again.read_written.Goals as goal

pub returns-clause-repeated : goal.returns-clause-repeated
returns-clause-repeated c r =
    let d = c.args.d.now in
    let bytes : (i : ℕ) → byte d i < 256 = λ i. omega (arith, c.type_inv.d i) in
    let b = read_writes_back d c.args.out.now bytes r in
    record {
      answer = c.write.ensures.answer ∙ rw (c.read-a.ensures, c.data.ensures) b.answer;
      output = c.write.ensures.output ∙ rw (c.read-a.ensures, c.data.ensures) b.output;
    }
