-- Three words, each in the part that it is lent.
use borrow.Author.Rules.{rules}
use Rattle.records.proofs.Packing.{half_packed}
use Rattle.records.proofs.put_half.Statement.{statement}
use Rattle.records.proofs.put_half.Tie as tie

pub put_half_spec : {M : Type 1} → statement M
put_half_spec =
    tie.close
    (tie.spec
    (λ c. search rules)
    (λ c. search rules)
    (λ c. search rules)
    (λ c. search rules)
    (λ c. search rules)
    (λ c. search rules)
    (λ c. search rules)
    (λ c. search rules)
    (λ c. search rules)
    (λ c. search rules)
    (λ c. search rules)
    (λ c. search rules)
    (λ c. search rules)
    (λ c. search rules)
    (λ c. search rules)
    (λ c. search rules)
    (λ c. search rules)
    (λ c. search rules)
    (λ c. search rules)
    (λ c. search half_packed))
