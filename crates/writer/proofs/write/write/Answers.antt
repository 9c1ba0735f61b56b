-- A refusal, or the packet.
use Rattle.std.proofs.Common.{◌≡◌, sym, ◌∙◌, ℕ, ◌+◌, le_of_eq, List, length, Ok, Err, rules}
use Rattle.lists.specs.Lists.{put}
use Rattle.lists.specs.Tables.{Row}
use Rattle.answers.specs.declared.Made.{Made}
use Rattle.answers.specs.declared.Made.TheVariants.{Done}
use Rattle.wire_rules.specs.declared.Header.{Header}
use Rattle.wire_rules.specs.Write.{packet_of, write_rows, write_of, output_of, GoodForm}
use Rattle.wire_rules.proofs.Writing.{done_exactly}
use Rattle.writer.specs.Checks.{passing}
use Rattle.writer.proofs.Passing.{passes_done, refuses_made}
use Rattle.writer.proofs.write.write.Goals as goal

module _ (h : Header) (samples out : List ℕ) (n : ℕ) where
  abbrev rows : List (Row Made)
  rows = write_rows h (length samples) (length out)

  refused : (a : Made) → Err a ≡ passing n rows → (record { answer = a; length = 0 } ≡ write_of h samples out) × (out ≡ output_of h samples out)
  unfolding write_of output_of
  refused a e =
      let r = refuses_made n rows a tt e in
      (rw (r.0, r.1), rw (r.0, r.1))

  module _ (named : ℕ) (e : Ok named ≡ passing n rows) where
    counted : named ≡ n
    counted = (passes_done n rows named e).1

    formed : length h.name ≡ 16 → GoodForm h
    formed l = ((done_exactly h (le_of_eq l) (length samples) (length out)).0 (passes_done n rows named e).0).formed

    written : (o : List ℕ) → o ≡ put out 0 (packet_of h samples)
        → (record { answer = Done; length = 28 + length samples } ≡ write_of h samples out) × (o ≡ output_of h samples out)
    unfolding write_of output_of
    written o p =
        let d = (passes_done n rows named e).0 in
        (rw d, rw d p)

pub invariant_of-named : goal.invariant_of-named
invariant_of-named c =
    record { counted = counted c.args.h c.args.samples.now c.args.out.now _ _ (sym c.in-Ok.is ∙ c.check.ensures) }

pub emit-requires-clause-good_form : goal.emit-requires-clause-good_form
emit-requires-clause-good_form c =
    let sixteen : length c.args.h.name ≡ 16 = search rules in
    formed c.args.h c.args.samples.now c.args.out.now _ _ (sym c.in-Ok.is ∙ c.check.ensures) sixteen

pub returns-in-Ok : goal.returns-in-Ok
returns-in-Ok c =
    let r = written c.args.h c.args.samples.now c.args.out.now _ _ (sym c.in-Ok.is ∙ c.check.ensures) _ c.emit.ensures in
    record { answer = r.0; output = r.1 }

pub returns-in-Err : goal.returns-in-Err
returns-in-Err c =
    let r = refused c.args.h c.args.samples.now c.args.out.now _ _ (sym c.in-Err.is ∙ c.check.ensures) in
    record { answer = r.0; output = r.1 }
