-- The types give what the round trip asks of a header.
use mathlib.Core.Path.{◌≡◌, sym, ap, ◌∙◌}
use mathlib.Core.List.{List, []}
use Prim.Native.Nat.{ℕ, ◌≤◌}
use native.Mathlib.Nat.{le_of_eq}
use lib.Dec.{eqb}
use lib.ListN.{length, take}
use lib.Seq.{length-take-le}
use borrow.Author.Rules.{rules}
use borrow.Author.Tests.{eqb-true, eqb-false}
use Rattle.lists.specs.Tables.{choose}
use Rattle.lists.proofs.Tables.{by_test}
use Rattle.answers.specs.declared.Answer.TheVariants.{Accepted}
use Rattle.answers.specs.declared.Made.TheVariants.{Done}
use Rattle.answers.specs.Numbers.{number_made}
use Rattle.answers.proofs.Numbers.{made_told}
use Rattle.wire_rules.specs.declared.Header.{Header}
use Rattle.wire_rules.specs.declared.Read.{Read}
use Rattle.wire_rules.specs.declared.Written.{Written}
use Rattle.wire_rules.specs.Read.{read_of}
use Rattle.wire_rules.specs.Write.{write_of, output_of}
use Rattle.wire_rules.specs.Again.{kept_header, written_read, Typed}
use Rattle.wire_rules.proofs.Writing.{write_within, write_done_gives, write_refused_length}
use Rattle.wire_rules.proofs.RoundTrip.{written_reads_back}
use Rattle.writer.proofs.again.written_read.Goals as goal

module _ (h : Header) (samples out o : List ℕ) (w : Written) (t : Typed h) (e : w ≡ write_of h samples out) where
  within : length o ≡ length out → w.length ≤ length o
  within l = rw (e, l) (write_within h (le_of_eq t.sixteen) samples out)

  reads : (r : Read) → o ≡ output_of h samples out → r ≡ read_of (take w.length o) → r ≡ written_read h samples out
  unfolding written_read
  reads r p q =
      q ∙ rw (e, p)
      (by_test
      (λ b.
      read_of (take (write_of h samples out).length (output_of h samples out))
      ≡ choose b (record { answer = Accepted; header = kept_header h; size = length samples }) (read_of []))
      (eqb (number_made (write_of h samples out).answer) 0)
      (λ s.
      let d = made_told _ Done (eqb-true _ _ s) in
      let b = written_reads_back h samples out t d in
      rw ((write_done_gives h samples out d).0, b.packet) b.fields)
      (λ s. rw (write_refused_length h samples out (λ d. eqb-false _ _ s (ap number_made d)))))

pub slice_bounds-read-end : goal.slice_bounds-read-end
slice_bounds-read-end c =
    let typed : Typed c.args.h = record { sixteen = search rules; counter = search rules } in
    within c.args.h c.args.samples.now c.args.out.now c.write-w.new.out _ typed c.write-w.ensures.answer c.write-w.auto.out

pub slice_bounds-read-end-2 : goal.slice_bounds-read-end-2
slice_bounds-read-end-2 c =
    let typed : Typed c.args.h = record { sixteen = search rules; counter = search rules } in
    sym (length-take-le _ _ (within c.args.h c.args.samples.now c.args.out.now c.write-w.new.out _ typed c.write-w.ensures.answer c.write-w.auto.out))

pub returns : goal.returns
returns c =
    let typed : Typed c.args.h = record { sixteen = search rules; counter = search rules } in
    let w = c.write-w in
    record { answer = reads c.args.h c.args.samples.now c.args.out.now _ _ typed w.ensures.answer _ w.ensures.output c.read.ensures; output = w.ensures.output }
