-- Writing one packet answers as the paper's rules say.
use mathlib.Core.Path.{◌≡◌, refl}
use mathlib.Core.Logic.{◌↔◌}
use mathlib.Core.Bool.{false, not}
use mathlib.Core.List.{List, [], ◌∷◌}
use Prim.Native.Nat.{ℕ, ◌+◌, ◌≤◌, ◌<◌, zero-le}
use native.Mathlib.Omega.{arith}
use lib.Dec.{ltb, eqb}
use lib.ListN.{length}
use borrow.Author.Tests.{ltb-false, le-ltb, eqb-true, ne_eqb, not-false}
use Rattle.lists.specs.Lists.{put}
use Rattle.lists.specs.Tables.{choose, first, outside}
use Rattle.lists.specs.Rules.{numbers_of, FirstBroken}
use Rattle.lists.proofs.Tables.{by_test, none_holds, none_says, inside_by, by_inside}
use Rattle.lists.proofs.Rules.{Judges, judged, judged_less, judged_unlike, none_answers, all_hold_exactly, first_broken_exactly}
use Rattle.answers.specs.declared.Made.{Made}
use Rattle.answers.specs.declared.Made.TheVariants.{Done}
use Rattle.answers.specs.Numbers.{number_made}
use Rattle.answers.proofs.Numbers.{made_told}
use Rattle.formats.specs.Formats.{may_send}
use Rattle.formats.proofs.Types.{sent_by, by_sent, sent_read, read_bits}
use Rattle.wire_rules.specs.declared.Header.{Header}
use Rattle.wire_rules.specs.Names.{good_name}
use Rattle.wire_rules.specs.Header.{header_size, data_most, data_size}
use Rattle.wire_rules.specs.Write.{packet_of, bad_form, write_rows, write_of, output_of, GoodForm, Writable, write_rules}
use Rattle.wire_rules.proofs.Names.{good_exactly}

-- ---- each row judges its rule

-- a header as a type gives it: its name has at most 16 bytes
module _ (h : Header) (short : length h.name ≤ 16) where
  pub form_by : bad_form h ≡ false → GoodForm h
  form_by e =
      let c = none_holds (ltb 20 h.rate ∷ not (may_send h.format) ∷ outside 256 h.frames ∷ outside 256 h.channels ∷ not (good_name h.name) ∷ []) e in
      record {
        rated = ltb-false _ _ c.0;
        typed = sent_by _ (not-false _ c.1.0);
        frames_few = inside_by 256 _ c.1.1.0;
        channels_few = inside_by 256 _ c.1.1.1.0;
        named = (good_exactly h.name short).0 (not-false _ c.1.1.1.1.0);
      }

  pub by_form : GoodForm h → bad_form h ≡ false
  by_form g =
      rw (
        le-ltb 20 h.rate g.rated,
        by_sent h.format g.typed,
        by_inside 256 h.frames g.frames_few,
        by_inside 256 h.channels g.channels_few,
        (good_exactly h.name short).1 g.named,
      )

  module _ (given room : ℕ) where
    pub write_judges : Judges (write_rows h given room) (write_rules h given room)
    write_judges =
        judged (bad_form h) by_form form_by
        (judged_less data_most (data_size h)
        (judged_unlike given (data_size h)
        (judged_less room (header_size + given) tt)))

    -- the table's numbers, in its order
    pub write_numbers : numbers_of number_made (write_rules h given room) ≡ 20 ∷ 21 ∷ 22 ∷ 23 ∷ []
    write_numbers = refl

    pub done_exactly : first Done (write_rows h given room) ≡ Done ↔ Writable h given room
    done_exactly =
        let all =
        all_hold_exactly Done (write_rows h given room) (write_rules h given room) write_judges
        (none_answers Done (write_rows h given room) (write_rules h given room) write_judges (none_says Done number_made (write_rows h given room) tt)) in (
          (λ e. let a = all.0 e in record { formed = a.0; small = a.1.0; full = a.1.1.0; roomy = a.1.1.1.0 }),
          (λ w. all.1 (w.formed, (w.small, (w.full, (w.roomy, tt))))),
        )

  module _ (samples out : List ℕ) where
    pub write_done_exactly : (write_of h samples out).answer ≡ Done ↔ Writable h (length samples) (length out)
    unfolding write_of
    write_done_exactly = done_exactly (length samples) (length out)

    pub write_refused_exactly : (a : Made) → (a ≡ Done → ⊥) → (write_of h samples out).answer ≡ a ↔ FirstBroken (write_rules h (length samples) (length out)) a
    unfolding write_of
    write_refused_exactly =
        first_broken_exactly Done (write_rows h (length samples) (length out)) (write_rules h (length samples) (length out))
        (write_judges (length samples) (length out))

    -- data over 1,436 bytes are never written
    pub write_done_small : (write_of h samples out).answer ≡ Done → length samples ≤ data_most
    write_done_small e =
        let w = write_done_exactly.0 e in
        omega (arith, w.small, w.full)

    -- what is written lies within the output
    pub write_within : (write_of h samples out).length ≤ length out
    unfolding write_of
    write_within =
        by_test (λ b. choose b (header_size + length samples) 0 ≤ length out) (eqb (number_made (first Done (write_rows h (length samples) (length out)))) 0)
        (λ t. ((done_exactly (length samples) (length out)).0 (made_told _ Done (eqb-true _ _ t))).roomy) (λ t. zero-le)

-- a form that is good has a place in the header's bits
pub form_bits : (h : Header) → GoodForm h → h.format < 8
form_bits h g = read_bits h.format (sent_read h.format g.typed)

-- ---- what comes with the answer

pub write_done_gives : (h : Header) (samples out : List ℕ) → (write_of h samples out).answer ≡ Done
    → (write_of h samples out ≡ record { answer = Done; length = header_size + length samples }) × (output_of h samples out ≡ put out 0 (packet_of h samples))
unfolding write_of output_of
write_done_gives h samples out e = (rw e, rw e)

-- a refusal gives a zero length and leaves the output
module _ (h : Header) (samples out : List ℕ) (other : (write_of h samples out).answer ≡ Done → ⊥) where
  pub write_refused_length : write_of h samples out ≡ record { answer = (write_of h samples out).answer; length = 0 }
  unfolding write_of
  write_refused_length =
      rw (ne_eqb (number_made (first Done (write_rows h (length samples) (length out)))) 0 (λ z. other (made_told _ Done z)))

  pub write_refused_output : output_of h samples out ≡ out
  unfolding write_of output_of
  write_refused_output =
      rw (ne_eqb (number_made (first Done (write_rows h (length samples) (length out)))) 0 (λ z. other (made_told _ Done z)))
