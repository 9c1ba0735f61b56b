-- The loop of `fill`: a record a turn, until a packet is refused or the block is full.
use mathlib.Core.Path.{◌≡◌, refl, sym, ap, subst, ◌∙◌}
use mathlib.Core.List.{List}
use Prim.Native.Nat.{ℕ, ◌+◌, ◌-◌, ◌*◌, ◌≤◌, ◌<◌, zero-le}
use native.Mathlib.Nat.{zero-add, add-sub_cancel_left, not-suc-le-zero, le_antisymm}
use native.Mathlib.Omega.{arith}
use native.Mathlib.Numerals.{add-one}
use lib.ListN.{length, take, drop, length-append, length-drop, take-append-drop}
use lib.Seq.{length-take-le}
use borrow.Author.Count.{below_more}
use borrow.Rule.Slice.PartMut.{put_mid}
use Rattle.lists.specs.Lists.{put, up_to}
use Rattle.lists.proofs.Lists.{put_none, put_more, put_length, lent}
use Rattle.answers.specs.declared.Made.TheVariants.{Done}
use Rattle.wire_rules.specs.declared.Header.{Header}
use Rattle.cutter_rules.specs.declared.Cut.{Cut}
use Rattle.cutter_rules.specs.Cut.{cut_answer, cut_of, cut_packet}
use Rattle.cutter_rules.proofs.Exactly.{cut_answer_is}
use Rattle.wire_rules.specs.Header.{datagram_most}
use Rattle.capture_rules.specs.Records.{record_size, capture_record, cut_record}
use Rattle.capture_rules.proofs.Lengths.{cut_length}
use Rattle.capture_rules.proofs.Reading.{cut_record_refused}
use Rattle.cutlist.specs.Block.{records, Filled}

-- a part that comes back as it was lent leaves the list
unwritten : (xs ys : List ℕ) (a n : ℕ) → ys ≡ take n (drop a xs) → put_mid a n xs ys ≡ xs
unwritten xs ys a n e = rw (e, take-append-drop n (drop a xs)) (take-append-drop a xs)

-- the place of record n, as it is lent
abbrev part_of : List ℕ → ℕ → List ℕ
part_of block n = take (n * record_size + record_size - n * record_size) (drop (n * record_size) block)

-- after n turns: n packets cut, and their records written; `long` is kept, since a packet that is not cut can have any length
pub record Filling (h : Header) (track : List ℕ) (address k : ℕ) (block₀ block : List ℕ) (n : ℕ) : Type 0 where
  pub turns : n ≤ 44
  pub cut_all : (j : ℕ) → j < n → cut_answer h track (k + j) datagram_most ≡ Done
  pub long : length (records h track address k n) ≡ n * record_size
  pub same : length block ≡ 64768
  pub so_far : block ≡ put block₀ 0 (records h track address k n)

module _ (h : Header) (track : List ℕ) (address k : ℕ) (block₀ : List ℕ) (whole : length block₀ ≡ 64768) where
  pub start : Filling h track address k block₀ block₀ 0
  unfolding up_to
  start = record { turns = zero-le; cut_all = λ j l. absurd (not-suc-le-zero l); long = refl; same = whole; so_far = put_none block₀ 0 }

  module _ (block : List ℕ) (n : ℕ) (l : Filling h track address k block₀ block n) where
    pub full : 44 ≤ n → Filled h track address k 44 block₀ block 44
    full g =
        let whole_block : Filled h track address k 44 block₀ block n =
        record { no_more = l.turns; cut_all = l.cut_all; stops = λ m. omega arith; written = l.so_far } in
        subst (Filled h track address k 44 block₀ block) (le_antisymm l.turns g) whole_block

    -- a turn: the record's place is lent, and comes back as ys
    module _ (g : n < 44) (made : Cut) (ys : List ℕ)
        (e : made ≡ cut_of h track (k + n) (drop 8 (part_of block n)))
        (w : ys ≡ cut_record h track (k + n) address (part_of block n)) where
      size : n * record_size + record_size - n * record_size ≡ record_size
      size = add-sub_cancel_left (n * record_size) record_size

      room : length (drop 8 (part_of block n)) ≡ datagram_most
      room =
          let m : record_size ≤ length (drop (n * record_size) block) = rw length-drop (omega (arith, l.same)) in
          rw (length-drop 8 (part_of block n), size, length-take-le record_size (drop (n * record_size) block) m)

      answer_is : made.answer ≡ cut_answer h track (k + n) datagram_most
      answer_is = ap (λ (m : Cut). m.answer) e ∙ rw (cut_answer_is h track (k + n) _, room)

      pub stop : (made.answer ≡ Done → ⊥) → Filled h track address k 44 block₀ (put_mid (n * record_size) (n * record_size + record_size - n * record_size) block ys) n
      stop z =
          let other : cut_answer h track (k + n) datagram_most ≡ Done → ⊥ = λ d. z (answer_is ∙ d) in
          let b = unwritten block ys (n * record_size) (n * record_size + record_size - n * record_size) (w ∙ cut_record_refused h track (k + n) address _ other) in
          record { no_more = l.turns; cut_all = l.cut_all; stops = λ m. other; written = b ∙ l.so_far }

      module _ (z : made.answer ≡ Done) (sixteen : length h.name ≡ 16) where
        done : cut_answer h track (k + n) datagram_most ≡ Done
        done = sym answer_is ∙ z

        record_is : ys ≡ capture_record address (cut_packet h track (k + n))
        unfolding cut_record
        record_is = w ∙ rw done

        long_next : length (records h track address k (n + 1)) ≡ (n + 1) * record_size
        unfolding up_to
        long_next = rw (add-one n) (length-append (records h track address k n) _ ∙ rw (l.long, cut_length h track (k + n) address sixteen done) (omega arith))

        written : put_mid (n * record_size) (n * record_size + record_size - n * record_size) block ys ≡ put block₀ 0 (records h track address k (n + 1))
        unfolding up_to
        written =
            let m : length ys ≡ n * record_size + record_size - n * record_size = ap length record_is ∙ cut_length h track (k + n) address sixteen done ∙ sym size in
            lent block ys (n * record_size) _ m
            ∙ rw (record_is, l.so_far, ← l.long, ← zero-add (length (records h track address k n)), add-one n) (put_more block₀ (records h track address k n) _ 0 zero-le)

        pub next : Filling h track address k block₀ (put_mid (n * record_size) (n * record_size + record_size - n * record_size) block ys) (n + 1)
        next = record {
          turns = omega arith;
          cut_all = below_more _ _ l.cut_all done;
          long = long_next;
          same = ap length written ∙ put_length block₀ (records h track address k (n + 1)) 0 (rw long_next (omega arith)) ∙ whole;
          so_far = written;
        }
