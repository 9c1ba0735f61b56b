-- Writing one record: the packet with its address, its length and zeros around it.
use mathlib.Core.Path.{◌≡◌, refl, sym, ap, ◌∙◌}
use mathlib.Core.List.{List, ◌∷◌, ◌++◌, append-nil}
use Prim.Native.Nat.{ℕ, zero, suc, ◌+◌, ◌-◌, ◌≤◌}
use native.Mathlib.Nat.{le_of_eq, not-suc-le-zero, le_of_suc-le-suc}
use native.Mathlib.Omega.{arith}
use lib.ListN.{length, take, drop, replicate, length-append, length-drop, length-replicate, take-append-drop, drop_of_length-le}
use lib.Seq.{take_at, drop_at, take_all, length-take-le}
use borrow.Rule.Slice.PartMut.{put_mid}
use Rattle.lists.specs.Lists.{put}
use Rattle.lists.specs.Little.{bytes_of}
use Rattle.lists.proofs.Lists.{lent, put_next}
use Rattle.lists.proofs.Little.{bytes_length}
use Rattle.answers.specs.declared.Made.TheVariants.{Done}
use Rattle.wire_rules.specs.declared.Header.{Header}
use Rattle.cutter_rules.specs.declared.Cut.{Cut}
use Rattle.cutter_rules.specs.Cut.{cut_answer, cut_of, cut_output}
use Rattle.cutter_rules.proofs.Exactly.{cut_answer_is, done_gives, refused_output, cut_within}
use Rattle.cutter_rules.proofs.Packets.{cut_front}
use Rattle.wire_rules.specs.Header.{datagram_most}
use Rattle.capture_rules.specs.Records.{record_size, capture_record, cut_record}
use Rattle.capture_rules.proofs.Reading.{cut_record_refused}

-- ---- what stands around a datagram

-- a list written over the end of another
put_end : (p q z : List ℕ) (n : ℕ) → length p ≡ n → length q ≡ length z → put (p ++ q) n z ≡ p ++ z
unfolding put
put_end p q z n e l = rw (take_at p q n e, drop_at p q n e, drop_of_length-le q (le_of_eq l), append-nil)

-- a list written over the front
put_front : (s d : List ℕ) (n : ℕ) → length s ≡ n → put d 0 s ≡ s ++ drop n d
unfolding put
put_front s d n e = rw e

-- fewer of the same
fewer : (k n : ℕ) → k ≤ n → take {A = ℕ} k (replicate n 0) ≡ replicate k 0
fewer zero n h = refl
fewer (suc k) zero h = absurd (not-suc-le-zero h)
fewer (suc k) (suc n) h = ap (λ (l : List ℕ). 0 ∷ l) (fewer k n (le_of_suc-le-suc h))

module _ (address n : ℕ) (out : List ℕ) (whole : length out ≡ record_size) (few : n ≤ datagram_most) where
  abbrev d : List ℕ
  d = take n (drop 8 out)

  d_length : length d ≡ n
  d_length = length-take-le n (drop 8 out) (rw length-drop (omega (arith, whole, few)))

  abbrev lead : List ℕ
  lead = bytes_of 4 address ++ bytes_of 4 n

  abbrev rest : List ℕ
  rest = drop n (drop 8 out)

  rest_length : length rest ≡ datagram_most - n
  rest_length = simp length-drop (omega (arith, whole))

  padded : put (lead ++ (d ++ rest)) (8 + n) (replicate (datagram_most - n) 0) ≡ capture_record address d
  unfolding capture_record bytes_of
  padded =
      let l : length (lead ++ d) ≡ 8 + n = length-append lead d ∙ rw d_length in
      let r : length rest ≡ length {A = ℕ} (replicate (datagram_most - n) 0) = rest_length ∙ sym (length-replicate (datagram_most - n) 0) in
      put_end (lead ++ d) rest (replicate (datagram_most - n) 0) (8 + n) l r ∙ rw d_length

  pub surrounded : (sender stated zeros o : List ℕ) (padding : ℕ) → sender ≡ bytes_of 4 address → stated ≡ bytes_of 4 n → zeros ≡ replicate datagram_most 0
      → padding ≡ datagram_most - n → o ≡ put (put_mid 4 4 (put_mid 0 4 out sender) stated) (8 + n) (take (padding - 0) zeros)
      → o ≡ capture_record address (take n (drop 8 out))
  surrounded sender stated zeros o padding ea en ez ep p =
      let l₁ : length sender ≡ 4 = rw ea (bytes_length 4 address) in
      let l₂ : length stated ≡ 4 = rw en (bytes_length 4 n) in
      let o₂ : put_mid 4 4 (put_mid 0 4 out sender) stated ≡ put out 0 lead =
      lent (put_mid 0 4 out sender) stated 4 4 l₂ ∙ rw (lent out sender 0 4 l₁, put_next out sender stated 4 l₁, ea, en) in
      let e : put out 0 lead ≡ lead ++ (d ++ rest) = fronted in
      let z : padding - 0 ≡ datagram_most - n = omega (arith, ep) in
      p ∙ rw (o₂, e, z, ez, fewer (datagram_most - n) datagram_most (omega arith)) padded
    where
      fronted : put out 0 lead ≡ lead ++ (d ++ rest)
      fronted = put_front lead out 8 (simp (length-append, bytes_length)) ∙ rw (take-append-drop n (drop 8 out))

-- ---- packet k

module _ (h : Header) (track : List ℕ) (k address : ℕ) (out : List ℕ) (whole : length out ≡ record_size) (made : Cut) (ys : List ℕ)
    (e : made ≡ cut_of h track k (take datagram_most (drop 8 out))) (w : ys ≡ cut_output h track k (take datagram_most (drop 8 out))) where
  room : length (drop 8 out) ≡ datagram_most
  room = length-drop 8 out ∙ omega (arith, whole)

  part : take datagram_most (drop 8 out) ≡ drop 8 out
  part = take_all datagram_most (drop 8 out) (le_of_eq room)

  answer_is : made.answer ≡ cut_answer h track k datagram_most
  answer_is = ap (λ (m : Cut). m.answer) e ∙ cut_answer_is h track k _ ∙ rw (part, room)

  written_is : ys ≡ cut_output h track k (drop 8 out)
  written_is = w ∙ rw part

  back : put_mid 8 datagram_most out ys ≡ take 8 out ++ ys
  back = rw (drop_of_length-le (drop 8 out) (le_of_eq room), append-nil)

  pub result_is : made ≡ cut_of h track k (drop 8 out)
  result_is = e ∙ rw part

  pub refused : (made.answer ≡ Done → ⊥) → put_mid 8 datagram_most out ys ≡ cut_record h track k address out
  refused z =
      let other : cut_answer h track k datagram_most ≡ Done → ⊥ = λ d. z (answer_is ∙ d) in
      let left : ys ≡ drop 8 out = written_is ∙ refused_output h track k (drop 8 out) _ refl (rw room other) in
      back ∙ rw left (take-append-drop 8 out) ∙ sym (cut_record_refused h track k address out other)

  pub recorded : (after : List ℕ) → made.answer ≡ Done → length h.name ≡ 16 → after ≡ capture_record address (take made.length (drop 8 (put_mid 8 datagram_most out ys)))
      → after ≡ cut_record h track k address out
  unfolding cut_record
  recorded after a sixteen p =
      let d : cut_answer h track k datagram_most ≡ Done = sym answer_is ∙ a in
      let done : cut_answer h track k (length (drop 8 out)) ≡ Done = rw room d in
      let long : made.length ≡ _ = ap (λ (m : Cut). m.length) (result_is ∙ done_gives h track k (drop 8 out) _ refl done) in
      let eight : length (take 8 out) ≡ 8 = length-take-le 8 out (omega (arith, whole)) in
      p ∙ rw (back, drop_at (take 8 out) ys 8 eight, written_is, long, cut_front h sixteen track k (drop 8 out) done, d)

  pub fits : length h.name ≡ 16 → length ys ≡ length (take datagram_most (drop 8 out))
      → (made.length ≤ datagram_most) × (length (put_mid 8 datagram_most out ys) ≡ record_size)
  fits sixteen l =
      let m : made.length ≤ length (drop 8 out) = rw result_is (cut_within h track k (drop 8 out) (le_of_eq sixteen)) in
      let y : length ys ≡ datagram_most = l ∙ rw (part, room) in
      let eight : length (take 8 out) ≡ 8 = length-take-le 8 out (omega (arith, whole)) in
      (rw (← room) m, rw back (length-append (take 8 out) ys ∙ rw (eight, y)))
