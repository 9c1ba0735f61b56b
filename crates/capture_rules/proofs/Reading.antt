-- Our records read back, and padding isn't looked at.
use mathlib.Core.Path.{◌≡◌, refl, sym, ap, ◌∙◌}
use mathlib.Core.List.{List, [], ◌∷◌, ◌++◌, append-nil}
use Prim.Native.Nat.{ℕ, ◌+◌, ◌-◌, ◌^◌, ◌≤◌, ◌<◌}
use native.Mathlib.Omega.{arith}
use lib.ListN.{length, take, drop, replicate}
use lib.Seq.{take-length, take_at, drop_at, drop-drop, take-add, get_or-take, length-take-le}
use Rattle.lists.specs.Lists.{byte}
use Rattle.lists.specs.Little.{little, bytes_of}
use Rattle.lists.proofs.Little.{bytes_length, little_same, little_front, little_after, little_weighs}
use Rattle.answers.specs.declared.Made.TheVariants.{Done}
use Rattle.answers.proofs.Numbers.{refusal_made}
use Rattle.wire_rules.specs.declared.Header.{Header}
use Rattle.wire_rules.specs.Header.{datagram_most}
use Rattle.take_rules.specs.Box.{Box, tells_of, follows, after}
use Rattle.cutter_rules.specs.Cut.{cut_answer}
use Rattle.capture_rules.specs.Records.{record_size, address_of, length_of, datagram_of, capture_record, SpellsRecord, cut_record}
use Rattle.capture_rules.specs.Fold.{event_of, record_at, heard_in, answers_in, whole_records, captured}
use Rattle.capture_rules.proofs.Long.{datagram_held, datagram_length}
use Rattle.capture_rules.proofs.Lengths.{record_length}

module _ (address : ℕ) (d : List ℕ) (four_bytes : address < 2 ^ 32) (short : length d ≤ datagram_most) where
  pub address_back : address_of (capture_record address d) ≡ address
  unfolding capture_record
  address_back = little_front 4 address _ four_bytes

  pub length_back : length_of (capture_record address d) ≡ length d
  unfolding capture_record
  length_back =
      let rest : List ℕ = bytes_of 4 (length d) ++ (d ++ replicate (datagram_most - length d) 0) in
      let e : 4 ≡ length (bytes_of 4 address) + 0 = rw (bytes_length 4 address) in
      ap (little 4 (bytes_of 4 address ++ rest)) e ∙ little_after 4 (bytes_of 4 address) rest 0 ∙ little_front 4 (length d) _ (omega (arith, short))

  pub datagram_back : datagram_of (capture_record address d) ≡ d
  unfolding capture_record datagram_of bytes_of
  datagram_back =
      let z : length d - datagram_most ≡ 0 = omega (arith, short) in
      rw (length_back, z, append-nil) (take_at d (replicate (datagram_most - length d) 0) (length d) refl)

  -- our record tells the box the datagram and its sender
  pub event_back : event_of (capture_record address d) ≡ record { datagram = d; address = address }
  event_back = rw (address_back, datagram_back)

  -- and its padding is zero
  pub padding_zero : drop (8 + length d) (capture_record address d) ≡ replicate (datagram_most - length d) 0
  unfolding capture_record bytes_of
  padding_zero = rw (← drop-drop (length d) 8 (capture_record address d)) (drop_at d (replicate (datagram_most - length d) 0) (length d) refl)

-- ---- each byte where the paper has it

-- in a record that was heard
pub record_spelled : (r : List ℕ) → length r ≡ record_size → length_of r ≤ datagram_most → SpellsRecord r (address_of r) (datagram_of r)
record_spelled r long short =
    let l = datagram_length r long in
    record {
      sender = little_weighs 4 r 0;
      size = little_weighs 4 r 4 ∙ sym l;
      datagram = rw l (sym (datagram_held r long short));
    }

-- and in ours
pub made_spelled : (address : ℕ) (d : List ℕ) → address < 2 ^ 32 → length d ≤ datagram_most → SpellsRecord (capture_record address d) address d
made_spelled address d four_bytes short =
    let s = record_spelled (capture_record address d) (record_length address d short) (rw (length_back address d four_bytes short) short) in
    rw (address_back address d four_bytes short, datagram_back address d four_bytes short) at s

-- what stands past the datagram makes no difference
module _ (r s : List ℕ) (r-long : length r ≡ record_size) (s-long : length s ≡ record_size) (short : length_of r ≤ datagram_most)
    (e : take (8 + length_of r) r ≡ take (8 + length_of r) s) where
  same_byte : (i : ℕ) → i < 8 → byte r i ≡ byte s i
  same_byte i h =
      sym (get_or-take (8 + length_of r) r i 0 (omega (arith, h))) ∙ ap (λ (l : List ℕ). byte l i) e ∙ get_or-take (8 + length_of r) s i 0 (omega (arith, h))

  same_four : (i : ℕ) → i ≤ 4 → little 4 r i ≡ little 4 s i
  same_four i h = little_same 4 r s i i (λ j l. same_byte (i + j) (omega arith))

  inner : (l : List ℕ) → length l ≡ record_size → drop 8 (take (8 + length_of r) l) ≡ take (length_of r) (drop 8 l)
  inner l p = ap (λ (k : List ℕ). drop 8 k) (take-add 8 (length_of r) l) ∙ drop_at (take 8 l) _ 8 (length-take-le 8 l (omega (arith, p)))

  pub padding_unseen : event_of r ≡ event_of s
  padding_unseen =
      let n : length_of r ≡ length_of s = same_four 4 (omega arith) in
      let d : datagram_of r ≡ datagram_of s =
      datagram_held r r-long short
      ∙ sym (inner r r-long) ∙ ap (λ (l : List ℕ). drop 8 l) e ∙ inner s s-long
      ∙ ap (λ (k : ℕ). take k (drop 8 s)) n ∙ sym (datagram_held s s-long (rw (← n) short))
      in
      let a : address_of r ≡ address_of s = same_four 0 (omega arith) in
      ap (λ (l : List ℕ). record { datagram = l; address = address_of r }) d ∙ ap (λ (k : ℕ). record { datagram = datagram_of s; address = k }) a

-- a packet that is refused leaves what stood there
pub cut_record_refused : (h : Header) (track : List ℕ) (k address : ℕ) (out : List ℕ) → (cut_answer h track k datagram_most ≡ Done → ⊥)
    → cut_record h track k address out ≡ out
unfolding cut_record
cut_record_refused h track k address out z = rw (refusal_made (cut_answer h track k datagram_most) z)

-- ---- a capture of one record is that record heard

pub answers_one : (b : Box) (capture : List ℕ) → answers_in b capture 1 ≡ tells_of b (event_of (record_at capture 0)) ∷ []
unfolding answers_in heard_in
answers_one b capture = refl

pub captured_one : (b : Box) (r : List ℕ) → length r ≡ record_size → captured b r ≡ follows b (event_of r)
unfolding heard_in
captured_one b r e =
    let w : whole_records r ≡ 1 = omega (arith, e) in
    let t : record_at r 0 ≡ r = ap (λ (n : ℕ). take n r) (sym e) ∙ take-length r in
    ap (λ (n : ℕ). after b (heard_in r n)) w ∙ ap (λ (x : List ℕ). follows b (event_of x)) t
