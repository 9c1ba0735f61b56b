-- Reading alone answers as the paper's rules say.
use mathlib.Core.Path.{◌≡◌, refl, sym, ap, ◌∙◌}
use mathlib.Core.Logic.{◌↔◌}
use mathlib.Core.Bool.{false, not}
use mathlib.Core.List.{List, [], ◌∷◌, ◌++◌}
use Prim.Native.Nat.{ℕ, zero, suc, ◌+◌, ◌≤◌, ◌<◌}
use native.Mathlib.Nat.{add-zero, add-suc, suc-add, min-le_left}
use native.Mathlib.Omega.{arith}
use lib.Dec.{ltb, lit<}
use lib.ListN.{length, take, drop, replicate, length-take, get_or-eq_default}
use lib.Seq.{drop-cons, get_or-take}
use borrow.Author.Tests.{ltb-true, ltb-false, ne_eqb, not-false}
use Rattle.lists.specs.Lists.{byte}
use Rattle.lists.specs.Tables.{Row, first, unlike}
use Rattle.lists.specs.Rules.{Rules, done, numbers_of, AllHold, FirstBroken}
use Rattle.lists.proofs.Tables.{by_test, like_by, none_holds, none_says}
use Rattle.lists.proofs.Rules.{Judges, judged, judged_less, judged_unlike, none_answers, all_hold_exactly, first_broken_exactly}
use Rattle.answers.specs.declared.Answer.{Answer}
use Rattle.answers.specs.declared.Answer.TheVariants.{Accepted}
use Rattle.answers.specs.Numbers.{number_of}
use Rattle.answers.proofs.Numbers.{number_told, refusal_number}
use Rattle.formats.specs.Formats.{may_read}
use Rattle.formats.proofs.Types.{read_by, by_read}
use Rattle.wire_rules.specs.declared.Header.{Header}
use Rattle.wire_rules.specs.Header.{foreign, sub_bits, codec_bits, reserved_bit, rate_bits, format_bits, name_field, header_of, no_header, data_size, header_rows, header_rules, header_alone}
use Rattle.wire_rules.specs.Read.{front_rows, audio_rows, read_rows, read_of, Readable, front_rules, audio_rules, read_rules}
use Rattle.wire_rules.specs.Names.{good_name}
use Rattle.wire_rules.proofs.Names.{good_exactly}

-- ---- a list and its bytes

-- n bytes from k on
abbrev pub run : List ℕ → ℕ → ℕ → List ℕ
run d k zero = []
run d k (suc n) = byte d k ∷ run d (suc k) n

pub run_is : (d : List ℕ) (k n : ℕ) → k + n ≤ length d → drop k d ≡ run d k n ++ drop (k + n) d
run_is d k zero h = rw add-zero
run_is d k (suc n) h =
    drop-cons d k 0 (omega arith) ∙ ap (λ (l : List ℕ). byte d k ∷ l) (run_is d (suc k) n (omega arith) ∙ rw (add-suc, suc-add))

-- what is not zero lies within
within : (d : List ℕ) (i : ℕ) → (byte d i ≡ 0 → ⊥) → i < length d
within d i h =
    by_test (λ b. i < length d) (ltb i (length d)) (ltb-true i (length d)) (λ t. absurd (h (get_or-eq_default d 0 (ltb-false _ _ t))))

-- a header of zeros, written out
abbrev zeros : Header
zeros = record { rate = 0; frames = 0; channels = 0; format = 0; name = replicate 16 0; counter = 0 }

-- ---- each row judges its rule

abbrev mark : List ℕ
mark = 0x56 ∷ 0x42 ∷ 0x41 ∷ 0x4E ∷ []

module _ (d : List ℕ) where
  pub marked_bytes : take 4 d ≡ mark → (i : ℕ) → i < 4 → byte d i ≡ byte mark i
  marked_bytes e i h = sym (get_or-take 4 d i 0 h) ∙ ap (λ (l : List ℕ). byte l i) e

  by_mark : take 4 d ≡ mark → foreign d ≡ false
  by_mark e =
      rw (
        marked_bytes e 0 (lit< tt),
        marked_bytes e 1 (lit< tt),
        marked_bytes e 2 (lit< tt),
        marked_bytes e 3 (lit< tt),
      )

  pub mark_by : foreign d ≡ false → take 4 d ≡ mark
  mark_by e =
      let c = none_holds (unlike (byte d 0) 0x56 ∷ unlike (byte d 1) 0x42 ∷ unlike (byte d 2) 0x41 ∷ unlike (byte d 3) 0x4E ∷ []) e in
      let b₃ : byte d 3 ≡ 0x4E = like_by _ _ c.1.1.1.0 in
      let l : 3 < length d = within d 3 (λ z. omega arith) in
      ap (take 4) (run_is d 0 4 (omega arith))
      ∙ rw (like_by (byte d 0) 0x56 c.0, like_by (byte d 1) 0x42 c.1.0, like_by (byte d 2) 0x41 c.1.1.0, b₃)

  pub field_short : length (name_field d) ≤ 16
  field_short = rw length-take (min-le_left 16 (length (drop 8 d)))

  -- rows 1 to 4 and rows 6 to 11, before whatever rows follow
  pub front_judges : (rows : List (Row Answer)) (rules : Rules Answer) → Judges rows rules → Judges (front_rows d ++ rows) (front_rules d rules)
  front_judges rows rules rest =
      let named = good_exactly (name_field d) field_short in
      judged_less (length d) 28
      (judged_less 1464 (length d)
      (judged (foreign d) by_mark mark_by
      (judged (not (good_name (name_field d))) (λ g. ap not (named.1 g)) (λ e. named.0 (not-false _ e)) rest)))

  pub audio_judges : (rows : List (Row Answer)) (rules : Rules Answer) → Judges rows rules → Judges (audio_rows d ++ rows) (audio_rules d rules)
  audio_judges rows rules rest =
      judged_unlike (sub_bits (byte d 4)) 0
      (judged_unlike (codec_bits (byte d 7)) 0
      (judged_unlike (reserved_bit (byte d 7)) 0
      (judged_less 20 (rate_bits (byte d 4))
      (judged (not (may_read (format_bits (byte d 7)))) (λ h. ap not (by_read _ h)) (λ e. read_by _ (not-false _ e))
      (judged_unlike (length d) (28 + data_size (header_of d)) rest)))))

  judges : Judges (read_rows d) (read_rules d)
  judges = front_judges (audio_rows d) (audio_rules d done) (audio_judges [] done tt)

  -- the table's numbers, in its order
  pub read_numbers : numbers_of number_of (read_rules d) ≡ 1 ∷ 2 ∷ 3 ∷ 4 ∷ 6 ∷ 7 ∷ 8 ∷ 9 ∷ 10 ∷ 11 ∷ []
  read_numbers = refl

  all_hold : (read_of d).answer ≡ Accepted ↔ AllHold (read_rules d)
  unfolding read_of
  all_hold =
      all_hold_exactly Accepted (read_rows d) (read_rules d) judges
      (none_answers Accepted (read_rows d) (read_rules d) judges (none_says Accepted number_of (read_rows d) tt))

  pub read_accepted_exactly : (read_of d).answer ≡ Accepted ↔ Readable d
  read_accepted_exactly = (
    (λ e.
        let a = all_hold.0 e in
        record {
          not_short = a.0;
          not_long = a.1.0;
          marked = a.1.1.0;
          named = a.1.1.1.0;
          audio = a.1.1.1.1.0;
          pcm = a.1.1.1.1.1.0;
          unreserved = a.1.1.1.1.1.1.0;
          rated = a.1.1.1.1.1.1.1.0;
          typed = a.1.1.1.1.1.1.1.1.0;
          exact = a.1.1.1.1.1.1.1.1.1.0;
        }),
    (λ r.
        all_hold.1
        (r.not_short, (r.not_long, (r.marked, (r.named, (r.audio, (r.pcm, (r.unreserved, (r.rated, (r.typed, (r.exact, tt))))))))))),
  )

  pub read_refused_exactly : (a : Answer) → (a ≡ Accepted → ⊥) → (read_of d).answer ≡ a ↔ FirstBroken (read_rules d) a
  unfolding read_of
  read_refused_exactly = first_broken_exactly Accepted (read_rows d) (read_rules d) judges

  -- ---- what comes with the answer

  pub read_refused_zeros : ((read_of d).answer ≡ Accepted → ⊥) → read_of d ≡ record { answer = (read_of d).answer; header = no_header; size = 0 }
  unfolding read_of
  read_refused_zeros other = rw (ne_eqb (number_of (first Accepted (read_rows d))) 0 (λ z. other (number_told _ Accepted z)))

  pub read_accepted_fields : (read_of d).answer ≡ Accepted → read_of d ≡ record { answer = Accepted; header = header_of d; size = data_size (header_of d) }
  unfolding read_of
  read_accepted_fields e = rw e

  -- at most 1,436 data bytes, from byte 28 to the end
  pub read_accepted_size : (read_of d).answer ≡ Accepted → (length d ≡ 28 + (read_of d).size) × ((read_of d).size ≤ 1436)
  read_accepted_size e =
      let r = read_accepted_exactly.0 e in
      rw (read_accepted_fields e) (r.exact, omega arith)

  -- ---- the header alone

  header_judges : Judges (header_rows d) (header_rules d)
  header_judges =
      let named = good_exactly (name_field d) field_short in
      judged (foreign d) by_mark mark_by
      (judged (not (good_name (name_field d))) (λ g. ap not (named.1 g)) (λ e. named.0 (not-false _ e))
      (judged_unlike (sub_bits (byte d 4)) 0
      (judged_unlike (codec_bits (byte d 7)) 0
      (judged_unlike (reserved_bit (byte d 7)) 0
      (judged_less 20 (rate_bits (byte d 4))
      (judged (not (may_read (format_bits (byte d 7)))) (λ h. ap not (by_read _ h)) (λ e. read_by _ (not-false _ e)) tt))))))

  pub header_numbers : numbers_of number_of (header_rules d) ≡ 3 ∷ 4 ∷ 6 ∷ 7 ∷ 8 ∷ 9 ∷ 10 ∷ []
  header_numbers = refl

  -- accepted exactly when every rule holds
  pub header_accepted_exactly : (header_alone d).answer ≡ Accepted ↔ AllHold (header_rules d)
  unfolding header_alone
  header_accepted_exactly =
      all_hold_exactly Accepted (header_rows d) (header_rules d) header_judges
      (none_answers Accepted (header_rows d) (header_rules d) header_judges (none_says Accepted number_of (header_rows d) tt))

  -- another answer exactly when its rule is broken and all before it hold
  pub header_refused_exactly : (a : Answer) → (a ≡ Accepted → ⊥) → (header_alone d).answer ≡ a ↔ FirstBroken (header_rules d) a
  unfolding header_alone
  header_refused_exactly = first_broken_exactly Accepted (header_rows d) (header_rules d) header_judges

  pub header_refused_zeros : ((header_alone d).answer ≡ Accepted → ⊥) → header_alone d ≡ record { answer = (header_alone d).answer; header = zeros }
  unfolding header_alone
  header_refused_zeros other = rw (refusal_number (first Accepted (header_rows d)) other)

  pub header_accepted_fields : (header_alone d).answer ≡ Accepted → header_alone d ≡ record { answer = Accepted; header = header_of d }
  unfolding header_alone
  header_accepted_fields e = rw e
