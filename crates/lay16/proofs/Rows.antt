-- Samples that stand in a row in words of four bytes, and the row as records.
use mathlib.Core.Path.{◌≡◌, sym, ap, ◌∙◌}
use mathlib.Core.List.{List}
use Prim.Native.Nat.{ℕ, ◌+◌, ◌*◌, ◌/◌, ◌%◌, ◌^◌, ◌<◌}
use native.Mathlib.Nat.{add_assoc}
use native.Mathlib.Omega.{arith}
use Rattle.lists.specs.Lists.{byte, up_to}
use Rattle.lists.specs.Little.{little, bytes_of}
use Rattle.lists.proofs.Lists.{up_to_same, up_to_flat}
use Rattle.lists.proofs.Little.{little_middle}
use Rattle.lists.proofs.Branches.{less_yes}
use Rattle.formats.specs.Formats.{signed16}
use Rattle.sample_rules.specs.Bits.{slot_of}
use Rattle.track_rules.specs.Records.{record_of, records_of, frame_slot, packet_slot}
use Rattle.records.specs.Frames.{half_of}
use Rattle.lay16.specs.Rows.{in_row}

module _ (d : List ℕ) (from : ℕ) where
  -- sample c, that stands m bytes into the word at b
  pub in_word : ((i : ℕ) → byte d i < 256) → (b m k v r c : ℕ) → v ≡ little (m + (2 + k)) d (from + b) → c * 2 ≡ b + m
      → r ≡ slot_of signed16 (v / 256 ^ m % 65536) → r ≡ in_row d from c
  in_word below b m k v r c e i s =
      s ∙ ap (slot_of signed16) (rw (e, i, ← add_assoc from b m) (little_middle m 2 k d (from + b) below))

  -- a row as slots, four a turn, and as frames of eight channels
  abbrev one : ℕ → List ℕ
  one j = bytes_of 3 (in_row d from j)

  halves : (n : ℕ) → up_to n (λ k. half_of (in_row d (from + k * 8))) ≡ up_to (n * 4) one
  unfolding half_of
  halves n =
      up_to_same n _ _ (λ k h. up_to_same 4 _ _ (λ c g.
      let e : from + k * 8 + c * 2 ≡ from + (k * 4 + c) * 2 = omega arith in ap (λ (x : ℕ). bytes_of 3 (slot_of signed16 (little 2 d x))) e))
      ∙ up_to_flat 4 n one

  frames : (n : ℕ) → records_of n (packet_slot signed16 d from 8) ≡ up_to (n * 8) one
  unfolding records_of record_of packet_slot frame_slot
  frames n =
      up_to_same n _ _ (λ k h. up_to_same 8 _ _ (λ c g.
      let e : from + k * 16 + c * 2 ≡ from + (k * 8 + c) * 2 = omega arith in
      ap (bytes_of 3) (sym (less_yes _ _ _ _ g) ∙ ap (λ (x : ℕ). slot_of signed16 (little 2 d x)) e)))
      ∙ up_to_flat 8 n one

  pub all_laid : (n : ℕ) → up_to (n * 2) (λ k. half_of (in_row d (from + k * 8))) ≡ records_of n (packet_slot signed16 d from 8)
  all_laid n =
      let e : n * 2 * 4 ≡ n * 8 = omega arith in
      halves (n * 2) ∙ rw e (sym (frames n))
