-- A block's records, one after the other: the box and the lines.
use mathlib.Core.Path.{◌≡◌, refl, sym, ap, ◌∙◌}
use mathlib.Core.List.{List, ◌++◌, append-nil, append_assoc}
use Prim.Native.Nat.{ℕ, zero, suc, ◌+◌, ◌*◌, ◌≤◌, ◌<◌}
use native.Mathlib.Nat.{not-suc-le-zero, zero-mul}
use native.Mathlib.Numerals.{add-one}
use native.Mathlib.Omega.{arith}
use lib.ListN.{length, take, drop, get_or}
use lib.Seq.{drop-drop}
use Rattle.std.specs.Simd.{first_chunks}
use Rattle.take_rules.specs.Box.{Box, tells_of, after, follows}
use Rattle.capture_rules.specs.Records.{record_size}
use Rattle.capture_rules.specs.Fold.{event_of, record_at, heard_in, answers_in, whole_records}
use Rattle.capture_rules.proofs.Joining.{answers_length}
use Rattle.lines.specs.Lines.{line_room}
use Rattle.takelist.specs.declared.block.Follower.{Follower}
use Rattle.takelist.specs.Block.{box_of, answer_line, lines_of}
use Rattle.takelist.proofs.Joining.{lines_append}

-- after i records
pub record Going (b : Box) (index : ℕ) (block lines₀ lines track : List ℕ) (f : Follower) (i : ℕ) : Type 0 where
  pub box : box_of f track ≡ after b (heard_in block i)
  pub text : lines ≡ lines₀ ++ lines_of index (answers_in b block i)
  pub near : length lines ≤ length lines₀ + i * line_room

pub starts : (f : Follower) (index : ℕ) (block lines track : List ℕ) → Going (box_of f track) index block lines lines track f 0
unfolding heard_in answers_in lines_of
starts f index block lines track = record { box = refl; text = sym (append-nil lines); near = omega arith }

-- a list's chunk i
chunk_at : (n k : ℕ) (xs d : List ℕ) (i : ℕ) → i < k → get_or (first_chunks n k xs) i d ≡ take n (drop (i * n) xs)
chunk_at n zero xs d i h = absurd (not-suc-le-zero h)
chunk_at n (suc k) xs d zero h = rw (zero-mul n)
chunk_at n (suc k) xs d (suc i) h =
    let e : n + i * n ≡ suc i * n = omega arith in
    chunk_at n k (drop n xs) d i (omega arith) ∙ rw (drop-drop (i * n) n xs, e)

module _ (b : Box) (index : ℕ) (block lines₀ lines track : List ℕ) (f : Follower) (i : ℕ) (g : Going b index block lines₀ lines track f i) where
  added : List ℕ
  added = answer_line (index + i) (tells_of (box_of f track) (event_of (record_at block i)))

  lines_next : lines_of index (answers_in b block (i + 1)) ≡ lines_of index (answers_in b block i) ++ added
  unfolding answers_in lines_of added
  lines_next =
      ap (λ (n : ℕ). lines_of index (answers_in b block n)) (add-one i)
      ∙ lines_append index (answers_in b block i) _
      ∙ rw (answers_length b block i, append-nil, ← g.box)

  pub next : (records : List (List ℕ)) (d : List ℕ) → records ≡ first_chunks record_size (whole_records block) block → length records ≡ whole_records block → i < length records
      → (f' : Follower) (lines' track' : List ℕ)
      → box_of f' track' ≡ follows (box_of f track) (event_of (get_or records i d))
      → lines' ≡ lines ++ answer_line (index + i) (tells_of (box_of f track) (event_of (get_or records i d)))
      → length lines' ≤ length lines + line_room → Going b index block lines₀ lines' track' f' (i + 1)
  unfolding heard_in added
  next records d p l more f' lines' track' eb el en =
      let m : i < whole_records block = rw (← l) more in
      let h : get_or records i d ≡ record_at block i = rw p (chunk_at record_size (whole_records block) block d i m) in
      record {
        box =
            eb ∙ ap (λ (r : List ℕ). follows (box_of f track) (event_of r)) h
            ∙ ap (λ (x : Box). follows x (event_of (record_at block i))) g.box
            ∙ ap (λ (n : ℕ). after b (heard_in block n)) (sym (add-one i));
        text = el ∙ rw (h, lines_next, g.text) (append_assoc lines₀ (lines_of index (answers_in b block i)) added);
        near = omega (arith, g.near, en);
      }
