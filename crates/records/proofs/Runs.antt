-- A frame in runs of its channels, each stored in a part that is lent.
use mathlib.Core.Path.{◌≡◌, sym, ap, ◌∙◌}
use mathlib.Core.List.{List, ◌++◌}
use Prim.Native.Nat.{ℕ, ◌+◌, ◌*◌, zero-le}
use native.Mathlib.Nat.{zero-add, add_assoc}
use native.Mathlib.Omega.{arith}
use lib.ListN.{length}
use borrow.Rule.Slice.PartMut.{put_mid}
use Rattle.lists.specs.Lists.{put, up_to}
use Rattle.lists.proofs.Lists.{lent, put_none, put_more, put_whole, up_to_length, up_to_same, up_to_more}
use Rattle.lists.proofs.Little.{bytes_length}
use Rattle.formats.specs.declared.Format.{Format}
use Rattle.formats.specs.Formats.{size_of}
use Rattle.records.specs.Frames.{sent_at, sent_bytes, frame_out, run_out}

module _ (f : Format) (t : List ℕ) (at : ℕ) where
  run_length : (c n : ℕ) → length (run_out f t at c n) ≡ n * size_of f
  unfolding run_out
  run_length c n = up_to_length (size_of f) (λ i. sent_bytes f t at (c + i)) (λ i. bytes_length (size_of f) (sent_at f t at (c + i))) n

  run_more : (c m n : ℕ) → run_out f t at c (m + n) ≡ run_out f t at c m ++ run_out f t at (c + m) n
  unfolding run_out
  run_more c m n =
      up_to_more m n (λ i. sent_bytes f t at (c + i))
      ∙ ap (λ (l : List ℕ). run_out f t at c m ++ l) (up_to_same n _ _ (λ i h. ap (sent_bytes f t at) (sym (add_assoc c m i))))

  -- a frame is the run of all its channels
  whole : (n : ℕ) → run_out f t at 0 n ≡ frame_out f t at n
  unfolding run_out frame_out
  whole n = up_to_same n _ _ (λ i h. ap (sent_bytes f t at) (zero-add i))

  pub run_for_count : (channels n : ℕ) (out w : List ℕ) → channels ≡ n → out ≡ w → w ≡ run_out f t at 0 n → out ≡ frame_out f t at channels
  run_for_count channels n out w e p q = rw e (p ∙ q ∙ whole n)

  -- no channels yet
  none : (out : List ℕ) → out ≡ put out 0 (run_out f t at 0 0)
  unfolding run_out up_to
  none out = put_none out 0

  -- m channels more, in the part that they are lent
  more : (n m : ℕ) (out₀ out xs : List ℕ) → out ≡ put out₀ 0 (run_out f t at 0 n) → xs ≡ run_out f t at n m
      → put_mid (n * size_of f) (m * size_of f) out xs ≡ put out₀ 0 (run_out f t at 0 (n + m))
  more n m out₀ out xs p q =
      let done = run_out f t at 0 n in
      let w : n * size_of f ≡ 0 + length done = omega (arith, run_length 0 n) in
      let j : done ++ run_out f t at n m ≡ run_out f t at 0 (n + m) = sym (run_more 0 n m ∙ rw (zero-add n)) in
      lent out xs (n * size_of f) (m * size_of f) (ap length q ∙ run_length n m)
      ∙ rw (p, w, put_more out₀ done xs 0 zero-le, q, j)

  -- and all of them, over what was lent
  all : (n : ℕ) (out₀ out : List ℕ) → length out₀ ≡ n * size_of f → out ≡ put out₀ 0 (run_out f t at 0 n) → out ≡ frame_out f t at n
  all n out₀ out h p = p ∙ put_whole out₀ (run_out f t at 0 n) (h ∙ sym (run_length 0 n)) ∙ whole n

-- eight channels by words of four, or of two
module _ (f : Format) (t : List ℕ) (at : ℕ) (out : List ℕ) (h : length out ≡ 8 * size_of f) where
  pub by_fours : (xs ys v w : List ℕ) → xs ≡ v → ys ≡ w → v ≡ run_out f t at 0 4 → w ≡ run_out f t at 4 4
      → put_mid (4 * size_of f) (4 * size_of f) (put_mid (0 * size_of f) (4 * size_of f) out xs) ys ≡ frame_out f t at 8
  by_fours xs ys v w i j p q = all f t at 8 out _ h (more f t at 4 4 out _ ys (more f t at 0 4 out out xs (none f t at out) (i ∙ p)) (j ∙ q))

  pub by_twos : (xs ys zs us v w x y : List ℕ) → xs ≡ v → ys ≡ w → zs ≡ x → us ≡ y
      → v ≡ run_out f t at 0 2 → w ≡ run_out f t at 2 2 → x ≡ run_out f t at 4 2 → y ≡ run_out f t at 6 2
      → put_mid (6 * size_of f) (2 * size_of f) (put_mid (4 * size_of f) (2 * size_of f)
      (put_mid (2 * size_of f) (2 * size_of f) (put_mid (0 * size_of f) (2 * size_of f) out xs) ys) zs) us
      ≡ frame_out f t at 8
  by_twos xs ys zs us v w x y i j k l p q r s =
      let a = more f t at 0 2 out out xs (none f t at out) (i ∙ p) in
      let b = more f t at 2 2 out _ ys a (j ∙ q) in
      let c = more f t at 4 2 out _ zs b (k ∙ r) in
      all f t at 8 out _ h (more f t at 6 2 out _ us c (l ∙ s))
