-- Frames of 24 bits by stores that are longer than a frame: what a store writes too much the next one writes over.
use mathlib.Core.Path.{◌≡◌, refl, sym, ap, ◌∙◌}
use mathlib.Core.List.{List, ◌++◌, append_assoc}
use Prim.Native.Nat.{ℕ, ◌+◌, ◌-◌, ◌*◌, ◌/◌, ◌≤◌, ◌<◌}
use native.Mathlib.Nat.{add-mul, add-sub_cancel_left, mul-le-mul_right}
use native.Mathlib.Numerals.{add-one}
use native.Mathlib.Omega.{arith}
use lib.ListN.{length, take, drop, length-append, length-take, length-drop}
use lib.Seq.{take-add}
use borrow.Rule.Slice.PartMut.{put_mid}
use Rattle.lists.specs.Lists.{byte, put, up_to}
use Rattle.lists.proofs.Lists.{put_more, put_over, put_length, lent, within, one_more_times}
use Rattle.lists.specs.Little.{little, bytes_of}
use Rattle.lists.proofs.Little.{bytes_length, bytes_back}
use Rattle.formats.specs.Formats.{signed24}
use Rattle.track_rules.specs.Records.{taken_of}
use Rattle.records.specs.Frames.{sent_at, frame_out}
use Rattle.records.proofs.Taking.{frame_length, taken_joined, taken_length}
use Rattle.out24.proofs.Copying.{frame_run}

-- k frames are written. What stands after them is right once as many bytes are written there as a store writes too much: the pieces
-- overlap, so this is no `Pieces` of `lists`.
pub record Overlaid (over : ℕ) (t : List ℕ) (first frames channels : ℕ) (out₀ : List ℕ) (place : ℕ) (out : List ℕ) (k : ℕ) : Type 0 where
  pub turns : k < frames
  pub same : length out ≡ length out₀
  pub so_far : (a : ℕ) → a ≡ place + k * (channels * 3) → (y : List ℕ) → over ≤ length y
      → put out a y ≡ put out₀ place (taken_of signed24 t first k channels ++ y)

-- in a turn there is room for its four frames, and for one more
pub ahead : (place k frames x held : ℕ) → k < (frames - 1) / 4 → place + frames * x ≤ held → place + k * 4 * x + 5 * x ≤ held
ahead place k frames x held h m =
    let j : k * 4 + 5 ≤ frames = omega arith in
    omega (arith, mul-le-mul_right x j, add-mul (k * 4) 5 x)

-- one frame more is that frame after the others
taken_more : (t : List ℕ) (first k channels at : ℕ) → at ≡ (first + k) * 24
    → taken_of signed24 t first (k + 1) channels ≡ taken_of signed24 t first k channels ++ frame_out signed24 t at channels
unfolding taken_of frame_out sent_at up_to
taken_more t first k channels at e = rw (e, add-one k)

module _ (t : List ℕ) (below : (i : ℕ) → byte t i < 256) where
  -- a store of n bytes writes what stands in the track
  pub word_stored : (n at a w : ℕ) (out ys : List ℕ) → at + n ≤ length t → w ≡ little n t at → ys ≡ bytes_of n w
      → put_mid a (a + n - a) out ys ≡ put out a (take n (drop at t))
  word_stored n at a w out ys l p q =
      let m : length ys ≡ a + n - a = ap length q ∙ bytes_length n w ∙ sym (add-sub_cancel_left a n) in
      lent out ys a (a + n - a) m ∙ ap (put out a) (q ∙ ap (bytes_of n) p ∙ bytes_back n t at l below)

  module _ (over channels first frames : ℕ) (out₀ : List ℕ) (place : ℕ) where
    pub start : (frames ≡ 0 → ⊥) → Overlaid over t first frames channels out₀ place out₀ 0
    unfolding taken_of up_to
    start h = record {
      turns = omega arith;
      same = refl;
      so_far = λ a e y l. let z : a ≡ place = omega arith in rw z;
    }

    module _ (out : List ℕ) (k : ℕ) (l : Overlaid over t first frames channels out₀ place out k)
        (m : place + frames * (channels * 3) ≤ length out₀) (o : over ≤ channels * 3)
        (at a : ℕ) (reads : at ≡ (first + k) * 24) (writes : a ≡ place + k * (channels * 3)) where
      next_frame : (s r y : List ℕ) → s ≡ frame_out signed24 t at channels → length r ≡ over → over ≤ length y
          → put (put out a (s ++ r)) (a + channels * 3) y ≡ put out₀ place (taken_of signed24 t first (k + 1) channels ++ y)
      next_frame s r y p q h =
          let n : length s ≡ channels * 3 = ap length p ∙ frame_length signed24 t at channels in
          let i : a + length s ≤ length out = omega (arith, l.same, within k frames (channels * 3) l.turns) in
          let j : a ≤ length out = omega arith in
          rw (
            ← n,
            ← put_more out s r a j,
            put_over (put out a s) r y (a + length s) (rw (put_length out s a i) i) (omega arith),
            put_more out s y a j,
            l.so_far a writes (s ++ y) (rw (length-append s y) (omega arith)),
            taken_more t first k channels at reads,
            append_assoc (taken_of signed24 t first k channels) (frame_out signed24 t at channels) y,
            p,
          )

      -- a frame, and as much of the record as is written too much
      next : (stored : List ℕ) → k + 1 < frames → at + (channels * 3 + over) ≤ length t
          → stored ≡ put out a (take (channels * 3 + over) (drop at t))
          → Overlaid over t first frames channels out₀ place stored (k + 1)
      next stored h b p =
          let ys = take (channels * 3 + over) (drop at t) in
          let s = take (channels * 3) (drop at t) in
          let r = take over (drop (channels * 3) (drop at t)) in
          let e : ys ≡ s ++ r = take-add (channels * 3) over (drop at t) in
          let lr : length r ≡ over = simp (length-take, length-drop) (omega arith) in
          let ly : length ys ≡ channels * 3 + over = simp (length-take, length-drop) (omega arith) in
          let i : a + length ys ≤ length out = omega (arith, l.same, within (k + 1) frames (channels * 3) h, one_more_times k (channels * 3)) in
          record {
            turns = h;
            same = rw p (put_length out ys a i ∙ l.same);
            so_far = λ i f y g.
                let z : i ≡ a + channels * 3 = omega (arith, one_more_times k (channels * 3)) in rw (z, p, e) (next_frame s r y (sym (frame_run t below at channels (omega arith))) lr g);
          }

    -- the frames that are left, by themselves
    pub rest : (out : List ℕ) (k n a : ℕ) (done : List ℕ) → Overlaid over t first frames channels out₀ place out k → over ≤ channels * 3 → n ≡ k
        → a ≡ place + n * (channels * 3) → done ≡ put out a (taken_of signed24 t (first + n) (frames - n) channels)
        → done ≡ put out₀ place (taken_of signed24 t first frames channels)
    rest out k n a done l o i j p =
        let y = taken_of signed24 t (first + n) (frames - n) channels in
        let m : 0 < frames - n = omega (arith, l.turns) in
        let w : over ≤ (frames - n) * (channels * 3) = omega (arith, within 0 (frames - n) (channels * 3) m) in
        let h : over ≤ length y = rw (taken_length signed24 t (first + n) (frames - n) channels) w in
        let e : frames ≡ n + (frames - n) = omega (arith, l.turns) in
        p ∙ l.so_far a (rw (← i) j) y h ∙ rw (← i, ← taken_joined signed24 t first n (frames - n) channels, ← e)

    -- four frames
    module _ (out : List ℕ) (k : ℕ) (l : Overlaid over t first frames channels out₀ place out k)
        (m : place + frames * (channels * 3) ≤ length out₀) (o : over ≤ channels * 3) (b : (first + frames) * 24 ≤ length t)
        (n : ℕ) (e : n ≡ channels * 3 + over) (few : n ≤ 24) (h : k + 4 < frames)
        (at a : ℕ) (reads : at ≡ (first + k) * 24) (writes : a ≡ place + k * (channels * 3)) where
      abbrev x : ℕ
      x = channels * 3

      abbrev word : ℕ → List ℕ
      word i = take n (drop i t)

      pub four : (s0 s1 s2 s3 : List ℕ) → s0 ≡ put out a (word at) → s1 ≡ put s0 (a + x) (word (at + 24))
          → s2 ≡ put s1 (a + 2 * x) (word (at + 48)) → s3 ≡ put s2 (a + 3 * x) (word (at + 72))
          → Overlaid over t first frames channels out₀ place s3 (k + 4)
      four s0 s1 s2 s3 p0 p1 p2 p3 =
          let w1 : a + x ≡ place + (k + 1) * x = omega (arith, add-mul k 1 x) in
          let w2 : a + 2 * x ≡ place + (k + 1 + 1) * x = omega (arith, add-mul k 2 x) in
          let w3 : a + 3 * x ≡ place + (k + 1 + 1 + 1) * x = omega (arith, add-mul k 3 x) in
          let n0 = next out k l m o at a reads writes s0 (omega arith) (omega arith) (rw (← e) p0) in
          let n1 = next s0 (k + 1) n0 m o (at + 24) (a + x) (omega arith) w1 s1 (omega arith) (omega arith) (rw (← e) p1) in
          let n2 = next s1 (k + 1 + 1) n1 m o (at + 48) (a + 2 * x) (omega arith) w2 s2 (omega arith) (omega arith) (rw (← e) p2) in
          let n3 = next s2 (k + 1 + 1 + 1) n2 m o (at + 72) (a + 3 * x) (omega arith) w3 s3 (omega arith) (omega arith) (rw (← e) p3) in
          let f : k + 4 ≡ k + 1 + 1 + 1 + 1 = omega arith in
          rw f n3
