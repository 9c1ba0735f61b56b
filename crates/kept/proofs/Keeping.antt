-- A take's bytes read and written, on plain values.
use mathlib.Core.Path.{◌≡◌, refl, sym, ap, ◌∙◌}
use mathlib.Core.Bool.{Bool, true, false, not}
use mathlib.Core.List.{List, [], ◌∷◌, ◌++◌, append-nil}
use Prim.Native.Nat.{ℕ, ◌+◌, ◌%◌, ◌<◌, zero-le}
use native.Mathlib.Nat.{zero-add, mod-eq_of_lt}
use native.Mathlib.Omega.{arith}
use lib.Dec.{eqb}
use lib.ListN.{length, take, drop, length-append, length-drop, take-append-drop, drop_of_length-le}
use lib.Seq.{length-take-le}
use borrow.Rule.Slice.PartMut.{put_mid}
use Rattle.std.specs.Int.{w16, to_le_bytes}
use Rattle.lists.specs.Lists.{byte, put}
use Rattle.lists.specs.Little.{little, bytes_of}
use Rattle.lists.specs.Tables.{choose}
use Rattle.lists.proofs.Lists.{lent, put_more, put_whole}
use Rattle.lists.proofs.Little.{bytes_length, little_one}
use Rattle.lists.proofs.Tables.{true_false}
use Rattle.wire_rules.specs.declared.Header.{Header}
use Rattle.take_rules.specs.declared.Decision.TheVariants.{Ahead, Late}
use Rattle.take_rules.specs.declared.Take.{Take}
use Rattle.take_rules.specs.Counter.{newer}
use Rattle.take_rules.specs.Line.{is_late, distance}
use Rattle.take_rules.specs.Follow.{decided, place_of, changed_shape, late, followed_by}
use Rattle.kept.specs.Kept.{kept_bytes, values_in, fixed_widths, fixed_values, newest_widths, newest_values, tail_of, take_bytes, take_of}
use Rattle.kept.proofs.Fields.{kept_again}

-- ---- read

pub loaded : (kept name : List ℕ) (address channels n newest place : ℕ) → name ≡ take 16 kept → address ≡ little 4 kept 16
    → channels ≡ little 2 kept 24 → n ≡ little 2 kept 26 → newest ≡ little 4 kept 28 → place ≡ little 8 kept 32
    → record {
      who = record { name = name; address = address };
      begun = not (eqb (byte kept 20) 0);
      shape = record { rate = byte kept 21; channels = channels; format = byte kept 22 };
      line = record { n = n; newest = newest; place = place };
    }
    ≡ take_of kept
unfolding take_of
loaded kept name address channels n newest place en ea ec ef ew ep =
    rw (en, ea, ec, ef, ew, ep, little_one kept 20, little_one kept 21, little_one kept 22)

-- ---- written

flag_small : (b : Bool) → choose b 1 0 % 256 ≡ choose b 1 0
flag_small true = refl
flag_small false = refl

pub middle_is : (t : Take) (g : ℕ) (c n : List ℕ) → g ≡ choose t.begun 1 0 → c ≡ to_le_bytes w16 t.shape.channels → n ≡ to_le_bytes w16 t.line.n
    → t.shape.rate < 256 → t.shape.format < 256
    → g ∷ t.shape.rate ∷ t.shape.format ∷ 0 ∷ byte c 0 ∷ byte c 1 ∷ byte n 0 ∷ byte n 1 ∷ []
    ≡ kept_bytes (drop 1 fixed_widths) (drop 1 (fixed_values t))
unfolding bytes_of
middle_is t g c n e ec en r f = rw (e, ec, en, flag_small t.begun, mod-eq_of_lt r, mod-eq_of_lt f)

module _ (kept : List ℕ) (forty : length kept ≡ 40) where
  pub newest_stored : (newest place : ℕ) (x y o : List ℕ) → x ≡ bytes_of 4 newest → y ≡ bytes_of 8 place → o ≡ put_mid 32 8 (put_mid 28 4 kept x) y
      → o ≡ put kept 28 (kept_bytes newest_widths (newest ∷ place ∷ []))
  newest_stored newest place x y o ex ey p =
      let lx : length x ≡ 4 = rw ex (bytes_length 4 newest) in
      let ly : length y ≡ 8 = rw ey (bytes_length 8 place) in
      let e : 32 ≡ 28 + length x = rw lx in
      p ∙ lent (put_mid 28 4 kept x) y 32 8 ly ∙ rw (lent kept x 28 4 lx, e, put_more kept x y 28 (omega (arith, forty)), ex, ey, append-nil)

  module _ (t : Take) where
    pub tail_stored : (x middle o₂ o₃ : List ℕ) → x ≡ bytes_of 4 t.who.address → middle ≡ kept_bytes (drop 1 fixed_widths) (drop 1 (fixed_values t))
        → o₂ ≡ put (put_mid 16 4 kept x) 20 middle → o₃ ≡ put o₂ 28 (kept_bytes newest_widths (t.line.newest ∷ t.line.place ∷ []))
        → o₃ ≡ put kept 16 (tail_of t)
    unfolding bytes_of
    tail_stored x middle o₂ o₃ ex em p q =
        let z : List ℕ = kept_bytes newest_widths (t.line.newest ∷ t.line.place ∷ []) in
        let a : 20 ≡ 16 + length x = rw ex in
        let b : 28 ≡ 16 + length (x ++ middle) = rw (ex, em) in
        let two : o₂ ≡ put kept 16 (x ++ middle) = p ∙ rw (lent kept x 16 4 (ap length ex), a) (put_more kept x middle 16 (omega (arith, forty))) in
        let all : put o₂ 28 z ≡ put kept 16 ((x ++ middle) ++ z) = rw (two, b) (put_more kept (x ++ middle) z 16 (omega (arith, forty))) in
        let same : (x ++ middle) ++ z ≡ tail_of t = rw (ex, em) in
        q ∙ all ∙ ap (put kept 16) same

    pub take_stored : (o₁ o₂ : List ℕ) → length t.who.name ≡ 16 → o₁ ≡ put kept 0 t.who.name → o₂ ≡ put o₁ 16 (tail_of t) → o₂ ≡ take_bytes t
    unfolding take_bytes bytes_of
    take_stored o₁ o₂ sixteen p q =
        let name : List ℕ = t.who.name in
        let l : length (name ++ tail_of t) ≡ 40 = length-append name (tail_of t) ∙ rw sixteen in
        q ∙ rw (p, ← sixteen, ← zero-add (length name)) (put_more kept name (tail_of t) 0 zero-le) ∙ put_whole kept (name ++ tail_of t) (forty ∙ sym l)

  -- where the name stays, the bytes after it are all that is written
  pub tail_alone : (t : Take) → t.who.name ≡ take 16 kept → put kept 16 (tail_of t) ≡ take_bytes t
  unfolding put take_bytes bytes_of
  tail_alone t e =
      let z : drop 24 (drop 16 kept) ≡ [] = drop_of_length-le (drop 16 kept) {i = 24} (rw (length-drop 16 kept) (omega (arith, forty))) in
      rw (z, e)

-- ---- followed

-- once begun, what is not late is ahead
ahead_by : (n : Bool) → is_late (choose n Ahead Late) ≡ false → choose n Ahead Late ≡ Ahead
ahead_by true e = refl
ahead_by false e = absurd (true_false e)

ahead_one : (t : Take) (h : Header) → t.begun ≡ true → late t h ≡ false → decided t h ≡ Ahead
ahead_one t h b l = rw b (ahead_by (newer 32 (distance t.line h.counter h.frames)) (rw b at l))

-- what was read of a take whose bytes are as we write them
fixed_read : (kept : List ℕ) → little 1 kept 20 ≡ 1 → little 1 kept 23 ≡ 0 → let t = take_of kept in
    t.who.address ∷ 1 ∷ t.shape.rate ∷ t.shape.format ∷ 0 ∷ t.shape.channels ∷ t.line.n ∷ [] ≡ values_in fixed_widths kept 16
unfolding take_of
fixed_read kept one spare = rw (one, spare)

-- the tail in two parts
tail_parts : (t : Take) → tail_of t ≡ kept_bytes fixed_widths (fixed_values t) ++ kept_bytes newest_widths (newest_values t)
unfolding bytes_of
tail_parts t = refl

module _ (kept : List ℕ) (forty : length kept ≡ 40) (below : (i : ℕ) → byte kept i < 256) (plain : (byte kept 20 ≡ 1) × (byte kept 23 ≡ 0)) where
  -- the bytes from the address to N
  abbrev fixed : List ℕ
  fixed = take 12 (drop 16 kept)

  fixed_length : length fixed ≡ 12
  fixed_length = length-take-le 12 (drop 16 kept) (rw (length-drop 16 kept) (omega (arith, forty)))

  fixed_stays : put kept 16 fixed ≡ kept
  unfolding put
  fixed_stays = rw (fixed_length, take-append-drop 12 (drop 16 kept)) (take-append-drop 16 kept)

  one : little 1 kept 20 ≡ 1
  one = little_one kept 20 ∙ plain.0

  spare : little 1 kept 23 ≡ 0
  spare = little_one kept 23 ∙ plain.1

  begun : (take_of kept).begun ≡ true
  unfolding take_of
  begun = rw one

  module _ (h : Header) (p : ℕ) (e : p ≡ place_of (take_of kept) h) (l : late (take_of kept) h ≡ false) where
    abbrev k : Take
    k = followed_by (take_of kept) h

    ahead : decided (take_of kept) h ≡ Ahead
    ahead = ahead_one (take_of kept) h begun l

    same_fixed : fixed_values k ≡ values_in fixed_widths kept 16
    same_fixed = rw (ahead, begun) (fixed_read kept one spare)

    same_newest : newest_values k ≡ h.counter ∷ p ∷ []
    same_newest = rw (e, ahead)

    tail_is : tail_of k ≡ fixed ++ kept_bytes newest_widths (h.counter ∷ p ∷ [])
    tail_is =
        let again : kept_bytes fixed_widths (fixed_values k) ≡ fixed =
        ap (kept_bytes fixed_widths) same_fixed ∙ kept_again fixed_widths kept 16 (omega (arith, forty)) below in
        tail_parts k ∙ (λ i. again i ++ kept_bytes newest_widths (same_newest i))

    -- a take that has begun keeps all but the newest counter and place
    pub plain_stored : (o : List ℕ) → o ≡ put kept 28 (kept_bytes newest_widths (h.counter ∷ p ∷ [])) → o ≡ put kept 16 (tail_of k)
    plain_stored o q =
        let n : List ℕ = kept_bytes newest_widths (h.counter ∷ p ∷ []) in
        let at : 28 ≡ 16 + length fixed = rw fixed_length in
        q ∙ ap (λ (l : List ℕ). put l 28 n) (sym fixed_stays) ∙ rw (at, put_more kept fixed n 16 (omega (arith, forty)), tail_is)

-- what is asked of a take is asked of the take that its bytes are
module _ (t u : Take) (e : t ≡ u) (h : Header) where
  pub placed_as : (p : ℕ) → p ≡ place_of t h → changed_shape t h ≡ false → (p ≡ place_of u h) × (changed_shape u h ≡ false)
  placed_as p a b = (a ∙ ap (λ (x : Take). place_of x h) e, ap (λ (x : Take). changed_shape x h) (sym e) ∙ b)

  pub late_as : late t h ≡ false → late u h ≡ false
  late_as a = ap (λ (x : Take). late x h) (sym e) ∙ a
