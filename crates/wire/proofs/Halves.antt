-- A name's field as words of eight bytes, kept with zeros after the name.
use mathlib.Core.Path.{◌≡◌, refl, sym, ap, ◌∙◌}
use mathlib.Core.List.{List, [], ◌∷◌, ◌++◌, append-nil}
use Prim.Native.Nat.{ℕ, zero, suc, ◌+◌, ◌-◌, ◌%◌, ◌^◌, ◌≤◌, ◌<◌}
use native.Mathlib.Nat.{pow-le-pow_right, suc-add, zero-add, mod-eq_of_lt, div-eq_of_lt, add-mul-mod_self_right, zero-sub, sub-zero, suc-sub-suc}
use native.Mathlib.Decide.{dec_le}
use native.Mathlib.Omega.{arith}
use lib.ListN.{length, take, drop, replicate, length-take, length-drop, take-append-drop, replicate-append-replicate}
use lib.Seq.{take-nil, take_all, take-take, length-take-le}
use Rattle.lists.specs.Lists.{byte}
use Rattle.lists.specs.Little.{little, bytes_of}
use Rattle.lists.proofs.Little.{little_joined, little_below, bytes_split, bytes_back}
use Rattle.wire_rules.specs.Names.{name_of, kept_name}
use Rattle.wire_rules.proofs.Names.{name_taken}

-- ---- kept

zero_bytes : (m : ℕ) → bytes_of m 0 ≡ replicate m 0
unfolding bytes_of
zero_bytes zero = refl
zero_bytes (suc m) = ap (λ (l : List ℕ). 0 ∷ l) (zero_bytes m)

-- the first k of eight bytes, and zeros
abbrev pub padded : ℕ → List ℕ → List ℕ
padded k xs = take k xs ++ replicate (8 - k) 0

module _ (d : List ℕ) (below : (j : ℕ) → byte d j < 256) (i : ℕ) where
  -- the lowest k of so many bytes, stored with zeros above them
  lowest : (k m w : ℕ) → i + (k + m) ≤ length d → w ≡ little (k + m) d i % 256 ^ k → bytes_of (k + m) w ≡ take k (drop i d) ++ replicate m 0
  lowest k m w h e =
      let b = little_below k d i below in
      let low : w ≡ little k d i =
      e ∙ rw (little_joined k m d i) (add-mul-mod_self_right (little k d i) (little m d (i + k)) (256 ^ k) ∙ mod-eq_of_lt b) in
      rw (low, bytes_split k m (little k d i), bytes_back k d i (omega arith) below, div-eq_of_lt b) (ap (λ (l : List ℕ). take k (drop i d) ++ l) (zero_bytes m))

  pub stored_lowest : (k w : ℕ) → i + 8 ≤ length d → w ≡ little 8 d i % 256 ^ k → bytes_of 8 w ≡ padded k (take 8 (drop i d))
  stored_lowest k w h e = elim (dec_le k 8) [
    | yes l ↦
        (let m : k + (8 - k) ≡ 8 = omega arith in
        let s : take k (take 8 (drop i d)) ≡ take k (drop i d) = take-take k 8 (drop i d) l in
        rw s (rw m at (lowest k (8 - k) w (omega arith) (rw m e))))
    | no l ↦
        (let b = little_below 8 d i below in
        let g : 256 ^ 8 ≤ 256 ^ k = pow-le-pow_right {n = 256} (omega arith) {i = 8} {j = k} (omega arith) in
        let z : 8 - k ≡ 0 = omega arith in
        let x : take k (take 8 (drop i d)) ≡ take 8 (drop i d) = take_all k (take 8 (drop i d)) (simp length-take (omega arith)) in
        rw (e, mod-eq_of_lt {n = little 8 d i} {m = 256 ^ k} (omega arith), bytes_back 8 d i h below, z, x) (sym (append-nil (take 8 (drop i d)))))
  ]

-- ---- a name's two words

-- a list with zeros after it, in two parts
padded_parts : (xs ys : List ℕ) (k m : ℕ)
    → (take k xs ++ replicate (length xs - k) 0) ++ (take (k - length xs) ys ++ replicate (m - (k - length xs)) 0) ≡ take k (xs ++ ys) ++ replicate (length xs + m - k) 0
padded_parts [] ys k m = rw (take-nil {A = ℕ} k, zero-sub k, sub-zero k, zero-add m)
padded_parts (x ∷ xs) ys zero m = simp (zero-sub, sub-zero) (replicate-append-replicate (suc (length xs)) m 0)
padded_parts (x ∷ xs) ys (suc k) m = simp (suc-add, suc-sub-suc) (ap (λ (l : List ℕ). x ∷ l) (padded_parts xs ys k m))

pub kept_words : (n : List ℕ) (k : ℕ) → length n ≡ 16 → k ≡ length (name_of n) → padded k (take 8 n) ++ padded (k - 8) (take 8 (drop 8 n)) ≡ kept_name n
unfolding kept_name
kept_words n k h e =
    let a : length (take 8 n) ≡ 8 = length-take-le 8 n (omega arith) in
    let b : take 8 (drop 8 n) ≡ drop 8 n = take_all 8 (drop 8 n) (simp length-drop (omega arith)) in
    rw (b, ← e) (rw (a, take-append-drop 8 n, name_taken n k e) at (padded_parts (take 8 n) (drop 8 n) k 8))
