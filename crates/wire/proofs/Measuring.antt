-- A name measured by the characters at its front.
use Rattle.std.proofs.Common.{◌≡◌, refl, sym, ap, ℕ, zero, suc, ◌+◌, ◌<◌, Bool, true, false, cond, Some, None, List, [], ◌∷◌, length, get_or, arith}
use native.Mathlib.Nat.{add_comm}
use native.Mathlib.Numerals.{add-one}
use Rattle.std.specs.Option.{is_some}
use lib.Dec.{ltb, eqb, eqb-suc-zero}
use borrow.Author.Tests.{ne_eqb, le-leb, lt-leb, ltb-true, ltb-false}
use Rattle.lists.specs.Tables.{choose}
use Rattle.lists.proofs.Tables.{by_test}
use Rattle.wire_rules.specs.Names.{name_of, printable, good_name, GoodName}
use Rattle.wire_rules.proofs.Names.{name_nil, name_stop, name_go, printable_first, by_good}
use Rattle.wire.specs.Measured.{measured, before_zero, character, characters_of}

-- the bytes before the first zero are the name's
pub name_counted : (n : List ℕ) → before_zero n ≡ length (name_of n)
name_counted [] = ap length (sym name_nil)
name_counted (zero ∷ xs) = ap length (sym (name_stop xs))
name_counted (suc x ∷ xs) = simp (name_go x xs, eqb-suc-zero x) (omega (arith, name_counted xs))

-- a byte that a name may have is one that is printable
tested : (x : ℕ) (s : Bool) → choose (ltb x 0x20) false (choose (ltb 0x7E x) false s) ≡ choose (character x) s false
tested x s =
    by_test (λ b. choose b false (choose (ltb 0x7E x) false s) ≡ choose (character x) s false) (ltb x 0x20)
    (λ t. rw (lt-leb 0x20 x (ltb-true _ _ t)))
    (λ t.
    by_test (λ b. choose b false s ≡ choose (character x) s false) (ltb 0x7E x)
    (λ u. rw (le-leb 0x20 x (ltb-false _ _ t), lt-leb x 0x7E (ltb-true _ _ u)))
    (λ u. rw (le-leb 0x20 x (ltb-false _ _ t), le-leb x 0x7E (ltb-false _ _ u))))

module _ (x : ℕ) (xs : List ℕ) where
  -- behind the first byte
  behind : (k : ℕ) → get_or (x ∷ xs) (1 + k) 0 ≡ get_or xs k 0
  behind k = rw (add_comm 1 k, add-one)

-- all characters are printable if nothing but a zero or the end comes after those at the front
stops : (n : List ℕ) → printable (name_of n) ≡ eqb (get_or n (characters_of n) 0) 0
unfolding printable
stops [] = rw name_nil
stops (zero ∷ xs) = rw (name_stop xs)
stops (suc x ∷ xs) =
    rw (name_go x xs, tested (suc x) (printable (name_of xs)))
    (by_test (λ b. choose b (printable (name_of xs)) false ≡ eqb (get_or (suc x ∷ xs) (cond b (1 + characters_of xs) 0) 0) 0) (character (suc x))
    (λ t. rw (behind (suc x) xs (characters_of xs)) (stops xs)) (λ t. sym (eqb-suc-zero x)))

-- then those at the front are all
counted : (n : List ℕ) → printable (name_of n) ≡ true → length (name_of n) ≡ characters_of n
counted [] e = ap length name_nil
counted (zero ∷ xs) e = ap length (name_stop xs)
counted (suc x ∷ xs) e =
    let p = printable_first (suc x) (name_of xs) (rw (name_go x xs) at e) in
    simp (name_go x xs, le-leb 0x20 (suc x) p.0, le-leb (suc x) 0x7E p.1) (omega (arith, counted xs p.2))

module _ (n : List ℕ) (k : ℕ) (e : k ≡ characters_of n) where
  good_by_characters : good_name n ≡ choose (eqb k 0) false (eqb (get_or n k 0) 0)
  unfolding good_name
  good_by_characters =
      rw (e, ← stops n)
      (by_test (λ b. choose (eqb (length (name_of n)) 0) false b ≡ choose (eqb (characters_of n) 0) false b) (printable (name_of n))
      (λ t. rw (counted n t))
      (λ t.
      by_test (λ b. choose b false false ≡ choose (eqb (characters_of n) 0) false false) (eqb (length (name_of n)) 0)
      (λ u. by_test (λ b. false ≡ choose b false false) (eqb (characters_of n) 0) (λ v. refl) (λ v. refl))
      (λ u. by_test (λ b. false ≡ choose b false false) (eqb (characters_of n) 0) (λ v. refl) (λ v. refl))))

  pub ended : 0 < k → get_or n k 0 ≡ 0 → Some k ≡ measured n
  unfolding measured
  ended h z =
      let p : printable (name_of n) ≡ true = rw (stops n, ← e, z) in
      rw (good_by_characters, ne_eqb k 0 (λ q. omega arith), z, counted n p, e)

  pub none_at_front : k ≡ 0 → None ≡ measured n
  unfolding measured
  none_at_front z = rw (good_by_characters, z)

  pub broken : 0 < k → (get_or n k 0 ≡ 0 → ⊥) → None ≡ measured n
  unfolding measured
  broken h z = rw (good_by_characters, ne_eqb k 0 (λ q. omega arith), ne_eqb (get_or n k 0) 0 z)

-- what is measured of a name that keeps the rule are its characters
pub good_measured : (n : List ℕ) → GoodName n → measured n ≡ Some (length (name_of n))
unfolding measured
good_measured n g = rw (by_good n g)

-- a name is good exactly where something is measured
pub measured_good : (n : List ℕ) → is_some (measured n) ≡ good_name n
unfolding measured
measured_good n = by_test (λ b. is_some (choose b (Some (length (name_of n))) None) ≡ b) (good_name n) (λ t. refl) (λ t. refl)

-- what is measured are the name's characters
pub measured_length : (n : List ℕ) (k : ℕ) → Some k ≡ measured n → (good_name n ≡ true) × (k ≡ length (name_of n))
unfolding measured
measured_length n k =
    by_test (λ b. Some k ≡ choose b (Some (length (name_of n))) None → (b ≡ true) × (k ≡ length (name_of n))) (good_name n)
    (λ t e. (refl, cc)) (λ t e. cc)

pub measured_none : (n : List ℕ) → None ≡ measured n → good_name n ≡ false
unfolding measured
measured_none n =
    by_test (λ b. None ≡ choose b (Some (length (name_of n))) None → b ≡ false) (good_name n)
    (λ t e. cc) (λ t e. refl)
