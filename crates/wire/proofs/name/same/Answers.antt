-- The rest of both names decides.
use mathlib.Core.Path.{◌≡◌, sym, ◌∙◌}
use mathlib.Core.List.{List, [], ◌∷◌}
use mathlib.Core.Bool.{false}
use Prim.Native.Nat.{ℕ, suc, ◌+◌, ◌≤◌}
use native.Mathlib.Numerals.{add-one}
use native.Mathlib.Omega.{arith}
use lib.Dec.{eqb}
use lib.ListN.{length, get_or, drop, get_or-eq_default}
use borrow.Author.Tests.{eq-eqb, ne_eqb, eqb-true, eqb-false}
use Rattle.lists.proofs.Tables.{by_test}
use Rattle.wire_rules.specs.Names.{name_of, same_bytes, same_name}
use Rattle.wire_rules.proofs.Names.{name_ends, name_goes}
use Rattle.wire.proofs.name.same.Goals as goal

module _ (m n : List ℕ) (i y : ℕ) (p : same_name m n ≡ same_name (drop i m) (drop i n)) (e : y ≡ get_or n i 0) where
  -- the first name ends here: so must the second
  both_end : get_or m i 0 ≡ 0 → eqb y 0 ≡ same_name m n
  unfolding same_name same_bytes
  both_end z =
      rw (p, e, name_ends m i z)
      (by_test (λ b. b ≡ same_bytes [] (name_of (drop i n))) (eqb (get_or n i 0) 0)
      (λ t. rw (name_ends n i (eqb-true _ _ t))) (λ t. rw (name_goes n i (eqb-false _ _ t))))

  over : length m ≤ i → eqb y 0 ≡ same_name m n
  over h = both_end (get_or-eq_default m 0 h)

  differ : (get_or m i 0 ≡ 0 → ⊥) → (y ≡ get_or m i 0 → ⊥) → false ≡ same_name m n
  unfolding same_name same_bytes
  differ h q =
      rw (p, name_goes m i h)
      (by_test (λ b. false ≡ same_bytes (get_or m i 0 ∷ name_of (drop (suc i) m)) (name_of (drop i n))) (eqb (get_or n i 0) 0)
      (λ t. rw (name_ends n i (eqb-true _ _ t)))
      (λ t. rw (name_goes n i (eqb-false _ _ t), ne_eqb (get_or m i 0) (get_or n i 0) (λ r. q (e ∙ sym r)))))

  next : (get_or m i 0 ≡ 0 → ⊥) → y ≡ get_or m i 0 → same_name m n ≡ same_name (drop (i + 1) m) (drop (i + 1) n)
  unfolding same_name same_bytes
  next h q =
      let r : get_or m i 0 ≡ get_or n i 0 = sym q ∙ e in
      rw (p, add-one, name_goes m i h, name_goes n i (λ z. h (r ∙ z)), eq-eqb (get_or m i 0) (get_or n i 0) r)

pub returns-then-b-eq0 : goal.returns-then-b-eq0
returns-then-b-eq0 c = both_end _ _ _ _ c.loop-i.invariant c.at.ensures c.if-b-eq0.true

pub returns-then-at-b : goal.returns-then-at-b
returns-then-at-b c = differ _ _ _ _ c.loop-i.invariant c.at-in-loop-i.ensures c.if-b-eq0.false c.if-at-b.true

pub loop-i-preserved : goal.loop-i-preserved
loop-i-preserved c = next _ _ _ _ c.loop-i.invariant c.at-in-loop-i.ensures c.if-b-eq0.false c.if-at-b.false

pub returns : goal.returns
returns c =
    let e : c.loop-i.i ≡ length c.args.m.now = omega arith in
    over _ _ _ _ c.loop-i.invariant (rw e c.at-2.ensures) (omega arith)
