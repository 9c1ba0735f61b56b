-- The tally: one call raises one count and no other, and over every history each count is the lesser of its top and the calls so answered.
use mathlib.Core.Path.{◌≡◌, refl, sym, ap, ◌∙◌}
use mathlib.Core.List.{List, [], ◌∷◌}
use Prim.Native.Nat.{ℕ, zero, suc, ◌+◌, ◌≤◌, ◌<◌, min, zero-le}
use native.Mathlib.Omega.{arith}
use native.Mathlib.Nat.{not-suc-le-zero, le_of_suc-le-suc}
use lib.Dec.{eqb, ltb}
use lib.ListN.{length, get_or, set, length-set, get_or-replicate}
use lib.Seq.{get_or-set_same, get_or-set_other}
use borrow.Author.Tests.{eqb-true, eqb-false, eq-eqb, ltb-true, ltb-false, lt-ltb}
use Rattle.lists.specs.Tables.{choose}
use Rattle.lists.proofs.Tables.{by_test}
use Rattle.answers.specs.declared.Answer.{Answer}
use Rattle.answers.specs.Numbers.{number_of, counts_kept, count_of}
use Rattle.answers.proofs.Numbers.{number_told, count_told, count_below}
use Rattle.take_rules.specs.declared.Tally.{Tally}
use Rattle.take_rules.specs.Follow.{followed_of}
use Rattle.take_rules.specs.Tally.{cleared, one_more, raised_of, tallied_of}
use Rattle.take_rules.specs.Box.{Box, Event, tells_of, follows, after as box_after}
use Rattle.take_rules.specs.History.{Call, answer_to, tally_after, answered_so, sum, Few, answers_after, told_so}

-- where an answer's count stands
abbrev count_at : Answer → ℕ
count_at a = count_of (number_of a)

-- ---- one call

module _ (t : Tally) (a : Answer) (l : length t.counts ≡ counts_kept) where
  pub raised_length : length (raised_of t a).counts ≡ counts_kept
  raised_length = rw length-set l

  -- one count is raised
  pub raised_one : get_or (raised_of t a).counts (count_at a) 0 ≡ one_more (get_or t.counts (count_at a) 0)
  raised_one = get_or-set_same t.counts (count_at a) (one_more (get_or t.counts (count_at a) 0)) 0 (omega (arith, count_below a))

  -- and no other
  pub raised_no_other : (b : Answer) → (b ≡ a → ⊥) → get_or (raised_of t a).counts (count_at b) 0 ≡ get_or t.counts (count_at b) 0
  raised_no_other b z =
      get_or-set_other t.counts (count_at a) (count_at b) (one_more (get_or t.counts (count_at a) 0)) 0 (λ e. z (count_told b a e))

-- ---- a history

abbrev top : ℕ
top = 4294967295

one_more_top : (n k : ℕ) → n ≤ top → min top (one_more n + k) ≡ min top (n + suc k)
one_more_top n k h =
    by_test (λ b. ltb n top ≡ b → min top (choose b (n + 1) n + k) ≡ min top (n + suc k)) (ltb n top)
    (λ e p. omega arith) (λ e p. let l : top ≤ n = ltb-false n top p in omega arith) refl

one_more_le : (n : ℕ) → n ≤ top → one_more n ≤ top
one_more_le n h =
    by_test (λ b. ltb n top ≡ b → choose b (n + 1) n ≤ top) (ltb n top) (λ e p. let l : n < top = ltb-true n top p in omega arith) (λ e p. h) refl

tally_is : (c : Call) (t : Tally) → (tallied_of c.take t c.address c.datagram c.track).tally ≡ raised_of t (answer_to c)
unfolding tallied_of followed_of
tally_is c t = refl

module _ (a : Answer) where
  raised_le : (t : Tally) (b : Answer) → length t.counts ≡ counts_kept → get_or t.counts (count_at a) 0 ≤ top
      → get_or (raised_of t b).counts (count_at a) 0 ≤ top
  raised_le t b l h =
      by_test (λ x. eqb (count_at b) (count_at a) ≡ x → get_or (raised_of t b).counts (count_at a) 0 ≤ top) (eqb (count_at b) (count_at a))
      (λ e p. rw (count_told b a (eqb-true _ _ p), raised_one t a l) (one_more_le _ h))
      (λ e p. rw (raised_no_other t b l a (λ q. eqb-false _ _ p (ap count_at (sym q)))) h)
      refl

  -- from any tally whose counts are counts
  after : (calls : List Call) (t : Tally) → length t.counts ≡ counts_kept → get_or t.counts (count_at a) 0 ≤ top
      → get_or (tally_after t calls).counts (count_at a) 0 ≡ min top (get_or t.counts (count_at a) 0 + answered_so (number_of a) calls)
  after [] t l h = omega arith
  after (c ∷ calls) t l h =
      ap (λ (x : Tally). get_or (tally_after x calls).counts (count_at a) 0) (tally_is c t)
      ∙ after calls (raised_of t (answer_to c)) (raised_length t (answer_to c) l) (raised_le t (answer_to c) l h)
      ∙ by_test
      (λ b. eqb (number_of (answer_to c)) (number_of a) ≡ b
      → min top (get_or (raised_of t (answer_to c)).counts (count_at a) 0 + answered_so (number_of a) calls)
      ≡ min top (get_or t.counts (count_at a) 0 + choose b (suc (answered_so (number_of a) calls)) (answered_so (number_of a) calls)))
      (eqb (number_of (answer_to c)) (number_of a))
      (λ e p. let q : answer_to c ≡ a = number_told _ _ (eqb-true _ _ p) in
      rw (q, raised_one t a l) (one_more_top (get_or t.counts (count_at a) 0) (answered_so (number_of a) calls) h))
      (λ e p. rw (raised_no_other t (answer_to c) l a (λ q. eqb-false _ _ p (ap number_of (sym q)))))
      refl

  -- THE TALLY: from a cleared one, each count is the lesser of its top and the number of calls so answered
  pub tally_counts : (calls : List Call) → get_or (tally_after cleared calls).counts (count_at a) 0 ≡ min top (answered_so (number_of a) calls)
  tally_counts calls =
      let z : get_or cleared.counts (count_at a) 0 ≡ 0 = get_or-replicate counts_kept (count_at a) 0 0 (count_below a) in
      after calls cleared refl (omega arith) ∙ ap (λ (n : ℕ). min top (n + answered_so (number_of a) calls)) z ∙ omega arith

  -- document 01's sentence: below the top, the count is that number
  pub tally_below : (calls : List Call) → answered_so (number_of a) calls ≤ top
      → get_or (tally_after cleared calls).counts (count_at a) 0 ≡ answered_so (number_of a) calls
  tally_below calls h = tally_counts calls ∙ omega arith

-- ---- the counts add up to the calls made

sum_set : (l : List ℕ) (i v : ℕ) → i < length l → sum (set l i v) + get_or l i 0 ≡ sum l + v
sum_set [] i v h = absurd (not-suc-le-zero h)
sum_set (x ∷ l) zero v h = omega arith
sum_set (x ∷ l) (suc i) v h = omega (arith, sum_set l i v (le_of_suc-le-suc h))

in_sum : (l : List ℕ) (i : ℕ) → get_or l i 0 ≤ sum l
in_sum [] i = omega arith
in_sum (x ∷ l) zero = omega arith
in_sum (x ∷ l) (suc i) = omega (arith, in_sum l i)

raised_sum : (t : Tally) (a : Answer) → length t.counts ≡ counts_kept → sum t.counts < top → sum (raised_of t a).counts ≡ suc (sum t.counts)
raised_sum t a l h =
    let n = get_or t.counts (count_at a) 0 in
    let m : n < top = omega (arith, in_sum t.counts (count_at a)) in
    let e : one_more n ≡ n + 1 = rw (lt-ltb n top m) in
    omega (arith, e, sum_set t.counts (count_at a) (one_more n) (omega (arith, count_below a)))

sums : (calls : List Call) (t : Tally) → length t.counts ≡ counts_kept → sum t.counts + length calls ≤ top
    → sum (tally_after t calls).counts ≡ sum t.counts + length calls
sums [] t l h = omega arith
sums (c ∷ calls) t l h =
    let s = raised_sum t (answer_to c) l (omega arith) in
    ap (λ (x : Tally). sum (tally_after x calls).counts) (tally_is c t)
    ∙ sums calls (raised_of t (answer_to c)) (raised_length t (answer_to c) l) (omega arith)
    ∙ omega arith

pub tally_sum : (calls : List Call) → length calls ≤ top → sum (tally_after cleared calls).counts ≡ length calls
tally_sum calls h = sums calls cleared refl (omega arith) ∙ omega arith

-- ---- so they do in every history in which no answer came more often than its count can tell

raised_sum_below : (t : Tally) (a : Answer) → length t.counts ≡ counts_kept → get_or t.counts (count_at a) 0 < top
    → sum (raised_of t a).counts ≡ suc (sum t.counts)
raised_sum_below t a l m =
    let n = get_or t.counts (count_at a) 0 in
    let e : one_more n ≡ n + 1 = rw (lt-ltb n top m) in
    omega (arith, e, sum_set t.counts (count_at a) (one_more n) (omega (arith, count_below a)))

-- a call's own answer is one of those so answered
own_call : (c : Call) (calls : List Call) → suc (answered_so (number_of (answer_to c)) calls) ≡ answered_so (number_of (answer_to c)) (c ∷ calls)
own_call c calls = rw (eq-eqb (number_of (answer_to c)) (number_of (answer_to c)) refl)

-- raised once, with the answers still to come, a count tells no more than it did with that one still to come
raised_with : (c : Call) (calls : List Call) (t : Tally) → length t.counts ≡ counts_kept → (a : Answer)
    → get_or (raised_of t (answer_to c)).counts (count_at a) 0 + answered_so (number_of a) calls
    ≤ get_or t.counts (count_at a) 0 + answered_so (number_of a) (c ∷ calls)
raised_with c calls t l a =
    let b = answer_to c in
    by_test
    (λ y. eqb (number_of b) (number_of a) ≡ y
    → get_or (raised_of t b).counts (count_at a) 0 + answered_so (number_of a) calls
    ≤ get_or t.counts (count_at a) 0 + choose y (suc (answered_so (number_of a) calls)) (answered_so (number_of a) calls))
    (eqb (number_of b) (number_of a))
    (λ e p. rw (number_told b a (eqb-true _ _ p), raised_one t a l) (omega (arith, one_more_most (get_or t.counts (count_at a) 0))))
    (λ e p. rw (raised_no_other t b l a (λ q. eqb-false _ _ p (ap number_of (sym q)))) (omega arith))
    refl
  where
    one_more_most : (n : ℕ) → one_more n ≤ suc n
    one_more_most n = by_test (λ y. choose y (n + 1) n ≤ suc n) (ltb n top) (λ e. omega arith) (λ e. omega arith)

sums_few : (calls : List Call) (t : Tally) → length t.counts ≡ counts_kept
    → ((a : Answer) → get_or t.counts (count_at a) 0 + answered_so (number_of a) calls ≤ top)
    → sum (tally_after t calls).counts ≡ sum t.counts + length calls
sums_few [] t l few = omega arith
sums_few (c ∷ calls) t l few =
    let a = answer_to c in
    let s = raised_sum_below t a l (omega (arith, few a, own_call c calls)) in
    ap (λ (x : Tally). sum (tally_after x calls).counts) (tally_is c t)
    ∙ sums_few calls (raised_of t a) (raised_length t a l) (λ b. omega (arith, raised_with c calls t l b, few b))
    ∙ omega arith

module _ (calls : List Call) where
  pub tally_sum_few : Few (λ n. answered_so n calls) → sum (tally_after cleared calls).counts ≡ length calls
  tally_sum_few few =
      let z : (a : Answer) → get_or cleared.counts (count_at a) 0 ≡ 0 = λ a. get_or-replicate counts_kept (count_at a) 0 0 (count_below a) in
      sums_few calls cleared refl (λ a. omega (arith, z a, few a)) ∙ omega arith

  -- that is so where every count is below the top
  pub tally_few : ((a : Answer) → get_or (tally_after cleared calls).counts (count_at a) 0 < top) → Few (λ n. answered_so n calls)
  tally_few below a = omega (arith, below a, tally_counts a calls)

-- ---- one box, from a cleared tally

-- a tally raised by each answer of a history, the latest first
abbrev raised_by : Tally → List Answer → Tally
raised_by t [] = t
raised_by t (a ∷ past) = raised_of (raised_by t past) a

raised_by_length : (past : List Answer) → length (raised_by cleared past).counts ≡ counts_kept
raised_by_length [] = refl
raised_by_length (a ∷ past) = raised_length (raised_by cleared past) a (raised_by_length past)

-- one more of a count that has come so far
one_more_min : (n : ℕ) → one_more (min top n) ≡ min top (suc n)
one_more_min n =
    by_test (λ b. ltb (min top n) top ≡ b → choose b (min top n + 1) (min top n) ≡ min top (suc n)) (ltb (min top n) top)
    (λ e p. let l : min top n < top = ltb-true (min top n) top p in omega arith)
    (λ e p. let l : top ≤ min top n = ltb-false (min top n) top p in omega arith)
    refl

-- each count is the lesser of its top and the number of answers that raise it
counts : (a : Answer) (past : List Answer) → get_or (raised_by cleared past).counts (count_at a) 0 ≡ min top (told_so (number_of a) past)
counts a [] = get_or-replicate counts_kept (count_at a) 0 0 (count_below a) ∙ omega arith
counts a (b ∷ past) =
    let before = raised_by cleared past in
    let l = raised_by_length past in
    by_test
    (λ t. eqb (number_of b) (number_of a) ≡ t
    → get_or (raised_of before b).counts (count_at a) 0 ≡ min top (choose t (suc (told_so (number_of a) past)) (told_so (number_of a) past)))
    (eqb (number_of b) (number_of a))
    (λ e p. rw (number_told b a (eqb-true _ _ p), raised_one before a l, counts a past) (one_more_min (told_so (number_of a) past)))
    (λ e p. raised_no_other before b l a (λ q. eqb-false _ _ p (ap number_of (sym q))) ∙ counts a past)
    refl

-- a history that is not longer than a count can tell has no answer more often
told_le : (n : ℕ) (past : List Answer) → told_so n past ≤ length past
told_le n [] = zero-le
told_le n (a ∷ past) =
    by_test (λ t. choose t (suc (told_so n past)) (told_so n past) ≤ suc (length past)) (eqb (number_of a) n)
    (λ e. omega (arith, told_le n past)) (λ e. omega (arith, told_le n past))

pub short_few : (past : List Answer) → length past ≤ top → Few (λ n. told_so n past)
short_few past h a = omega (arith, told_le (number_of a) past)

raised_sums : (past : List Answer) → Few (λ n. told_so n past) → sum (raised_by cleared past).counts ≡ length past
raised_sums [] few = refl
raised_sums (b ∷ past) few =
    raised_sum_below (raised_by cleared past) b (raised_by_length past) (omega (arith, own, counts b past))
    ∙ ap suc (raised_sums past (λ a. omega (arith, no_fewer a, few a)))
  where
    no_fewer : (a : Answer) → told_so (number_of a) past ≤ told_so (number_of a) (b ∷ past)
    no_fewer a =
        by_test (λ t. told_so (number_of a) past ≤ choose t (suc (told_so (number_of a) past)) (told_so (number_of a) past)) (eqb (number_of b) (number_of a))
        (λ e. omega arith) (λ e. omega arith)

    own : suc (told_so (number_of b) past) ≤ top
    own = rw (eq-eqb (number_of b) (number_of b) refl) at (few b)

-- an event raises the count of what is told of it
box_step : (b : Box) (e : Event) → (follows b e).tally ≡ raised_of b.tally (tells_of b e).answer
unfolding tallied_of
box_step b e = refl

box_is : (b : Box) → b.tally ≡ cleared → (past : List Event) → (box_after b past).tally ≡ raised_by cleared (answers_after b past)
box_is b z [] = z
box_is b z (e ∷ past) =
    box_step (box_after b past) e ∙ ap (λ (t : Tally). raised_of t (tells_of (box_after b past) e).answer) (box_is b z past)

module _ (b : Box) (z : b.tally ≡ cleared) (past : List Event) where
  pub box_counts : (a : Answer) → get_or (box_after b past).tally.counts (count_at a) 0 ≡ min top (told_so (number_of a) (answers_after b past))
  box_counts a = rw (box_is b z past) (counts a (answers_after b past))

  pub box_sum : Few (λ n. told_so n (answers_after b past)) → sum (box_after b past).tally.counts ≡ length past
  box_sum few = rw (box_is b z past) (raised_sums (answers_after b past) few) ∙ as_many past
    where
      as_many : (es : List Event) → length (answers_after b es) ≡ length es
      as_many [] = refl
      as_many (e ∷ es) = ap suc (as_many es)
