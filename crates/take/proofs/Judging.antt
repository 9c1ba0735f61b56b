-- The tables of following, part by part as the code goes through them.
use Rattle.std.proofs.Common.{◌≡◌, Bool, true, false, not, ◌&&◌, ℕ, List, [], ◌∷◌, ◌++◌, sym, refl, ap, ◌∙◌}
use Rattle.std.specs.Prelude.{Result, Ok, Err}
use borrow.Author.Tests.{not-false}
use Rattle.lists.specs.Tables.{Row, row, any, unlike, checked}
use Rattle.lists.proofs.Tables.{by_test, true_false}
use Rattle.lists.proofs.Checked.{not_ok, goes}
use Rattle.answers.specs.declared.Answer.{Answer}
use Rattle.answers.specs.declared.Answer.TheVariants.{Name, OtherStream}
use Rattle.wire_rules.specs.declared.Header.{Header}
use Rattle.wire_rules.specs.Names.{good_name, same_bytes, same_name}
use Rattle.wire_rules.specs.Header.{name_field, header_of}
use Rattle.wire_rules.specs.Read.{lead_rows, name_rows}
use Rattle.wire_rules.proofs.Names.{same_bytes_is, same_exactly}
use Rattle.reader.specs.Unnamed.{unnamed}
use Rattle.take_rules.specs.declared.Take.{Take}
use Rattle.take_rules.specs.Take.{bad_shape, bad_line, bad_state}
use Rattle.take_rules.specs.Follow.{other_stream, stream_rows}
use Rattle.take.specs.Judging.{named_rows, judged_for, judged_by}

-- ---- the take's state

-- a take whose state is good has a good name
pub good_name_is : (t : Take) (address : ℕ) (d : List ℕ) (bad : Bool) (e : bad ≡ bad_state t) (good : bad ≡ false) → good_name t.who.name ≡ true
good_name_is t address d bad e good =
    by_test (λ b. any (not b ∷ (t.begun && any (bad_shape t.shape ∷ bad_line t.line ∷ [])) ∷ []) ≡ false → b ≡ true) (good_name t.who.name)
    (λ q z. refl) (λ q z. absurd (true_false z)) (sym e ∙ good)

-- a take that has begun with a bad shape has a bad state
pub bad_shape_is : (t : Take) (name : List ℕ) (p : name ≡ t.who.name) (good : Bool) (e : good ≡ good_name name) (g : not good ≡ false)
    (b : not t.begun ≡ false) (s : Bool) (q : s ≡ bad_shape t.shape) → s ≡ true → true ≡ bad_state t
bad_shape_is t name p good e g b s q y =
    let ours : good ≡ good_name t.who.name = e ∙ rw p in
    rw (sym ours ∙ not-false good g, not-false t.begun b, sym q ∙ y)

-- ---- row 4 and the name's part of row 5

pub very_bytes : (name field : List ℕ) → good_name name ≡ true → (same : Bool) → same ≡ same_bytes name field → same ≡ true
    → Ok tt ≡ checked (named_rows name field)
very_bytes name field g same e h =
    let q : name ≡ field = same_bytes_is name field (sym e ∙ h) in
    rw (← q, g, (same_exactly name name).1 refl)

-- where a name refuses, so it does beside an address
beside : (g s u : Bool) (a : Answer) → Err a ≡ checked (row Name g ∷ row OtherStream s ∷ [])
    → Err a ≡ checked (row Name g ∷ row OtherStream (any (s ∷ u ∷ [])) ∷ [])
beside true s u a e = e
beside false true u a e = e
beside false false u a e = absurd (not_ok a e)

pub name_refused : (t : Take) (address : ℕ) (d name : List ℕ) (a : Answer) (bad : Bool) → name ≡ t.who.name → bad ≡ bad_state t → bad ≡ false
    → Ok tt ≡ checked (lead_rows d) → Err a ≡ checked (named_rows name (name_field d)) → Err a ≡ checked (stream_rows t address d)
name_refused t address d name a bad k b good lead e =
    let refused = beside (not (good_name (name_field d))) (not (same_name t.who.name (name_field d))) (unlike address t.who.address) a (rw k at e) in
    rw (sym b ∙ good) (goes (lead_rows d) (name_rows d ++ (row OtherStream (other_stream t.who address d) ∷ [])) (Err a) lead refused)

-- ---- what a table says, and the header's numbers

module _ (rows : List (Row Answer)) (d : List ℕ) where
  pub judged_err : (a : Answer) → Err a ≡ checked rows → Err a ≡ judged_by rows d
  unfolding judged_by
  judged_err a e = ap (λ (r : Result (Unit {0}) Answer). judged_for r d) e

  pub judged_ok : (h : Header) → h ≡ unnamed (header_of d) → Ok tt ≡ checked rows → Ok h ≡ judged_by rows d
  unfolding judged_by
  judged_ok h x e = rw x (ap (λ (r : Result (Unit {0}) Answer). judged_for r d) e)

  -- one half after the other
  pub judged_rest : (rest : List (Row Answer)) (j : Result Header Answer) → Ok tt ≡ checked rows → j ≡ judged_by rest d → j ≡ judged_by (rows ++ rest) d
  unfolding judged_by
  judged_rest rest j e p = p ∙ ap (λ (r : Result (Unit {0}) Answer). judged_for r d) (goes rows rest (checked rest) e refl)

  -- and what a judgement says of the table
  pub err_rows : (a : Answer) → Err a ≡ judged_by rows d → Err a ≡ checked rows
  unfolding judged_by
  err_rows a = by (checked rows)
    where
      by : (r : Result (Unit {0}) Answer) → Err a ≡ judged_for r d → Err a ≡ r
      by (Ok u) e = absurd (cc)
      by (Err b) e = cc

  pub ok_rows : (h : Header) → Ok h ≡ judged_by rows d → (Ok tt ≡ checked rows) × (h ≡ unnamed (header_of d))
  unfolding judged_by
  ok_rows h = by (checked rows)
    where
      by : (r : Result (Unit {0}) Answer) → Ok h ≡ judged_for r d → (Ok tt ≡ r) × (h ≡ unnamed (header_of d))
      by (Ok u) e = (refl, cc)
      by (Err b) e = absurd (cc)
