-- A table as a result that has something to give, by the laws of the table's own result.
use Rattle.std.proofs.Common.{◌≡◌, refl, eqb, ne_eqb, List, [], ◌∷◌, ◌++◌, Bool, true, false, Ok, Err}
use lib.Dec.{T}
use Rattle.lists.specs.Tables.{Row, choose, first, checked, NoneRefuses}
use Rattle.lists.proofs.Tables.{none_says, numbered}
use Rattle.lists.proofs.Checked.{first_ok, first_err, says_other, none_refuses}
use Rattle.answers.specs.declared.Made.{Made}
use Rattle.answers.specs.declared.Made.TheVariants.{Done}
use Rattle.answers.specs.Numbers.{number_made}
use Rattle.answers.proofs.Numbers.{made_told}
use Rattle.writer.specs.Checks.{passing}

module _ {A B : Type 0} (b : B) where
  passes : (rows : List (Row A)) (r : B) → Ok r ≡ passing b rows → (Ok tt ≡ checked rows) × (r ≡ b)
  passes [] r e = (refl, cc)
  passes (x ∷ rows) r e = step x.refuses e (passes rows r)
    where
      step : (t : Bool) → Ok r ≡ choose t (Err x.says) (passing b rows) → (Ok r ≡ passing b rows → (Ok tt ≡ checked rows) × (r ≡ b))
          → (Ok tt ≡ choose t (Err x.says) (checked rows)) × (r ≡ b)
      step true p h = absurd cc
      step false p h = h p

  refuses : (rows : List (Row A)) (a : A) → Err a ≡ passing b rows → Err a ≡ checked rows
  refuses [] a e = absurd cc
  refuses (x ∷ rows) a e = step x.refuses e (refuses rows a)
    where
      step : (t : Bool) → Err a ≡ choose t (Err x.says) (passing b rows) → (Err a ≡ passing b rows → Err a ≡ checked rows)
          → Err a ≡ choose t (Err x.says) (checked rows)
      step true p h = cc
      step false p h = h p

  -- where the first part of a table refuses, so does the table
  pub stops_passing : (xs ys : List (Row A)) (a : A) → Err a ≡ passing b xs → Err a ≡ passing b (xs ++ ys)
  stops_passing [] ys a e = absurd cc
  stops_passing (x ∷ xs) ys a e = step x.refuses e (stops_passing xs ys a)
    where
      step : (t : Bool) → Err a ≡ choose t (Err x.says) (passing b xs) → (Err a ≡ passing b xs → Err a ≡ passing b (xs ++ ys))
          → Err a ≡ choose t (Err x.says) (passing b (xs ++ ys))
      step true p h = p
      step false p h = h p

module _ {B : Type 0} (b : B) (rows : List (Row Made)) where
  -- what passes is done, with what there is to give
  pub passes_done : (r : B) → Ok r ≡ passing b rows → (first Done rows ≡ Done) × (r ≡ b)
  passes_done r e = let p = passes b rows r e in (first_ok Done rows p.0, p.1)

  -- no row refuses then
  pub passes_rows : (r : B) → Ok r ≡ passing b rows → NoneRefuses rows
  passes_rows r e = none_refuses rows (passes b rows r e).0

  -- a refusal is what the table says, and has another number than 0
  pub refuses_made : (a : Made) → T (numbered Done number_made rows) → Err a ≡ passing b rows
      → (first Done rows ≡ a) × (eqb (number_made a) 0 ≡ false)
  refuses_made a t e =
      let p = refuses b rows a e in
      (first_err Done rows a p, ne_eqb (number_made a) 0 (λ q. says_other Done a rows (none_says Done number_made rows t) p (made_told a Done q)))
