-- Four bytes read, of which three are the slot.
use mathlib.Core.Path.{◌≡◌}
use mathlib.Core.List.{List}
use Prim.Native.Nat.{ℕ, ◌+◌, ◌*◌, ◌/◌, ◌%◌, ◌≤◌, ◌<◌}
use native.Mathlib.Omega.{arith}
use Rattle.lists.specs.Lists.{byte}
use Rattle.lists.specs.Little.{little}
use Rattle.lists.proofs.Little.{little_below, little_joined}
use Rattle.records.proofs.slot.Goals as goal

module _ (t : List ℕ) (below : (i : ℕ) → byte t i < 256) (at c r : ℕ) where
  first : r ≡ little 4 t (at + c * 3) → (r % 16777216 ≡ little 3 t (at + c * 3)) × (r % 16777216 < 16777216)
  first e = (omega (arith, little_joined 3 1 t (at + c * 3), little_below 3 t (at + c * 3) below), omega arith)

  -- the last slot starts a byte after what is read
  last : 7 ≤ c → c < 8 → r ≡ little 4 t (at + 20) → (r / 256 ≡ little 3 t (at + c * 3)) × (r / 256 < 16777216)
  last h l e =
      let i : at + c * 3 ≡ at + 20 + 1 = omega arith in
      let j = little_joined 1 3 t (at + 20) in
      let b = little_below 1 t (at + 20) below in
      let s = little_below 3 t (at + 20 + 1) below in
      (rw i (omega arith), omega arith)

pub returns-then-c-lt7 : goal.returns-then-c-lt7
returns-then-c-lt7 c =
    let o = c in
    search (first o.args.t.now (λ i. (o.type_inv.t i).fits))

pub returns : goal.returns
returns c =
    let o = c in
    let a = o.args in
    last a.t.now (λ i. (o.type_inv.t i).fits) a.at a.c _ (omega arith) (omega arith) c.get-2.ensures.0
