-- The library's equality of slices is that of the rules.
use mathlib.Core.Path.{◌≡◌, refl, ◌∙◌}
use mathlib.Core.Bool.{false, ◌&&◌}
use mathlib.Core.List.{List, [], ◌∷◌}
use Prim.Native.Nat.{ℕ}
use native.Mathlib.Omega.{arith}
use lib.Dec.{eqb}
use Rattle.std.specs.Str.{bytes_eq}
use Rattle.lists.specs.Tables.{choose}
use Rattle.lists.proofs.Tables.{by_test}
use Rattle.wire_rules.specs.Names.{same_bytes}
use Rattle.wire.proofs.name.equal.Goals as goal

byte_by_byte : (xs ys : List ℕ) → bytes_eq xs ys ≡ same_bytes xs ys
unfolding same_bytes
byte_by_byte [] [] = refl
byte_by_byte [] (y ∷ ys) = refl
byte_by_byte (x ∷ xs) [] = refl
byte_by_byte (x ∷ xs) (y ∷ ys) =
    rw (byte_by_byte xs ys) (by_test (λ b. (b && same_bytes xs ys) ≡ choose b (same_bytes xs ys) false) (eqb x y) (λ t. refl) (λ t. refl))

pub returns : goal.returns
returns c =
    let e : c.eq.result ≡ same_bytes c.args.m.now c.args.n.now = c.eq.ensures ∙ byte_by_byte c.args.m.now c.args.n.now in
    grind arith
