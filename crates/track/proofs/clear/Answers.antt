-- A byte a turn.
use mathlib.Core.Path.{◌≡◌, refl, ◌∙◌}
use mathlib.Core.List.{List, ◌++◌}
use Prim.Native.Nat.{ℕ, ◌+◌, ◌*◌, ◌/◌, ◌≤◌, ◌<◌}
use native.Mathlib.Nat.{le_antisymm}
use native.Mathlib.Omega.{arith}
use lib.ListN.{length, drop, set, replicate, length-set, length-replicate}
use borrow.Author.Rules.{rules}
use borrow.Author.Fill.{fill_more}
use Rattle.lists.specs.Lists.{put}
use Rattle.track_rules.specs.Records.{cleared_of}
use Rattle.track.proofs.clear.Goals as goal

more : (t track : List ℕ) (i : ℕ) → track ≡ replicate i 0 ++ drop i t → i < length t → set track i 0 ≡ replicate (i + 1) 0 ++ drop (i + 1) t
more t track i p h = rw p (fill_more i 0 t h)

end : (t track : List ℕ) (i : ℕ) → track ≡ replicate i 0 ++ drop i t → i ≤ length t / 24 * 24 → length t / 24 * 24 ≤ i → track ≡ cleared_of t
unfolding cleared_of put
end t track i p a b = p ∙ rw (le_antisymm a b, length-replicate)

pub loop-i-init : goal.loop-i-init
loop-i-init c = (search rules, refl, refl)

pub loop-i-preserved : goal.loop-i-preserved
loop-i-preserved c = (search rules, simp length-set (search rules), more _ _ _ c.loop-i.invariant.2 (omega arith))

pub returns : goal.returns
returns c = search end
