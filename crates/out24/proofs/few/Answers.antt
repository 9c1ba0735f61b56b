-- Four stores a turn, and what is left.
use mathlib.Core.Path.{◌≡◌, refl}
use Prim.Native.Nat.{◌+◌, ◌*◌, ◌≤◌}
use native.Mathlib.Omega.{arith}
use lib.ListN.{length}
use Rattle.records.proofs.Taking.{none}
use Rattle.out24.proofs.Overlaid.{start, ahead, four, rest}
use Rattle.out24.proofs.few.Goals as goal

pub returns-then-frames-eq0 : goal.returns-then-frames-eq0
returns-then-frames-eq0 c = none _ _ _ _ _ _ _ c.if-frames-eq0.true

pub loop-k-init : goal.loop-k-init
loop-k-init c = start c.args.track.now (λ i. (c.type_inv.track i).fits) _ _ _ _ _ _ c.if-frames-eq0.false

pub store-requires : goal.store-requires
store-requires c =
    let room : c.args.at + c.loop-k.k * 4 * (c.args.channels * 3) + 5 * (c.args.channels * 3) ≤ length c.args.out.now
    = ahead _ _ _ _ _ c.loop-k-test.true c.requires.2.2 in
    (c.requires.0, c.requires.1, omega arith, omega (arith, room))

pub store-requires-in-loop-k : goal.store-requires-in-loop-k
store-requires-in-loop-k c =
    let room : c.args.at + c.loop-k.k * 4 * (c.args.channels * 3) + 5 * (c.args.channels * 3) ≤ length c.args.out.now
    = ahead _ _ _ _ _ c.loop-k-test.true c.requires.2.2 in
    (c.requires.0, c.requires.1, omega arith, omega (arith, room))

pub store-requires-in-loop-k-2 : goal.store-requires-in-loop-k-2
store-requires-in-loop-k-2 c =
    let room : c.args.at + c.loop-k.k * 4 * (c.args.channels * 3) + 5 * (c.args.channels * 3) ≤ length c.args.out.now
    = ahead _ _ _ _ _ c.loop-k-test.true c.requires.2.2 in
    (c.requires.0, c.requires.1, omega arith, omega (arith, room))

pub store-requires-in-loop-k-3 : goal.store-requires-in-loop-k-3
store-requires-in-loop-k-3 c =
    let room : c.args.at + c.loop-k.k * 4 * (c.args.channels * 3) + 5 * (c.args.channels * 3) ≤ length c.args.out.now
    = ahead _ _ _ _ _ c.loop-k-test.true c.requires.2.2 in
    (c.requires.0, c.requires.1, omega arith, omega (arith, room))

pub loop-k-preserved : goal.loop-k-preserved
loop-k-preserved c =
    let a = c.args in
    let e : (c.loop-k.k + 1) * 4 ≡ c.loop-k.k * 4 + 4 = omega arith in
    rw e (four a.track.now (λ i. (c.type_inv.track i).fits) _ _ _ _ _ _ _ _ c.loop-k.invariant c.requires.2.2 (omega arith) c.requires.2.1
    (a.channels * 4) (omega arith) (omega arith) (omega arith) _ _ refl refl _ _ _ _
    c.store.ensures c.store-in-loop-k.ensures c.store-in-loop-k-2.ensures c.store-in-loop-k-3.ensures)

pub returns : goal.returns
returns c =
    rest c.args.track.now (λ i. (c.type_inv.track i).fits) _ _ _ _ _ _ _ _ _ _ _ c.loop-k.invariant (omega arith) (omega arith) refl c.some.ensures
