-- Each field lies above the one before.
use Prim.Native.Nat.{◌+◌, ◌*◌}
use native.Mathlib.Omega.{arith}
use Rattle.wire.proofs.Shifting.{joined}
use Rattle.wire.proofs.bits.join_seven.Goals as goal

pub returns : goal.returns
returns c =
    let a = c.args in
    rw (
      joined 256 3 a.reserved a.format (omega arith) (omega arith),
      joined 256 4 a.codec (a.format + a.reserved * 8) (omega arith) (omega arith),
    )
