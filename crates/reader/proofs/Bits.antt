-- Bytes 4 and 7 that hold a rate and a type alone.
use mathlib.Core.Path.{◌≡◌, sym, ◌∙◌}
use mathlib.Core.Bool.{Bool, true}
use Prim.Native.Nat.{ℕ, ◌≤◌}
use native.Mathlib.Omega.{arith}
use borrow.Author.Tests.{le-ltb}
use Rattle.std.specs.Prelude.{Ok}
use Rattle.lists.specs.Tables.{checked}
use Rattle.formats.specs.Formats.{may_read}
use Rattle.formats.proofs.Types.{read_by, read_bits}
use Rattle.wire_rules.specs.Header.{rate_bits, sub_bits, format_bits, reserved_bit, codec_bits, bit_rows}

-- where no other bit is set, a rate and a type pass every row
pub plain : (four seven : ℕ) (r : Bool) → four ≤ 20 → r ≡ may_read seven → r ≡ true → Ok tt ≡ checked (bit_rows four seven)
plain four seven r h e t =
    let m : may_read seven ≡ true = sym e ∙ t in
    let l = read_bits seven (read_by seven m) in
    let f : format_bits seven ≡ seven = omega arith in
    let sub : sub_bits four ≡ 0 = omega arith in
    let codec : codec_bits seven ≡ 0 = omega arith in
    let reserved : reserved_bit seven ≡ 0 = omega arith in
    rw (sub, codec, reserved, le-ltb 20 (rate_bits four) (omega arith), f, m)
