-- By the product.
use Rattle.std.proofs.Common.{◌≡◌, ℕ, ◌*◌, ◌/◌, ◌<◌, ◌≤◌, min, ltb, div-lt_iff_lt-mul, mul-le-mul, le-div_iff_mul-le, arith}
use Rattle.lists.proofs.Tables.{less_alike}
use Rattle.formats.specs.Formats.{size_at}
use Rattle.wire_rules.specs.Header.{data_most}
use Rattle.cutter_rules.specs.Largest.{largest_frames}
use Rattle.cutter.proofs.largest.is_over.Goals as goal

over_bytes : (format channels r : ℕ) → r ≡ channels * size_at format → (n : ℕ) → (n ≤ 256) × (1 ≤ channels * size_at format)
    → ltb data_most (n * r) ≡ ltb (largest_frames format channels) n
over_bytes format channels r e n l =
    let some : 0 < r = omega (arith, l.1) in
    rw (← e)
    (less_alike data_most (n * r) (min 256 (data_most / r)) n (λ h. (div-lt_iff_lt-mul {k = r} {x = data_most} {y = n} some).0 (omega arith))
    (λ h. (le-div_iff_mul-le {k = r} {x = n} {y = data_most} some).0 (omega (arith, l.0))))

pub overflow_mul-result : goal.overflow_mul-result
overflow_mul-result c =
    let product : c.from.result * c.frame_bytes-bytes.result ≤ 256 * 262140 = mul-le-mul {n₂ = 256} {m₂ = 262140} (omega (arith, c.from.ensures, c.requires.0)) c.frame_bytes-bytes.ensures.1 in
    omega (arith, product)

pub returns : goal.returns
returns c = rw c.from.ensures (search over_bytes)
