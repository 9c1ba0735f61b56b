-- The bits as a number, the number rescaled, and its bits.
use native.Mathlib.Omega.{arith}
use Rattle.sample_rules.specs.Bits.{signed_of}
use Rattle.sample_rules.proofs.Bits.{signed_mag}
use Rattle.samples.proofs.Moves.{room, room_bits, bits_there}
use Rattle.samples.proofs.slots.moved.Goals as goal

pub rescale-requires : goal.rescale-requires
rescale-requires c =
    let h = c.requires in
    let a = c.args in
    room a.w a.v (signed_of a.w a.u) (h.0, h.1) (h.2, h.3) (signed_mag a.w (omega arith) a.u h.4) _ c.signed.type_inv c.signed.ensures

pub bits-requires : goal.bits-requires
bits-requires c =
    let h = c.requires in
    let a = c.args in
    room_bits a.w a.v (signed_of a.w a.u) (h.0, h.1) (h.2, h.3) (signed_mag a.w (omega arith) a.u h.4)
    _ c.signed.type_inv c.signed.ensures _ c.rescale.type_inv c.rescale.ensures

pub returns : goal.returns
returns c =
    let h = c.requires in
    let a = c.args in
    bits_there a.w a.v (signed_of a.w a.u) (h.0, h.1) (h.2, h.3) (signed_mag a.w (omega arith) a.u h.4)
    _ c.signed.type_inv c.signed.ensures _ c.rescale.type_inv c.rescale.ensures _ c.bits.ensures
