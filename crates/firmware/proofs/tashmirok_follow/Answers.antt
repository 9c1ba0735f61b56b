-- The take is loaded and the datagram judged; where it is accepted, the take is stored and the records are laid; the count is raised.
use mathlib.Core.Path.{◌∙◌}
use Prim.Native.Nat.{◌^◌, ◌<◌}
use native.Mathlib.Omega.{arith}
use lib.ListN.{length}
use borrow.Author.Rules.{rules}
use Rattle.take.proofs.Following.{asked}
use Rattle.kept.proofs.Keeping.{placed_as, late_as}
use Rattle.firmware.proofs.Following.{loaded_name, told_refused, told_accepted}
use Rattle.firmware.proofs.tashmirok_follow.Goals as goal

pub judge-requires : goal.judge-requires
judge-requires c = search loaded_name

pub place_of-place-requires : goal.place_of-place-requires
place_of-place-requires c =
    let a = c.args in
    let short : length a.track.now < 2 ^ 64 = search rules in
    (asked c.load-t.result a.address a.datagram.now a.track.now _ c.held.ensures _ c.in-Ok.ensures short).place_fits

pub store_followed-requires : goal.store_followed-requires
store_followed-requires c =
    let a = c.args in
    let short : length a.track.now < 2 ^ 64 = search rules in
    let p = asked c.load-t.result a.address a.datagram.now a.track.now _ c.held.ensures _ c.in-Ok.ensures short in
    let e = c.load-t.ensures in
    let q = placed_as _ _ e c.in-Ok.h _ c.place_of-place.ensures p.unchanged in
    (q.0, q.1, late_as _ _ e c.in-Ok.h p.not_late)

pub lay-requires : goal.lay-requires
lay-requires c =
    let a = c.args in
    let short : length a.track.now < 2 ^ 64 = search rules in
    let p = asked c.load-t.result a.address a.datagram.now a.track.now _ c.held.ensures _ c.in-Ok.ensures short in
    record { may_read = p.typed; channels_bound = (p.channels_few, p.exact, omega (arith, c.place_of-place.ensures, p.within)) }

pub returns-in-Ok : goal.returns-in-Ok
returns-in-Ok c =
    let a = c.args in
    let t =
    told_accepted a.kept.now a.tally.now a.datagram.now a.track.now a.address _ _ c.load-t.ensures c.held.ensures _ _ c.in-Ok.ensures (search rules)
    _ _ _ _ _ c.place_of-place.ensures c.from.ensures (c.from-in-Ok.ensures ∙ c.skipped-skipped.ensures) c.store_followed.ensures c.lay.ensures
    c.raise_in.ensures in
    record { answer = c.from-in-Ok-2.ensures ∙ t.answer; laid = t.words; take = t.take_kept; tally = t.counted; track = t.track_laid }

pub returns-in-Err : goal.returns-in-Err
returns-in-Err c =
    let a = c.args in
    let t =
    told_refused a.kept.now a.tally.now a.datagram.now a.track.now a.address _ _ c.load-t.ensures c.held.ensures _ _ c.in-Err.ensures
    c.raise_in-in-Err.ensures in
    record { answer = c.from-in-Err.ensures ∙ t.answer; laid = t.words; take = t.take_kept; tally = t.counted; track = t.track_laid }
