-- Judged and, where accepted, laid down.
use Rattle.std.proofs.Common.{◌^◌, ◌<◌, length, rules}
use Rattle.take.proofs.Following.{refused_followed, refused_left, asked, accepted_followed, accepted_laid}
use Rattle.take.proofs.follow.followed.Goals as goal

pub accept-requires : goal.accept-requires
accept-requires c =
    let short : length c.args.track.now < 2 ^ 64 = search rules in
    let a = c.args in
    asked a.take a.address a.datagram.now a.track.now _ c.held.ensures _ c.in-Ok.ensures short

pub returns-in-Ok : goal.returns-in-Ok
returns-in-Ok c =
    let a = c.args in
    record {
      value = accepted_followed a.take a.address a.datagram.now a.track.now _ c.held.ensures _ c.in-Ok.ensures _ c.accept.ensures.value;
      track_after = accepted_laid a.take a.address a.datagram.now a.track.now _ c.held.ensures _ c.in-Ok.ensures _ c.accept.ensures.track_after;
    }

pub returns-in-Err : goal.returns-in-Err
returns-in-Err c =
    let a = c.args in
    record {
      value = refused_followed a.take a.address a.datagram.now a.track.now _ c.held.ensures _ c.in-Err.ensures;
      track_after = refused_left a.take a.address a.datagram.now a.track.now _ c.held.ensures _ c.in-Err.ensures;
    }
