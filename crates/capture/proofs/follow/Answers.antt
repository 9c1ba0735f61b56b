-- The datagram that is lent is the one that the record states, or as long.
use borrow.Author.Rules.{rules}
use Rattle.capture.proofs.Following.{over_long, as_stated}
use Rattle.capture.proofs.follow.Goals as goal

pub returns-then-length-gt-LONGEST : goal.returns-then-length-gt-LONGEST
returns-then-length-gt-LONGEST c =
    let e = c.follow.ensures in
    let f = over_long _ _ _ _ _ _ (search rules) c.address-sender.ensures c.stated-length.ensures _ _ _ c.if-length-gt-LONGEST.true
    (record { answered = e.answer; tallied = e.tally; laid = e.track }) in
    record { answer = f.answered; tally = f.tallied; track = f.laid }

pub returns : goal.returns
returns c =
    let e = c.follow-2.ensures in
    let f = as_stated _ _ _ _ _ _ (search rules) c.address-sender.ensures c.stated-length.ensures _ _ _ c.if-length-gt-LONGEST.false
    (record { answered = e.answer; tallied = e.tally; laid = e.track }) in
    record { answer = f.answered; tally = f.tallied; track = f.laid }
