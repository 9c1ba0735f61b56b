-- Of the packet writer's rows only the room refuses.
use Rattle.std.proofs.Common.{◌≡◌, ℕ, ◌+◌, ◌%◌, ◌^◌, ◌<◌, ◌≤◌, Bool, false, ltb, List, ◌∷◌, length, Ok, Err, sym, refl, ap, ◌∙◌, le_of_eq, arith, rules, le-ltb, lt-ltb, eq-eqb}
use Rattle.std.proofs.lemmas.Result.{err_from_is_err_and}
use Rattle.lists.specs.Tables.{Row, row, choose, unlike}
use Rattle.answers.specs.declared.Made.{Made}
use Rattle.answers.specs.declared.Made.TheVariants.{Data, Number, Room}
use Rattle.wire_rules.specs.declared.Header.{Header}
use Rattle.wire_rules.specs.Names.{name_of}
use Rattle.wire_rules.specs.Header.{data_size, header_size, data_most}
use Rattle.wire_rules.specs.Write.{write_rows}
use Rattle.wire_rules.proofs.Writing.{by_form}
use Rattle.track_rules.specs.Records.{records_held, record_bytes}
use Rattle.cutter_rules.specs.Schedule.{Schedule, schedule_of}
use Rattle.cutter_rules.specs.Largest.{largest_frames}
use Rattle.cutter_rules.specs.Cut.{cut_schedule, packet_header, cut_rows, bad_cut, bad_number, GoodCut, GoodNumber}
use Rattle.cutter_rules.proofs.Scheduling.{divided}
use Rattle.cutter_rules.proofs.Sizes.{never_big, packet_formed}
use Rattle.cutter_rules.proofs.Exactly.{cut_by, number_by, count_few}
use Rattle.writer.specs.Checks.{passing}
use Rattle.writer.proofs.Passing.{stops_passing, passes_done, passes_rows}
use Rattle.cutter.specs.Checks.{form_rows}
use Rattle.cutter.proofs.cut.check.Goals as goal

-- the rows after the first
abbrev other_rows : Header → List ℕ → ℕ → ℕ → List (Row Made)
other_rows h track k room =
    let s = cut_schedule h track in
    let hk = packet_header h s k in
    row Data (unlike (length track % record_bytes) 0) ∷ row Number (bad_number s (records_held track) k) ∷ write_rows hk (data_size hk) room

module _ (h : Header) (sixteen : length h.name ≡ 16) (track : List ℕ) (k room n named : ℕ) (e : Ok named ≡ passing n (form_rows h))
    (full : length track % record_bytes ≡ 0) (held : ℕ) (p : held ≡ records_held track) (bad : Bool)
    (q : bad ≡ bad_number (schedule_of held h.frames) held k) (some : bad ≡ false)
    (hk : Header) (u : hk ≡ packet_header h (schedule_of held h.frames) k) (size : ℕ) (v : size ≡ data_size hk) where
  abbrev s : Schedule
  s = cut_schedule h track

  passes : bad_cut h ≡ false
  passes = (passes_rows n (form_rows h) named e).0

  good_cut : GoodCut h
  good_cut = cut_by h (le_of_eq sixteen) passes

  is_size : size ≡ data_size (packet_header h s k)
  is_size = v ∙ rw (u, p)

  number_passes : bad_number s (records_held track) k ≡ false
  number_passes = rw (← p) (sym q ∙ some)

  good_number : GoodNumber s (records_held track) k
  good_number = number_by s (records_held track) k number_passes

  few : s.count k ≤ largest_frames h.format h.channels
  few = count_few h track good_cut k good_number.below

  small : header_size + size < 2 ^ 64
  small = omega (arith, is_size, never_big h good_cut.formed s k few)

  only_room : let m = data_size (packet_header h s k) in
      passing n (write_rows (packet_header h s k) m room) ≡ choose (ltb room (header_size + m)) (Err Room) (Ok n)
  only_room =
      let g = good_cut.formed in
      let m = data_size (packet_header h s k) in
      let some = (divided (records_held track) h.frames g.frames_few.0).some k good_number.below in
      rw (by_form (packet_header h s k) (le_of_eq sixteen) (packet_formed h g s k few some), le-ltb data_most m (never_big h g s k few), eq-eqb m m refl)

  by_room : passing n (cut_rows h track k room) ≡ choose (ltb room (header_size + size)) (Err Room) (Ok n)
  by_room = rw (passes, eq-eqb (length track % record_bytes) 0 full, number_passes, is_size) only_room

  room_refuses : room < header_size + size → Err Room ≡ passing n (cut_rows h track k room)
  room_refuses l = rw (by_room, lt-ltb room (header_size + size) l)

  none_refuses : header_size + size ≤ room → Ok named ≡ passing n (cut_rows h track k room)
  none_refuses l = rw (by_room, le-ltb room (header_size + size) l) (ap Ok (passes_done n (form_rows h) named e).1)

pub returns-in_err-named : goal.returns-in_err-named
returns-in_err-named c =
    let p = err_from_is_err_and c.from_residual.result c.from_residual.ensures.1 in
    let h = c.args.h in
    rw (p.1, p.2) (stops_passing (length (name_of h.name)) (form_rows h) (other_rows h c.args.track.now c.args.k c.args.room) _ (search rules))

pub overflow_add-data_size : goal.overflow_add-data_size
overflow_add-data_size c =
    let l = small c.args.h (search rules) c.args.track.now c.args.k c.args.room _ _ c.in_ok-named.ensures c.if-track-ne0.false _ c.held-frames.ensures
    _ c.bad_number.ensures c.if-bad_number.false _ c.packet_header-hk.ensures _ c.data_size.ensures in
    record { fits = l }

pub returns-then-room-data_size : goal.returns-then-room-data_size
returns-then-room-data_size c =
    room_refuses c.args.h (search rules) c.args.track.now c.args.k c.args.room _ _ c.in_ok-named.ensures c.if-track-ne0.false _ c.held-frames.ensures
    _ c.bad_number.ensures c.if-bad_number.false _ c.packet_header-hk.ensures _ c.data_size.ensures c.if-room-data_size.true

pub returns : goal.returns
returns c =
    none_refuses c.args.h (search rules) c.args.track.now c.args.k c.args.room _ _ c.in_ok-named.ensures c.if-track-ne0.false _ c.held-frames.ensures
    _ c.bad_number.ensures c.if-bad_number.false _ c.packet_header-hk.ensures _ c.data_size.ensures c.if-room-data_size.false
