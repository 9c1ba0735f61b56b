-- Rows P1 to P13 of document 01's bench table hold.
use mathlib.Core.Path.{◌≡◌, refl}
use mathlib.Core.List.{List}
use Prim.Native.Nat.{ℕ}
use native.Mathlib.Omega.{arith}
use lib.ListN.{length, drop}
use borrow.Author.Tests.{lt-ltb}
use Rattle.lists.specs.Lists.{put, up_to}
use Rattle.lists.specs.Little.{little, bytes_of}
use Rattle.lists.specs.Lists.{index_of, index_after}
use Rattle.answers.specs.Numbers.{number_of}
use Rattle.formats.specs.Formats.{format_of, may_read, may_send, may_convert}
use Rattle.sample_rules.specs.Convert.{narrowed, rescaled, converted, convert_of}
use Rattle.sample_rules.specs.Bits.{signed_of, bits_of, slot_of}
use Rattle.wire_rules.specs.Names.{name_end, name_of, printable, good_name, kept_name, same_bytes, same_name}
use Rattle.wire_rules.specs.Rates.{rates, rate_of}
use Rattle.wire_rules.specs.Read.{read_of}
use Rattle.wire_rules.specs.Write.{lead_of, write_of, output_of}
use Rattle.track_rules.specs.Records.{cleared_of, record_of, records_of, laid_of, frame_slot, packet_slot}
use Rattle.take_rules.specs.Take.{open_of, opened_track}
use Rattle.take_rules.specs.Follow.{answer_of, followed_track}
use Rattle.cutter_rules.specs.Largest.{largest_of}
use Rattle.demand.specs.Bench.{Results, table}

-- any 27 bytes
short : (d : List ℕ) → length d ≡ 27 → number_of (read_of d).answer ≡ 1
unfolding read_of
short d e = rw (lt-ltb (length d) 28 (omega arith))

-- P8 on
counters_on : Results (drop 16 table)
unfolding put up_to little bytes_of index_of index_after format_of may_read may_send may_convert rescaled converted signed_of bits_of slot_of name_end name_of printable good_name kept_name
    same_bytes same_name rates rate_of lead_of write_of output_of cleared_of record_of records_of laid_of frame_slot packet_slot open_of opened_track answer_of
    followed_track
counters_on = ((refl, refl), ((refl, refl), ((refl, refl), ((refl, refl), ((refl, refl), ((refl, refl), ((refl, refl), (refl, tt))))))))

pub bench : Results table
unfolding read_of format_of may_send may_convert largest_of narrowed rescaled converted convert_of
bench = (short, (refl, (refl, (refl, (refl, (refl, (refl, (refl, (refl, (refl, (refl, (refl, (refl, (refl, (refl, (refl, counters_on))))))))))))))))
