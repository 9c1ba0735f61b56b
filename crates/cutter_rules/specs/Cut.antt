-- Cutting packet k of a track (document 01, "Numbers the bench sees").
use Rattle.std.specs.Prelude.{ℕ, ◌+◌, ◌%◌, ◌^◌, ◌≤◌, ◌<◌, ◌≡◌, Bool, List, [], ◌∷◌, length, ltb, leb, eqb}
use Rattle.lists.specs.Lists.{put}
use Rattle.lists.specs.Tables.{Row, row, choose, first, any, unlike}
use Rattle.lists.specs.Rules.{Rules, rule}
use Rattle.answers.specs.declared.Made.{Made}
use Rattle.answers.specs.declared.Made.TheVariants.{Done, Form, Data, Number}
use Rattle.answers.specs.Numbers.{number_made}
use Rattle.formats.specs.Formats.{format_of}
use Rattle.wire_rules.specs.declared.Header.{Header}
use Rattle.wire_rules.specs.Header.{data_size, header_size}
use Rattle.wire_rules.specs.Write.{bad_form, write_rows, packet_of, GoodForm, write_rules}
use Rattle.track_rules.specs.Records.{records_held, taken_of, record_bytes}
use Rattle.cutter_rules.specs.declared.Cut.{Cut}
use Rattle.cutter_rules.specs.Schedule.{Schedule, schedule_of}
use Rattle.cutter_rules.specs.Largest.{largest_frames}

-- the schedule of a header's cut: N is the header's frames
abbrev pub cut_schedule : Header → List ℕ → Schedule
cut_schedule h track = schedule_of (records_held track) h.frames

-- packet k's header: its frame count, and the counter (start + k) modulo 2^32
abbrev pub packet_header : Header → Schedule → ℕ → Header
packet_header h s k = record {
  rate = h.rate;
  frames = s.count k;
  channels = h.channels;
  format = h.format;
  name = h.name;
  counter = (h.counter + k) % 2 ^ 32;
}

-- a header's frames from a record on, as its data
abbrev pub taken_by : Header → List ℕ → ℕ → List ℕ
taken_by h track from = taken_of (format_of h.format) track from h.frames h.channels

-- packet k's data by a schedule
abbrev pub packet_samples : Header → Schedule → List ℕ → ℕ → List ℕ
packet_samples h s track k = taken_by (packet_header h s k) track (s.from k)

-- packet k by a schedule
unfoldable pub packet_by : Header → Schedule → List ℕ → ℕ → List ℕ
packet_by h s track k = packet_of (packet_header h s k) (packet_samples h s track k)

-- packet k of a header's cut
abbrev pub cut_packet : Header → List ℕ → ℕ → List ℕ
cut_packet h track k = packet_by h (cut_schedule h track) track k

-- 20: as for a packet; channels outside 1 to 8; N outside 1 to the largest
abbrev pub bad_cut : Header → Bool
bad_cut h = any (bad_form h ∷ ltb 8 h.channels ∷ ltb (largest_frames h.format h.channels) h.frames ∷ [])

-- 24: no frames, more than 2^31 packets, or k not below their number
abbrev pub bad_number : Schedule → ℕ → ℕ → Bool
bad_number s frames k = any (eqb frames 0 ∷ ltb (2 ^ 31) s.packets ∷ leb s.packets k ∷ [])

-- 20, 22, 24, and what the packet writer refuses, by the room for the packet
abbrev pub cut_rows : Header → List ℕ → ℕ → ℕ → List (Row Made)
cut_rows h track k room =
    let s = cut_schedule h track in
    let hk = packet_header h s k in
    row Form (bad_cut h)
    ∷ row Data (unlike (length track % record_bytes) 0)
    ∷ row Number (bad_number s (records_held track) k)
    ∷ write_rows hk (data_size hk) room

-- an answer with its length, which is zero on a refusal
abbrev pub cut_answered : Made → ℕ → Cut
cut_answered a length = record { answer = a; length = choose (eqb (number_made a) 0) length 0 }

-- the first row that refuses gives the answer
unfoldable pub cut_answer : Header → List ℕ → ℕ → ℕ → Made
cut_answer h track k room = first Done (cut_rows h track k room)

-- the answer and the length written
unfoldable pub cut_of : Header → List ℕ → ℕ → List ℕ → Cut
cut_of h track k out =
    cut_answered (cut_answer h track k (length out)) (header_size + data_size (packet_header h (cut_schedule h track) k))

-- what the output holds then
unfoldable pub cut_output : Header → List ℕ → ℕ → List ℕ → List ℕ
cut_output h track k out = choose (eqb (number_made (cut_answer h track k (length out))) 0) (put out 0 (cut_packet h track k)) out

-- ---- the rules, as the paper has them

-- 20
pub record GoodCut (h : Header) : Type 0 where
  pub formed : GoodForm h
  pub channels_few : h.channels ≤ 8
  pub no_larger : h.frames ≤ largest_frames h.format h.channels

-- 24
pub record GoodNumber (s : Schedule) (frames k : ℕ) : Type 0 where
  pub some : 1 ≤ frames
  pub few : s.packets ≤ 2 ^ 31
  pub below : k < s.packets

-- packet k of a track is cut, with so much room: every rule in one record
pub record Cuttable (h : Header) (track : List ℕ) (k room : ℕ) : Type 0 where
  pub good : GoodCut h
  pub whole : length track % record_bytes ≡ 0
  pub number : GoodNumber (cut_schedule h track) (records_held track) k
  pub roomy : header_size + data_size (packet_header h (cut_schedule h track) k) ≤ room

-- the same in the paper's order, each with the answer that is given where it is broken; the writer's rules last
abbrev pub cut_rules : Header → List ℕ → ℕ → ℕ → Rules Made
cut_rules h track k room =
    let s = cut_schedule h track in
    let hk = packet_header h s k in
    rule Form (GoodCut h)
    (rule Data (length track % record_bytes ≡ 0)
    (rule Number (GoodNumber s (records_held track) k)
    (write_rules hk (data_size hk) room)))
