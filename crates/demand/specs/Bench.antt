-- The bench table (document 01, "Bench table"): rows P1 to P13 as data, and what it means for a row to hold, by the definitions that
-- public contracts cite.
use Rattle.std.specs.Prelude.{ℕ, ◌≡◌, Bool, true, false, List, [], ◌∷◌, ◌++◌, ℤ, pos, neg_ℤ, length, replicate}
use Rattle.answers.specs.declared.Made.TheVariants.{Done}
use Rattle.answers.specs.Numbers.{number_of}
use Rattle.sample_rules.specs.Convert.{convert_of}
use Rattle.wire_rules.specs.declared.Header.{Header}
use Rattle.wire_rules.specs.Rates.{rate_of}
use Rattle.wire_rules.specs.Read.{read_of}
use Rattle.wire_rules.specs.Write.{write_of, output_of}
use Rattle.take_rules.specs.Counter.{away, newer}
use Rattle.take_rules.specs.Take.{open_of, opened_track}
use Rattle.take_rules.specs.Follow.{followed_track}
use Rattle.cutter_rules.specs.Largest.{largest_of}

-- a row of the table, or a part of one
pub data Case : Type 0 where
  reads_every : ℕ → ℕ → Case
  reads : List ℕ → ℕ → Case
  largest : ℕ → ℕ → ℕ → Case
  converts : ℕ → ℕ → ℤ → ℤ → Case
  counters : ℕ → ℕ → ℕ → Bool → Case
  rates : ℕ → ℕ → ℕ → Case
  writes : Header → List ℕ → List ℕ → Case
  follows : List ℕ → ℕ → List ℕ → List ℕ → Case

-- what the table says of a case
abbrev pub Result : Case → Type 0
-- every datagram of a length, and one datagram: the answer
Result (reads_every n answer) = (d : List ℕ) → length d ≡ n → number_of (read_of d).answer ≡ answer
Result (reads d answer) = number_of (read_of d).answer ≡ answer
-- a type's index and channels: the largest N
Result (largest format channels n) = largest_of format channels ≡ record { answer = Done; frames = n }
-- a number of one type's index as a number of another's
Result (converts from to n r) = convert_of from to n ≡ record { answer = Done; value = r }
-- the newest counter and a packet's: d, and whether it is newer
Result (counters newest counter d is) = (away 32 counter newest ≡ d) × (newer 32 (away 32 counter newest) ≡ is)
-- a rate's index: the answer and the rate in Hz
Result (rates index answer hertz) = (number_of (rate_of index).answer ≡ answer) × ((rate_of index).hertz ≡ hertz)
-- a header and data, written with just their room: the packet, and its length
Result (writes h samples packet) =
    (write_of h samples (replicate (length packet) 0) ≡ record { answer = Done; length = length packet })
    × (output_of h samples (replicate (length packet) 0) ≡ packet)
-- a datagram followed by a take just opened, on a track of one record: that record
Result (follows name address d after) = followed_track (open_of name address).take address d (opened_track name (replicate 24 0)) ≡ after

-- of every case
abbrev pub Results : List Case → Type 0
Results [] = Unit {0}
Results (c ∷ cases) = Result c × Results cases

-- a negative number
abbrev minus : ℕ → ℤ
minus n = neg_ℤ (pos n)

-- packet A's name
abbrev pub hall4 : List ℕ
hall4 = (0x48 ∷ 0x61 ∷ 0x6C ∷ 0x6C ∷ 0x34 ∷ []) ++ replicate 11 0

-- packet A
abbrev packet_a : List ℕ
packet_a = (0x56 ∷ 0x42 ∷ 0x41 ∷ 0x4E ∷ 0x03 ∷ 0x00 ∷ 0x01 ∷ 0x01 ∷ []) ++ (hall4 ++ (0x07 ∷ 0x00 ∷ 0x00 ∷ 0x00 ∷ 0x01 ∷ 0x00 ∷ 0xFE ∷ 0xFF ∷ []))

-- rows P1 to P13
abbrev pub table : List Case
table =
    -- P1
    reads_every 27 1
    ∷ reads (replicate 28 0) 3
    -- P2 and P3
    ∷ largest 1 8 89
    ∷ largest 1 2 256
    ∷ largest 2 2 239
    ∷ largest 3 8 44
    -- P4 to P7
    ∷ converts 2 1 (pos 128) (pos 0)
    ∷ converts 2 1 (pos 384) (pos 2)
    ∷ converts 2 1 (minus 128) (pos 0)
    ∷ converts 2 1 (minus 384) (minus 2)
    ∷ converts 2 1 (pos 8388607) (pos 32767)
    ∷ converts 2 1 (minus 8388608) (minus 32768)
    ∷ converts 3 2 (pos 2147483520) (pos 8388607)
    ∷ converts 0 2 (pos 0) (minus 8388608)
    ∷ converts 0 2 (pos 128) (pos 0)
    ∷ converts 0 2 (pos 255) (pos 8323072)
    -- P8 to P10
    ∷ counters 4294967295 0 1 true
    ∷ counters 5 2147483652 2147483647 true
    ∷ counters 5 2147483653 2147483648 false
    ∷ counters 5 5 0 false
    -- P11
    ∷ rates 20 0 705600
    ∷ rates 21 9 0
    -- P12 and P13
    ∷ writes (record { rate = 3; frames = 1; channels = 2; format = 1; name = hall4; counter = 7 }) (0x01 ∷ 0x00 ∷ 0xFE ∷ 0xFF ∷ []) packet_a
    ∷ follows hall4 0 packet_a ((0x00 ∷ 0x01 ∷ 0x00 ∷ 0x00 ∷ 0xFE ∷ 0xFF ∷ []) ++ replicate 18 0)
    ∷ []
