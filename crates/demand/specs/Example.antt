-- A small sender and its histories, for examples that compute.
use Rattle.std.specs.Prelude.{ℕ, suc, ◌+◌, ◌*◌, List, [], ◌∷◌, replicate}
use Rattle.lists.specs.Lists.{byte, up_to}
use Rattle.wire_rules.specs.declared.Header.{Header}
use Rattle.take_rules.specs.Tally.{cleared}
use Rattle.track_rules.specs.Records.{record_bytes}
use Rattle.cutter_rules.specs.Cut.{cut_packet}
use Rattle.take_rules.specs.Box.{Event, opened, after}
use Rattle.demand.specs.Bench.{hall4}

-- one channel of 16 bits, two frames a packet, and a counter that wraps after the first
abbrev pub header : Header
header = record { rate = 3; frames = 2; channels = 1; format = 1; name = hall4; counter = 4294967295 }

-- five frames whose samples are 1 to 5: packets of two, two and one frames
abbrev pub sent : List ℕ
sent = up_to 5 (λ i. 0 ∷ suc i ∷ replicate 22 0)

-- packets by their numbers, from the sender's address, the latest first
abbrev pub packets : List ℕ → List Event
packets [] = []
packets (k ∷ past) = record { datagram = cut_packet header sent k; address = 9 } ∷ packets past

-- the samples in the first slots of a track of n records after such a history, which held other bytes before
abbrev pub samples_after : ℕ → List ℕ → List ℕ
samples_after n past =
    let t = (after (opened hall4 9 cleared (replicate (n * record_bytes) 0xAA)) (packets past)).track in
    up_to n (λ i. byte t (i * record_bytes + 1) ∷ [])
