-- The theorem at one track and history: its premises can be met.
use mathlib.Core.Path.{◌≡◌, refl, sym}
use mathlib.Core.Logic.{inl, inr}
use mathlib.Core.Bool.{Bool, true, false}
use mathlib.Core.List.{List, [], ◌∷◌}
use Prim.Native.Nat.{ℕ, zero, suc, ◌<◌}
use native.Mathlib.Nat.{le_refl}
use native.Mathlib.Omega.{arith}
use lib.Dec.{ltb, lit<}
use lib.ListN.{replicate}
use borrow.Author.Tests.{ltb-true}
use Rattle.lists.specs.Lists.{byte, up_to}
use Rattle.lists.specs.Tables.{choose}
use Rattle.lists.proofs.Tables.{by_test, true_false}
use Rattle.lists.specs.Lists.{index_of, index_after}
use Rattle.formats.specs.Formats.{format_of, may_send}
use Rattle.wire_rules.specs.Names.{name_end, name_of, printable, good_name}
use Rattle.track_rules.specs.Records.{records_held}
use Rattle.take_rules.specs.Tally.{cleared}
use Rattle.cutter_rules.specs.Cut.{cut_answer, cut_of, cut_packet}
use Rattle.take_rules.specs.Box.{Event, opened, after}
use Rattle.demand.specs.Sender.{Sender, our_sender, Heard, accepted_in, RecordedOf}
use Rattle.demand.specs.Bench.{hall4}
use Rattle.demand.specs.Example.{header, sent, packets}
use Rattle.demand.proofs.Demand.{recorded}

-- bytes, tested one by one
abbrev all_bytes : List ℕ → Bool
all_bytes [] = true
all_bytes (x ∷ l) = choose (ltb x 256) (all_bytes l) false

first_byte : (x : ℕ) (b : Bool) → choose (ltb x 256) b false ≡ true → (x < 256) × (b ≡ true)
first_byte x b e =
    by_test (λ y. ltb x 256 ≡ y → choose y b false ≡ true → (x < 256) × (b ≡ true)) (ltb x 256)
    (λ q p r. (ltb-true x 256 p, r)) (λ q p r. absurd (true_false (sym r))) refl e

each_byte : (l : List ℕ) → all_bytes l ≡ true → (j : ℕ) → byte l j < 256
each_byte [] e j = lit< tt
each_byte (x ∷ l) e zero = (first_byte x (all_bytes l) e).0
each_byte (x ∷ l) e (suc j) = each_byte l (first_byte x (all_bytes l) e).1 j

-- the neighbour's desk sends the same bytes from its own address
abbrev neighbour : Event
neighbour = record { datagram = cut_packet header sent 1; address = 8 }

abbrev before : List ℕ
before = replicate 145 0xAA

abbrev past : List Event
past = neighbour ∷ packets (2 ∷ 0 ∷ [])

abbrev sender : Sender
sender = our_sender header sent 9

heard : (k : ℕ) → k < sender.schedule.packets → Heard sender (record { datagram = cut_packet header sent k; address = 9 }) k
heard k l = record { below = l; bytes = refl; from = refl }

used : RecordedOf sender (accepted_in sender (records_held before) past) before (after (opened hall4 9 cleared before) past).track
unfolding up_to cut_answer cut_of format_of may_send name_end name_of printable good_name index_of index_after
used =
    recorded header refl sent (each_byte sent refl) (replicate 1464 0) refl 9 hall4 (le_refl 16) refl cleared before past
    (inr (λ a. omega (arith, a.address)), (inl (2, heard 2 (lit< tt)), (inl (0, heard 0 (lit< tt)), tt)))
