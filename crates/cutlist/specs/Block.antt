-- What cutlist writes (document 01, "Bench table"): one capture record a packet.
use Rattle.std.specs.Prelude.{ℕ, ◌+◌, ◌≤◌, ◌<◌, ◌≡◌, List}
use Rattle.lists.specs.Lists.{put, up_to}
use Rattle.answers.specs.declared.Made.TheVariants.{Done}
use Rattle.wire_rules.specs.declared.Header.{Header}
use Rattle.cutter_rules.specs.Cut.{cut_answer, cut_packet}
use Rattle.wire_rules.specs.Header.{datagram_most}
use Rattle.capture_rules.specs.Records.{capture_record}

-- the records of n packets from packet k on
abbrev pub records : Header → List ℕ → ℕ → ℕ → ℕ → List ℕ
records h track address k n = up_to n (λ j. capture_record address (cut_packet h track (k + j)))

-- n records at the front of a block that holds `most`: all that are cut, and no more because the next is refused or the block is full
pub record Filled (h : Header) (track : List ℕ) (address k most : ℕ) (before now : List ℕ) (n : ℕ) : Type 0 where
  pub no_more : n ≤ most
  pub cut_all : (j : ℕ) → j < n → cut_answer h track (k + j) datagram_most ≡ Done
  pub stops : n < most → cut_answer h track (k + n) datagram_most ≡ Done → ⊥
  pub written : now ≡ put before 0 (records h track address k n)
