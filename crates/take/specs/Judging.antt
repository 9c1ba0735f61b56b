-- What the code's functions give one another; there is nothing to believe here.
use Rattle.std.specs.Prelude.{◌≡◌, ℕ, ◌+◌, ◌^◌, ◌<◌, ◌≤◌, false, not, List, [], ◌∷◌, length, Result, Ok, Err}
use Rattle.lists.specs.Tables.{Row, row, checked}
use Rattle.answers.specs.declared.Answer.{Answer}
use Rattle.answers.specs.declared.Answer.TheVariants.{Accepted, Name, OtherStream}
use Rattle.formats.specs.Formats.{MayRead}
use Rattle.wire_rules.specs.declared.Header.{Header}
use Rattle.wire_rules.specs.Names.{good_name, same_name}
use Rattle.wire_rules.specs.Header.{header_size, header_of, data_size}
use Rattle.reader.specs.Unnamed.{unnamed}
use Rattle.track_rules.specs.Records.{records_held}
use Rattle.take_rules.specs.declared.Take.{Take}
use Rattle.take_rules.specs.declared.Followed.{Followed}
use Rattle.take_rules.specs.Follow.{place_of, skipped_of, changed_shape, late, followed_by}

-- 4 and the name's part of 5, by the take's name and a datagram's
abbrev pub named_rows : List ℕ → List ℕ → List (Row Answer)
named_rows name field = row Name (not (good_name field)) ∷ row OtherStream (not (same_name name field)) ∷ []

-- the header's numbers where a table passes
abbrev pub judged_for : Result (Unit {0}) Answer → List ℕ → Result Header Answer
judged_for (Ok u) d = Ok (unnamed (header_of d))
judged_for (Err a) d = Err a

unfoldable pub judged_by : List (Row Answer) → List ℕ → Result Header Answer
judged_by rows d = judged_for (checked rows) d

-- what a refusal gives
abbrev pub refused_by : Take → Answer → Followed
refused_by t a = record { told = record { answer = a; place = 0; frames = 0; skipped = 0 }; take = t }

-- what acceptance gives
abbrev pub accepted_by : Take → Header → Followed
accepted_by t h =
    record { told = record { answer = Accepted; place = place_of t h; frames = h.frames; skipped = skipped_of t h }; take = followed_by t h }

-- what the functions of a packet that is accepted ask
pub record Asked (t : Take) (h : Header) (d track : List ℕ) : Type 0 where
  pub unchanged : changed_shape t h ≡ false
  pub not_late : late t h ≡ false
  pub channels_few : h.channels ≤ 8
  pub typed : MayRead h.format
  pub exact : length d ≡ header_size + data_size h
  pub place_fits : place_of t h < 2 ^ 64
  pub within : place_of t h + h.frames ≤ records_held track
