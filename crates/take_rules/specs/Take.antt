-- The take: what it keeps, its state, its opening (document 01, "Following a take").
use Rattle.std.specs.Prelude.{ℕ, ◌≤◌, ◌≡◌, List, [], ◌∷◌, Bool, true, false, not, ◌&&◌, replicate, ltb}
use Rattle.lists.specs.Tables.{choose, any, outside}
use Rattle.answers.specs.declared.Answer.TheVariants.{Accepted, Name}
use Rattle.formats.specs.Formats.{MayRead, may_read}
use Rattle.wire_rules.specs.Names.{good_name, kept_name, GoodName}
use Rattle.track_rules.specs.Records.{cleared_of}
use Rattle.take_rules.specs.declared.Who.{Who}
use Rattle.take_rules.specs.declared.Shape.{Shape}
use Rattle.take_rules.specs.declared.Line.{Line}
use Rattle.take_rules.specs.declared.Take.{Take}
use Rattle.take_rules.specs.declared.Opened.{Opened}

-- ---- opening

-- a take that has accepted nothing yet
abbrev pub unbegun_for : Who → Take
unbegun_for who =
    record { who = who; begun = false; shape = record { rate = 0; channels = 0; format = 0 }; line = record { n = 0; newest = 0; place = 0 } }

-- the all-zero take
abbrev pub no_take : Take
no_take = unbegun_for (record { name = replicate 16 0; address = 0 })

-- opening fixes the name, kept with zeros after it, and the sender's address
abbrev pub unbegun : List ℕ → ℕ → Take
unbegun name address = unbegun_for (record { name = kept_name name; address = address })

-- answer 4 for a bad name, with the all-zero take
unfoldable pub open_of : List ℕ → ℕ → Opened
open_of name address =
    choose (good_name name) (record { answer = Accepted; take = unbegun name address }) (record { answer = Name; take = no_take })

-- opening clears all whole records; a refusal leaves the track
unfoldable pub opened_track : List ℕ → List ℕ → List ℕ
opened_track name track = choose (good_name name) (cleared_of track) track

-- ---- answer 16

-- channels outside 1 to 8, rate over 20 or a type that may not be read
abbrev pub bad_shape : Shape → Bool
bad_shape s = any (outside 8 s.channels ∷ ltb 20 s.rate ∷ not (may_read s.format) ∷ [])

-- N outside 1 to 256
abbrev pub bad_line : Line → Bool
bad_line l = outside 256 l.n

-- a bad name or, once begun, a bad shape or line
abbrev pub bad_state : Take → Bool
bad_state t = any (not (good_name t.who.name) ∷ (t.begun && any (bad_shape t.shape ∷ bad_line t.line ∷ [])) ∷ [])

-- ---- the same as the paper has it

pub record GoodShape (s : Shape) : Type 0 where
  pub channels_few : (1 ≤ s.channels) × (s.channels ≤ 8)
  pub rated : s.rate ≤ 20
  pub typed : MayRead s.format

pub record GoodLine (l : Line) : Type 0 where
  pub frames_few : (1 ≤ l.n) × (l.n ≤ 256)

pub record GoodState (t : Take) : Type 0 where
  pub named : GoodName t.who.name
  pub shaped : t.begun ≡ true → GoodShape t.shape
  pub lined : t.begun ≡ true → GoodLine t.line
