-- Following a take (document 01, "Following a take" and "Numbers the bench sees": 16 first, then 1 to 15).
use Rattle.std.specs.Prelude.{ℕ, ◌+◌, ◌-◌, ◌^◌, ◌≤◌, ◌≡◌, List, [], ◌∷◌, ◌++◌, Bool, true, not, ◌&&◌, ltb, eqb}
use Rattle.lists.specs.Tables.{Row, row, choose, first, any, unlike}
use Rattle.lists.specs.Rules.{Rules, done, rule}
use Rattle.answers.specs.declared.Answer.{Answer}
use Rattle.answers.specs.declared.Answer.TheVariants.{Accepted, OtherStream, Channels, Shape, Late, Beyond, State}
use Rattle.answers.specs.Numbers.{number_of}
use Rattle.formats.specs.Formats.{format_of}
use Rattle.wire_rules.specs.declared.Header.{Header}
use Rattle.wire_rules.specs.Names.{name_of, same_name}
use Rattle.wire_rules.specs.Header.{header_size, name_field, header_of}
use Rattle.wire_rules.specs.Read.{front_rows, audio_rows, Readable, front_rules, audio_rules}
use Rattle.track_rules.specs.Records.{records_held, laid_of, packet_slot}
use Rattle.take_rules.specs.declared.Who.{Who}
use Rattle.take_rules.specs.declared.Shape.{Shape as TakeShape}
use Rattle.take_rules.specs.declared.Decision.{Decision}
use Rattle.take_rules.specs.declared.Take.{Take}
use Rattle.take_rules.specs.declared.Told.{Told}
use Rattle.take_rules.specs.declared.Followed.{Followed}
use Rattle.take_rules.specs.Take.{bad_state, GoodState}
use Rattle.take_rules.specs.Line.{is_late, distance, decision_of, place_for, skipped_for, next_for}

-- ---- a packet by its header

-- what its counter makes of it
abbrev pub decided : Take → Header → Decision
decided t h = decision_of t.line h.counter h.frames t.begun

-- its place in the track
abbrev pub place_of : Take → Header → ℕ
place_of t h = place_for t.line h.counter h.frames (decided t h)

-- the packets skipped before it
abbrev pub skipped_of : Take → Header → ℕ
skipped_of t h = skipped_for t.line h.counter h.frames (decided t h)

-- ---- the rows marked T

-- 5: name or address isn't the take's
abbrev pub other_stream : Who → ℕ → List ℕ → Bool
other_stream who address d = any (not (same_name who.name (name_field d)) ∷ unlike address who.address ∷ [])

-- rate, channels or type differ
abbrev pub other_shape : TakeShape → Header → Bool
other_shape s h = any (unlike h.rate s.rate ∷ unlike h.channels s.channels ∷ unlike h.format s.format ∷ [])

-- 13, once begun: rate, channels or type differ, or over N frames
abbrev pub changed_shape : Take → Header → Bool
changed_shape t h = t.begun && any (other_shape t.shape h ∷ ltb t.line.n h.frames ∷ [])

-- 14, once begun: late
abbrev pub late : Take → Header → Bool
late t h = is_late (decided t h)

-- 12 to 15, by the header and the records held
abbrev pub take_rows : Take → Header → ℕ → List (Row Answer)
take_rows t h held =
    row Channels (ltb 8 h.channels)
    ∷ row Shape (changed_shape t h)
    ∷ row Late (late t h)
    ∷ row Beyond (ltb held (place_of t h + h.frames))
    ∷ []

-- the first half: 16, then 1 to 5
abbrev pub stream_rows : Take → ℕ → List ℕ → List (Row Answer)
stream_rows t address d = row State (bad_state t) ∷ (front_rows d ++ (row OtherStream (other_stream t.who address d) ∷ []))

-- the second: 6 to 15
abbrev pub packet_rows : Take → List ℕ → ℕ → List (Row Answer)
packet_rows t d held = audio_rows d ++ take_rows t (header_of d) held

abbrev pub follow_rows : Take → ℕ → List ℕ → ℕ → List (Row Answer)
follow_rows t address d held = stream_rows t address d ++ packet_rows t d held

unfoldable pub answer_of : Take → ℕ → List ℕ → ℕ → Answer
answer_of t address d held = first Accepted (follow_rows t address d held)

-- ---- what following gives

abbrev pub shape_of : Header → TakeShape
shape_of h = record { rate = h.rate; channels = h.channels; format = h.format }

-- the first packet fixes rate, channels and type
abbrev pub shape_after : Take → Header → TakeShape
shape_after t h = choose t.begun t.shape (shape_of h)

-- the take after acceptance; nothing else makes a begun one
abbrev pub followed_by : Take → Header → Take
followed_by t h = record { who = t.who; begun = true; shape = shape_after t h; line = next_for t.line h.counter h.frames (decided t h) }

-- acceptance answers place, frames and skipped count, a refusal zeros
abbrev pub told_for : Answer → Take → Header → Told
told_for a t h = record {
  answer = a;
  place = choose (eqb (number_of a) 0) (place_of t h) 0;
  frames = choose (eqb (number_of a) 0) h.frames 0;
  skipped = choose (eqb (number_of a) 0) (skipped_of t h) 0;
}

-- a refusal leaves the take
unfoldable pub followed_of : Take → ℕ → List ℕ → List ℕ → Followed
followed_of t address d track =
    let a = answer_of t address d (records_held track) in
    record { told = told_for a t (header_of d); take = choose (eqb (number_of a) 0) (followed_by t (header_of d)) t }

-- the records of a packet, by its header and its place
abbrev pub laid_by : Header → List ℕ → ℕ → List ℕ → List ℕ
laid_by h d place track = laid_of track place h.frames (packet_slot (format_of h.format) d header_size h.channels)

-- acceptance writes exactly the packet's records; a refusal nothing
unfoldable pub followed_track : Take → ℕ → List ℕ → List ℕ → List ℕ
followed_track t address d track =
    choose (eqb (number_of (answer_of t address d (records_held track))) 0) (laid_by (header_of d) d (place_of t (header_of d)) track) track

-- ---- the rules, as the paper has them

-- 5 keeps out a datagram whose name or address isn't the take's
pub record OurStream (who : Who) (address : ℕ) (d : List ℕ) : Type 0 where
  pub our_name : name_of who.name ≡ name_of (name_field d)
  pub our_address : address ≡ who.address

-- 13, once begun
pub record SameShape (t : Take) (h : Header) : Type 0 where
  pub same_rate : h.rate ≡ t.shape.rate
  pub same_channels : h.channels ≡ t.shape.channels
  pub same_format : h.format ≡ t.shape.format
  pub no_longer : h.frames ≤ t.line.n

-- 14: d from 1 to 2^31 - 1
abbrev pub Newer : Take → Header → Type 0
Newer t h = let d = distance t.line h.counter h.frames in (1 ≤ d) × (d ≤ 2 ^ 31 - 1)

-- 12 to 15
abbrev pub take_rules : Take → Header → ℕ → Rules Answer
take_rules t h held =
    rule Channels (h.channels ≤ 8)
    (rule Shape (t.begun ≡ true → SameShape t h)
    (rule Late (t.begun ≡ true → Newer t h)
    (rule Beyond (place_of t h + h.frames ≤ held)
    done)))

-- 13 to 15 of these
abbrev pub line_rules : Take → Header → ℕ → Rules Answer
line_rules t h held =
    rule Shape (t.begun ≡ true → SameShape t h)
    (rule Late (t.begun ≡ true → Newer t h)
    (rule Beyond (place_of t h + h.frames ≤ held)
    done))

-- 6 to 15
abbrev pub packet_rules : Take → List ℕ → ℕ → Rules Answer
packet_rules t d held = audio_rules d (take_rules t (header_of d) held)

-- 16, then 1 to 15
abbrev pub follow_rules : Take → ℕ → List ℕ → ℕ → Rules Answer
follow_rules t address d held = rule State (GoodState t) (front_rules d (rule OtherStream (OurStream t.who address d) (packet_rules t d held)))

-- a datagram that is accepted: every rule in one record
pub record Followable (t : Take) (address : ℕ) (d : List ℕ) (held : ℕ) : Type 0 where
  pub good_state : GoodState t
  pub readable : Readable d
  pub ours : OurStream t.who address d
  pub channels_few : (header_of d).channels ≤ 8
  pub same_shape : t.begun ≡ true → SameShape t (header_of d)
  pub is_newer : t.begun ≡ true → Newer t (header_of d)
  pub fits : place_of t (header_of d) + (header_of d).frames ≤ held
