-- Reading alone (document 01, "Numbers the bench sees"; rows marked T are skipped).
use Rattle.std.specs.Prelude.{ℕ, ◌+◌, ◌*◌, ◌≤◌, ◌≡◌, List, [], ◌∷◌, ◌++◌, not, length, take, ltb, eqb}
use Rattle.lists.specs.Lists.{byte}
use Rattle.lists.specs.Tables.{Row, row, choose, first, unlike}
use Rattle.lists.specs.Rules.{Rules, done, rule}
use Rattle.answers.specs.declared.Answer.{Answer}
use Rattle.answers.specs.declared.Answer.TheVariants.{Accepted, Short, Long, Foreign, Name, SubProtocol, Codec, Reserved, Rate, DataType, Length}
use Rattle.answers.specs.Numbers.{number_of}
use Rattle.formats.specs.Formats.{MayRead, size_at}
use Rattle.wire_rules.specs.declared.Read.{Read}
use Rattle.wire_rules.specs.Names.{good_name, GoodName}
use Rattle.wire_rules.specs.Header.{header_size, datagram_most, sub_bits, codec_bits, reserved_bit, rate_bits, format_bits, name_field, header_of, no_header, data_size, foreign, field_rows}

-- ---- the front: rows 1 to 3, and row 4

abbrev pub lead_rows : List ℕ → List (Row Answer)
lead_rows d = row Short (ltb (length d) header_size) ∷ row Long (ltb datagram_most (length d)) ∷ row Foreign (foreign d) ∷ []

abbrev pub name_rows : List ℕ → List (Row Answer)
name_rows d = row Name (not (good_name (name_field d))) ∷ []

abbrev pub front_rows : List ℕ → List (Row Answer)
front_rows d = lead_rows d ++ name_rows d

-- ---- reading

-- row 11
abbrev pub length_rows : List ℕ → List (Row Answer)
length_rows d = row Length (unlike (length d) (header_size + data_size (header_of d))) ∷ []

-- rows 6 to 11
abbrev pub audio_rows : List ℕ → List (Row Answer)
audio_rows d = field_rows d ++ length_rows d

abbrev pub read_rows : List ℕ → List (Row Answer)
read_rows d = front_rows d ++ audio_rows d

-- on 0 the header and the number of data bytes, on a refusal zeros
abbrev pub read_answered : Answer → List ℕ → Read
read_answered a d = record {
  answer = a;
  header = choose (eqb (number_of a) 0) (header_of d) no_header;
  size = choose (eqb (number_of a) 0) (data_size (header_of d)) 0;
}

unfoldable pub read_of : List ℕ → Read
read_of d = read_answered (first Accepted (read_rows d)) d

-- ---- the rules, as the paper has them

pub record Readable (d : List ℕ) : Type 0 where
  pub not_short : header_size ≤ length d
  pub not_long : length d ≤ datagram_most
  pub marked : take 4 d ≡ 0x56 ∷ 0x42 ∷ 0x41 ∷ 0x4E ∷ []
  pub named : GoodName (name_field d)
  pub audio : sub_bits (byte d 4) ≡ 0
  pub pcm : codec_bits (byte d 7) ≡ 0
  pub unreserved : reserved_bit (byte d 7) ≡ 0
  pub rated : rate_bits (byte d 4) ≤ 20
  pub typed : MayRead (format_bits (byte d 7))
  pub exact : length d ≡ header_size + (byte d 5 + 1) * (byte d 6 + 1) * size_at (format_bits (byte d 7))

-- the same in the paper's order, each with the answer that is given where it is broken: 1 to 4, then the rest
abbrev pub front_rules : List ℕ → Rules Answer → Rules Answer
front_rules d rest =
    rule Short (header_size ≤ length d)
    (rule Long (length d ≤ datagram_most)
    (rule Foreign (take 4 d ≡ 0x56 ∷ 0x42 ∷ 0x41 ∷ 0x4E ∷ [])
    (rule Name (GoodName (name_field d))
    rest)))

-- 6 to 11, then the rest
abbrev pub audio_rules : List ℕ → Rules Answer → Rules Answer
audio_rules d rest =
    rule SubProtocol (sub_bits (byte d 4) ≡ 0)
    (rule Codec (codec_bits (byte d 7) ≡ 0)
    (rule Reserved (reserved_bit (byte d 7) ≡ 0)
    (rule Rate (rate_bits (byte d 4) ≤ 20)
    (rule DataType (MayRead (format_bits (byte d 7)))
    (rule Length (length d ≡ header_size + (byte d 5 + 1) * (byte d 6 + 1) * size_at (format_bits (byte d 7)))
    rest)))))

abbrev pub read_rules : List ℕ → Rules Answer
read_rules d = front_rules d (audio_rules d done)
