-- The 28 bytes (document 01, "The 28 bytes").
use Rattle.std.specs.Prelude.{ℕ, ◌+◌, ◌*◌, ◌/◌, ◌%◌, ◌≤◌, ◌≡◌, List, [], ◌∷◌, ◌++◌, Bool, not, take, drop, replicate, ltb, eqb}
use Rattle.lists.specs.Lists.{byte}
use Rattle.lists.specs.Little.{little}
use Rattle.lists.specs.Tables.{Row, row, choose, first, any, unlike}
use Rattle.lists.specs.Rules.{Rules, done, rule}
use Rattle.answers.specs.declared.Answer.{Answer}
use Rattle.answers.specs.declared.Answer.TheVariants.{Accepted, Foreign, Name, SubProtocol, Codec, Reserved, Rate, DataType}
use Rattle.answers.specs.Numbers.{number_of}
use Rattle.formats.specs.Formats.{MayRead, may_read, size_at}
use Rattle.wire_rules.specs.declared.Header.{Header}
use Rattle.wire_rules.specs.declared.HeaderRead.{HeaderRead}
use Rattle.wire_rules.specs.Names.{good_name, kept_name, GoodName}

-- the bytes of a header, the most data bytes, and the most bytes of a datagram
abbrev pub header_size : ℕ
header_size = 28

abbrev pub data_most : ℕ
data_most = 1436

abbrev pub datagram_most : ℕ
datagram_most = 1464

-- ---- bytes 4 and 7, split and joined

-- bits 0-4 rate index, bits 5-7 sub protocol
abbrev pub rate_bits : ℕ → ℕ
rate_bits b = b % 32

abbrev pub sub_bits : ℕ → ℕ
sub_bits b = b / 32

abbrev pub joined_four : ℕ → ℕ → ℕ
joined_four rate sub = rate + sub * 32

-- bits 0-2 data type, bit 3 reserved, bits 4-7 codec
abbrev pub format_bits : ℕ → ℕ
format_bits b = b % 8

abbrev pub reserved_bit : ℕ → ℕ
reserved_bit b = b / 8 % 2

abbrev pub codec_bits : ℕ → ℕ
codec_bits b = b / 16

abbrev pub joined_seven : ℕ → ℕ → ℕ → ℕ
joined_seven format reserved codec = format + reserved * 8 + codec * 16

-- ---- the fields of a datagram

-- the 16 bytes of the name
abbrev pub name_field : List ℕ → List ℕ
name_field d = take 16 (drop 8 d)

-- bytes 24-27
abbrev pub counter_of : List ℕ → ℕ
counter_of d = little 4 d 24

-- frames and channels are counts, the rate is its index, zeros fill the name
abbrev pub header_of : List ℕ → Header
header_of d = record {
  rate = rate_bits (byte d 4);
  frames = byte d 5 + 1;
  channels = byte d 6 + 1;
  format = format_bits (byte d 7);
  name = kept_name (name_field d);
  counter = counter_of d;
}

abbrev pub no_header : Header
no_header = record { rate = 0; frames = 0; channels = 0; format = 0; name = replicate 16 0; counter = 0 }

-- the number of data bytes
abbrev pub data_size : Header → ℕ
data_size h = h.frames * h.channels * size_at h.format

-- ---- the header alone (document 01, "Numbers the bench sees")

-- bytes 0-3 differ from 56 42 41 4E
abbrev pub foreign : List ℕ → Bool
foreign d = any (unlike (byte d 0) 0x56 ∷ unlike (byte d 1) 0x42 ∷ unlike (byte d 2) 0x41 ∷ unlike (byte d 3) 0x4E ∷ [])

-- rows 3 and 4
abbrev pub mark_rows : List ℕ → List (Row Answer)
mark_rows d = row Foreign (foreign d) ∷ row Name (not (good_name (name_field d))) ∷ []

-- rows 6 to 10, by bytes 4 and 7
abbrev pub bit_rows : ℕ → ℕ → List (Row Answer)
bit_rows four seven =
    row SubProtocol (unlike (sub_bits four) 0)
    ∷ row Codec (unlike (codec_bits seven) 0)
    ∷ row Reserved (unlike (reserved_bit seven) 0)
    ∷ row Rate (ltb 20 (rate_bits four))
    ∷ row DataType (not (may_read (format_bits seven)))
    ∷ []

abbrev pub field_rows : List ℕ → List (Row Answer)
field_rows d = bit_rows (byte d 4) (byte d 7)

abbrev pub header_rows : List ℕ → List (Row Answer)
header_rows d = mark_rows d ++ field_rows d

-- the same as rules, as the paper has them, each with the answer that is given where it is broken: 3 and 4, then the rest
abbrev pub mark_rules : List ℕ → Rules Answer → Rules Answer
mark_rules d rest =
    rule Foreign (take 4 d ≡ 0x56 ∷ 0x42 ∷ 0x41 ∷ 0x4E ∷ [])
    (rule Name (GoodName (name_field d))
    rest)

-- 6 to 10, then the rest
abbrev pub field_rules : List ℕ → Rules Answer → Rules Answer
field_rules d rest =
    rule SubProtocol (sub_bits (byte d 4) ≡ 0)
    (rule Codec (codec_bits (byte d 7) ≡ 0)
    (rule Reserved (reserved_bit (byte d 7) ≡ 0)
    (rule Rate (rate_bits (byte d 4) ≤ 20)
    (rule DataType (MayRead (format_bits (byte d 7)))
    rest))))

-- the header alone, as `cut.bin` has it (document 01, "Bench table": "whose header rows 3, 4 or 6 to 10 refuse")
abbrev pub header_rules : List ℕ → Rules Answer
header_rules d = mark_rules d (field_rules d done)

-- on 0 the fields, on a refusal zeros
abbrev pub header_answered : Answer → List ℕ → HeaderRead
header_answered a d = record { answer = a; header = choose (eqb (number_of a) 0) (header_of d) no_header }

unfoldable pub header_alone : List ℕ → HeaderRead
header_alone d = header_answered (first Accepted (header_rows d)) d
