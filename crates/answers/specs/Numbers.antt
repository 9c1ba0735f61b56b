-- The paper's number of each answer (document 01, "Numbers the bench sees").
use Rattle.std.specs.Prelude.{ℕ}
use Rattle.answers.specs.declared.Answer.{Answer}
use Rattle.answers.specs.declared.Answer.TheVariants.{Accepted, Short, Long, Foreign, Name, OtherStream, SubProtocol, Codec, Reserved, Rate, DataType, Length, Channels, Shape, Late, Beyond, State}
use Rattle.answers.specs.declared.Made.{Made}
use Rattle.answers.specs.declared.Made.TheVariants.{Done, Form, Big, Data, Room, Number, Sample}

-- reading, opening and following
abbrev pub number_of : Answer → ℕ
number_of Accepted = 0
number_of Short = 1
number_of Long = 2
number_of Foreign = 3
number_of Name = 4
number_of OtherStream = 5
number_of SubProtocol = 6
number_of Codec = 7
number_of Reserved = 8
number_of Rate = 9
number_of DataType = 10
number_of Length = 11
number_of Channels = 12
number_of Shape = 13
number_of Late = 14
number_of Beyond = 15
number_of State = 16

-- how many counts the house tally has (document 01, "Following a take": "one count for each answer 0 to 16")
abbrev pub counts_kept : ℕ
counts_kept = 17

-- where the count of an answer's number stands; a number with none is past the last
abbrev pub count_of : ℕ → ℕ
count_of number = number

-- writing, cutting and converting
abbrev pub number_made : Made → ℕ
number_made Done = 0
number_made Form = 20
number_made Big = 21
number_made Data = 22
number_made Room = 23
number_made Number = 24
number_made Sample = 26
