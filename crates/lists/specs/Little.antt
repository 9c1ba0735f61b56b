-- Numbers as bytes, the lowest first (document 01: "All numbers are little-endian").
use Rattle.std.specs.Prelude.{ℕ, zero, suc, ◌+◌, ◌*◌, ◌/◌, ◌%◌, ◌^◌, List, [], ◌∷◌}
use Rattle.lists.specs.Lists.{byte}

-- the number of the n bytes from index a on, the lowest first
unfoldable pub little : ℕ → List ℕ → ℕ → ℕ
little zero d a = 0
little (suc n) d a = byte d a + little n d (suc a) * 256

-- the same by what each byte weighs: byte j of them 256^j
abbrev pub weighed : ℕ → List ℕ → ℕ → ℕ
weighed zero d a = 0
weighed (suc n) d a = weighed n d a + byte d (a + n) * 256 ^ n

-- a number's n bytes, the lowest first
unfoldable pub bytes_of : ℕ → ℕ → List ℕ
bytes_of zero u = []
bytes_of (suc n) u = u % 256 ∷ bytes_of n (u / 256)
