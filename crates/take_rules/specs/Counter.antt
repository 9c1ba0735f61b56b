-- Counters over their width, 32 bits in a VBAN take (document 01, "Following a take").
use Rattle.std.specs.Prelude.{ℕ, ◌+◌, ◌-◌, ◌%◌, ◌^◌, Bool, ◌&&◌, ltb}

-- d: a counter less the newest, modulo 2^w
abbrev pub away : ℕ → ℕ → ℕ → ℕ
away w counter newest = (counter + (2 ^ w - newest)) % 2 ^ w

-- d from 1 to 2^(w-1) - 1: newer; every other d is late
abbrev pub newer : ℕ → ℕ → Bool
newer w d = ltb 0 d && ltb d (2 ^ (w - 1))
