-- The schedule of a cut (document 01, "Numbers the bench sees"): how many packets, and the first frame and the frame count of each.
use Rattle.std.specs.Prelude.{◌≡◌, ℕ, suc, ◌+◌, ◌-◌, ◌*◌, ◌/◌, ◌≤◌, ◌<◌, min}

-- the first frame of packet k is from k
pub record Schedule : Type 0 where
  pub packets : ℕ
  pub from : ℕ → ℕ
  pub count : ℕ → ℕ

-- packet k of the schedule holds frame x
pub record Holds (s : Schedule) (k x : ℕ) : Type 0 where
  pub below : k < s.packets
  pub begins : s.from k ≤ x
  pub ends : x < s.from k + s.count k

-- the packets hold T frames, one packet after the other, each of them a frame at least
pub record Divides (T : ℕ) (s : Schedule) : Type 0 where
  pub none : s.packets ≡ 0 → T ≡ 0
  pub start : s.from 0 ≡ 0
  pub some : (k : ℕ) → k < s.packets → 1 ≤ s.count k
  pub next : (k : ℕ) → suc k < s.packets → s.from (suc k) ≡ s.from k + s.count k
  pub last : (k : ℕ) → suc k ≡ s.packets → s.from k + s.count k ≡ T

-- every packet has N frames, the last what is left
pub record Equal (N : ℕ) (s : Schedule) : Type 0 where
  pub from_is : (k : ℕ) → k < s.packets → s.from k ≡ k * N
  pub full : (k : ℕ) → suc k < s.packets → s.count k ≡ N
  pub no_larger : (k : ℕ) → k < s.packets → s.count k ≤ N

-- the schedule of a track of T frames at N, which is both (`divided`, `equalled`)
abbrev pub schedule_of : ℕ → ℕ → Schedule
schedule_of T N = record { packets = (T + (N - 1)) / N; from = λ k. k * N; count = λ k. min N (T - k * N) }
