-- Schedules: every frame lies in exactly one packet, whatever the counts; and those of equal counts.
use mathlib.Core.Path.{◌≡◌, refl}
use mathlib.Core.Logic.{◌↔◌, ◌⊎◌, inl, inr}
use Prim.Native.Nat.{ℕ, zero, suc, ◌+◌, ◌-◌, ◌*◌, ◌/◌, ◌≤◌, ◌<◌}
use native.Mathlib.Nat.{suc-mul, zero-mul, le_of_eq, le-div_iff_mul-le, div-mul-le_self, lt-div-mul-add}
use native.Mathlib.Omega.{arith}
use native.Mathlib.Decide.{dec_lt, ℕ_discrete}
use Rattle.cutter_rules.specs.Schedule.{Schedule, Holds, Divides, Equal, schedule_of}

-- ---- any counts

module _ {T : ℕ} {s : Schedule} (d : Divides T s) where
  -- a packet ends before a later one begins
  pub apart : (j k : ℕ) → j < k → k < s.packets → s.from j + s.count j ≤ s.from k
  apart j zero l m = absurd (omega arith)
  apart j (suc k) l m = elim (ℕ_discrete j k) [
    | yes e ↦ rw e (omega (arith, d.next k m))
    | no n ↦ omega (arith, apart j k (omega arith) (omega arith), d.next k m)
  ]

  pub from_rises : (j k : ℕ) → j ≤ k → k < s.packets → s.from j ≤ s.from k
  from_rises j k l m = elim (dec_lt j k) [
    | yes u ↦ omega (arith, apart j k u m)
    | no u ↦ let e : j ≡ k = omega arith in rw e (le_of_eq refl)
  ]

  pub within_track : (k : ℕ) → k < s.packets → s.from k + s.count k ≤ T
  within_track k l = elim (ℕ_discrete (suc k) s.packets) [
    | yes e ↦ le_of_eq (d.last k e)
    | no n ↦ omega (arith, apart k (s.packets - 1) (omega arith) (omega arith), d.last (s.packets - 1) (omega arith))
  ]

  held_up_to : (x k : ℕ) → k < s.packets → x < s.from k + s.count k → (j : ℕ) × Holds s j x
  held_up_to x zero l m = (0, record { below = l; begins = omega (arith, d.start); ends = m })
  held_up_to x (suc k) l m = elim (dec_lt x (s.from (suc k))) [
    | yes b ↦ held_up_to x k (omega arith) (omega (arith, d.next k l))
    | no b ↦ (suc k, record { below = l; begins = omega arith; ends = m })
  ]

  -- every frame lies in a packet, and in that alone
  pub held_by : (x : ℕ) → x < T → (k : ℕ) × Holds s k x
  held_by x h = elim (ℕ_discrete s.packets 0) [
    | yes z ↦ absurd (omega (arith, d.none z))
    | no n ↦ held_up_to x (s.packets - 1) (omega arith) (omega (arith, d.last (s.packets - 1) (omega arith)))
  ]

  pub held_once : (x j k : ℕ) → Holds s j x → Holds s k x → j ≡ k
  held_once x j k a b = elim (dec_lt j k) [
    | yes l ↦ absurd (omega (arith, apart j k l b.below, a.ends, b.begins))
    | no l ↦ elim (dec_lt k j) [
      | yes m ↦ absurd (omega (arith, apart k j m a.below, b.ends, a.begins))
      | no m ↦ omega arith
    ]
  ]

  -- a packet holds frames of the track alone
  pub held_within : (x k : ℕ) → Holds s k x → x < T
  held_within x k h = omega (arith, within_track k h.below, h.ends)

  -- it is known which packet holds a number, if one does
  pub held_known : (x : ℕ) → ((k : ℕ) × Holds s k x) ⊎ ((k : ℕ) → Holds s k x → ⊥)
  held_known x = elim (dec_lt x T) [ yes l ↦ inl (held_by x l) | no n ↦ inr (λ k h. n (held_within x k h)) ]

-- ---- equal counts

-- a track of T frames at N
module _ (T N : ℕ) (some : 0 < N) where
  pub packet_exactly : (k : ℕ) → k < (schedule_of T N).packets ↔ k * N < T
  packet_exactly k =
      let d = le-div_iff_mul-le {k = N} {x = suc k} {y = T + (N - 1)} some in
      let m = suc-mul k N in
      ((λ h. omega (arith, d.0 h)), (λ h. d.1 (omega arith)))

  none_after : (k : ℕ) → (schedule_of T N).packets ≤ k → T ≤ k * N
  none_after k l = elim (dec_lt (k * N) T) [ yes g ↦ absurd (omega (arith, (packet_exactly k).1 g)) | no g ↦ omega arith ]

  pub equalled : Equal N (schedule_of T N)
  equalled = record {
    from_is = λ k l. refl;
    full = λ k l. omega (arith, (packet_exactly (suc k)).0 l, suc-mul k N);
    no_larger = λ k l. omega arith;
  }

  pub divided : Divides T (schedule_of T N)
  divided = record {
    none = λ z. omega (arith, none_after 0 (omega arith), zero-mul N);
    start = zero-mul N;
    some = λ k l. omega (arith, (packet_exactly k).0 l);
    next = λ k l. omega (arith, (packet_exactly (suc k)).0 l, suc-mul k N);
    last = λ k e. omega (arith, (packet_exactly k).0 (omega arith), suc-mul k N, none_after (suc k) (omega arith));
  }

  -- frame x lies in packet x / N
  pub held_at : (x : ℕ) → x < T → Holds (schedule_of T N) (x / N) x
  held_at x h =
      let a = div-mul-le_self x N in
      let b = lt-div-mul-add {a = x} some in
      record { below = (packet_exactly (x / N)).1 (omega arith); begins = a; ends = omega arith }
