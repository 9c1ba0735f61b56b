-- All packets of a schedule: their data one after the other are the track's frames, and no two of them are alike.
use mathlib.Core.Path.{◌≡◌, refl, sym, ap, ◌∙◌}
use mathlib.Core.List.{List, [], ◌++◌}
use Prim.Native.Nat.{ℕ, zero, suc, ◌+◌, ◌-◌, ◌%◌, ◌^◌, ◌≤◌, ◌<◌}
use native.Mathlib.Nat.{zero-add, mod-lt}
use native.Mathlib.Decide.{ℕ_discrete}
use native.Mathlib.Omega.{arith}
use lib.Dec.{lit<}
use lib.ListN.{length}
use Rattle.lists.specs.Lists.{up_to}
use Rattle.lists.proofs.Lists.{up_to_more}
use Rattle.formats.specs.declared.Format.{Format}
use Rattle.formats.specs.Formats.{format_of}
use Rattle.wire_rules.specs.declared.Header.{Header}
use Rattle.wire_rules.specs.Header.{counter_of}
use Rattle.wire_rules.proofs.RoundTrip.{counter_back}
use Rattle.track_rules.specs.Records.{records_held, taken_of}
use Rattle.cutter_rules.specs.Schedule.{Schedule, Divides}
use Rattle.cutter_rules.specs.Cut.{cut_schedule, packet_header, packet_samples, packet_by}
use Rattle.cutter_rules.proofs.Scheduling.{divided}

-- ---- the data, one after the other

module _ (track : List ℕ) (channels : ℕ) where
  taken_more : (f : Format) (m n : ℕ) → taken_of f track 0 (m + n) channels ≡ taken_of f track 0 m channels ++ taken_of f track m n channels
  unfolding taken_of
  taken_more f m n = up_to_more m n _ ∙ simp zero-add

  taken_none : (f : Format) → taken_of f track 0 0 channels ≡ []
  unfolding taken_of up_to
  taken_none f = refl

  module _ (i : Format) (T : ℕ) (s : Schedule) (d : Divides T s) where
    abbrev part : ℕ → List ℕ
    part k = taken_of i track (s.from k) (s.count k) channels

    so_far : (j : ℕ) → j < s.packets → up_to j part ≡ taken_of i track 0 (s.from j) channels
    unfolding up_to
    so_far zero l = rw d.start (sym (taken_none i))
    so_far (suc j) l = rw (so_far j (omega arith), d.next j l) (sym (taken_more i (s.from j) (s.count j)))

    up_to_last : (k n : ℕ) → n ≡ suc k → n ≡ s.packets → up_to n part ≡ taken_of i track 0 T channels
    unfolding up_to
    up_to_last k n p e = rw (p, so_far k (omega arith), ← d.last k (sym p ∙ e)) (sym (taken_more i (s.from k) (s.count k)))

    joined : up_to s.packets part ≡ taken_of i track 0 T channels
    unfolding up_to
    joined = elim (ℕ_discrete s.packets 0) [
      | yes z ↦ rw (z, d.none z) (sym (taken_none i))
      | no n ↦ up_to_last (s.packets - 1) s.packets (omega arith) refl
    ]

-- none missing and none twice, by any schedule that divides the track
pub samples_joined : (h : Header) (s : Schedule) (track : List ℕ) → Divides (records_held track) s
    → up_to s.packets (packet_samples h s track) ≡ taken_of (format_of h.format) track 0 (records_held track) h.channels
samples_joined h s track d = joined track h.channels (format_of h.format) (records_held track) s d

pub packets_joined : (h : Header) (track : List ℕ) → 1 ≤ h.frames
    → up_to (cut_schedule h track).packets (packet_samples h (cut_schedule h track) track) ≡ taken_of (format_of h.format) track 0 (records_held track) h.channels
packets_joined h track some = samples_joined h (cut_schedule h track) track (divided (records_held track) h.frames some)

-- ---- no two alike

module _ (h : Header) (sixteen : length h.name ≡ 16) (s : Schedule) (track : List ℕ) where
  pub cut_counter : (k : ℕ) → counter_of (packet_by h s track k) ≡ (h.counter + k) % 2 ^ 32
  unfolding packet_by
  cut_counter k = counter_back (packet_header h s k) sixteen (packet_samples h s track k) (mod-lt (h.counter + k) (lit< tt))

  pub packets_differ : (j k : ℕ) → j < 2 ^ 32 → k < 2 ^ 32 → packet_by h s track j ≡ packet_by h s track k → j ≡ k
  packets_differ j k a b e =
      let c : (h.counter + j) % 2 ^ 32 ≡ (h.counter + k) % 2 ^ 32 = sym (cut_counter j) ∙ ap counter_of e ∙ cut_counter k in
      omega arith
