-- The largest N: the most frames that 256 and 1,436 bytes allow.
use mathlib.Core.Path.{◌≡◌, refl, sym, ◌∙◌}
use mathlib.Core.Logic.{◌↔◌}
use mathlib.Core.Bool.{Bool, false, not}
use mathlib.Core.List.{[], ◌∷◌}
use Prim.Native.Nat.{ℕ, ◌*◌, ◌≤◌, ◌<◌}
use native.Mathlib.Nat.{le-div_iff_mul-le, mul-le-mul, mul_assoc}
use native.Mathlib.Omega.{arith}
use borrow.Author.Tests.{not-false}
use Rattle.lists.specs.Tables.{choose, any, outside}
use Rattle.lists.proofs.Tables.{by_test, true_false, none_holds, inside_by, by_inside}
use Rattle.answers.specs.declared.Made.TheVariants.{Done, Form}
use Rattle.formats.specs.Formats.{MaySend, may_send, size_at}
use Rattle.formats.proofs.Types.{sent_by, by_sent, sent_read, read_size}
use Rattle.wire_rules.specs.declared.Header.{Header}
use Rattle.wire_rules.specs.Header.{data_size, data_most}
use Rattle.wire_rules.specs.Write.{GoodForm}
use Rattle.cutter_rules.specs.declared.Largest.{Largest}
use Rattle.cutter_rules.specs.Schedule.{Schedule}
use Rattle.cutter_rules.specs.Largest.{largest_frames, largest_of}
use Rattle.cutter_rules.specs.Cut.{packet_header}

pub largest_exactly : (format channels n : ℕ) → 0 < channels * size_at format
    → n ≤ largest_frames format channels ↔ (n ≤ 256) × (n * (channels * size_at format) ≤ data_most)
largest_exactly format channels n h =
    let d = le-div_iff_mul-le {k = channels * size_at format} {x = n} {y = data_most} h in
    ((λ l. (omega arith, d.0 (omega arith))), (λ l. omega (arith, d.1 l.1)))

-- a frame of a header that can be sent has a byte at least
pub frame_some : (h : Header) → GoodForm h → 1 ≤ h.channels * size_at h.format
frame_some h g = mul-le-mul {n₁ = 1} {m₁ = 1} g.channels_few.0 (read_size h.format (sent_read h.format g.typed))

-- ---- a packet of 1 to the largest N frames, by any schedule

module _ (h : Header) (g : GoodForm h) (s : Schedule) (k : ℕ) (few : s.count k ≤ largest_frames h.format h.channels) where
  -- 21 is never answered
  pub never_big : data_size (packet_header h s k) ≤ data_most
  never_big =
      rw (mul_assoc (s.count k) h.channels (size_at h.format))
      ((largest_exactly h.format h.channels (s.count k) (frame_some h g)).0 few).1

  pub packet_formed : 1 ≤ s.count k → GoodForm (packet_header h s k)
  packet_formed some = record {
    rated = g.rated;
    typed = g.typed;
    frames_few = (some, ((largest_exactly h.format h.channels (s.count k) (frame_some h g)).0 few).0);
    channels_few = g.channels_few;
    named = g.named;
  }

-- ---- the answer

form_done : Form ≡ Done → ⊥
form_done p = let z : ◌≡◌ {A = ℕ} 0 1 = cc in omega arith

-- the answer is Done exactly for a type that may be sent and 1 to 256 channels; else it is 20 and zero
module _ (format channels : ℕ) where
  abbrev Allowed : Type 0
  Allowed = MaySend format × (1 ≤ channels) × (channels ≤ 256)

  abbrev refuses : Bool
  refuses = any (not (may_send format) ∷ outside 256 channels ∷ [])

  abbrev answered : Bool → Largest
  answered b = choose b (record { answer = Form; frames = 0 }) (record { answer = Done; frames = largest_frames format channels })

  allowed_by : refuses ≡ false → Allowed
  allowed_by e =
      let c = none_holds (not (may_send format) ∷ outside 256 channels ∷ []) e in
      let i = inside_by 256 channels c.1.0 in
      (sent_by _ (not-false _ c.0), i.0, i.1)

  by_allowed : Allowed → refuses ≡ false
  by_allowed a = rw (by_sent format a.0, by_inside 256 channels (a.1, a.2))

  pub largest_done_exactly : (largest_of format channels).answer ≡ Done ↔ Allowed
  unfolding largest_of
  largest_done_exactly = (
    by_test (λ b. (answered b).answer ≡ Done → Allowed) refuses (λ t e. absurd (form_done e)) (λ t e. allowed_by t),
    (λ a. rw (by_allowed a)),
  )

  pub largest_refused_exactly : (largest_of format channels).answer ≡ Form ↔ (Allowed → ⊥)
  unfolding largest_of
  largest_refused_exactly = (
    by_test (λ b. refuses ≡ b → (answered b).answer ≡ Form → Allowed → ⊥) refuses
        (λ t p e a. true_false (sym p ∙ by_allowed a)) (λ t p e a. form_done (sym e)) refl,
    (λ z. by_test (λ b. (answered b).answer ≡ Form) refuses (λ t. refl) (λ t. absurd (z (allowed_by t)))),
  )

  pub largest_gives : Allowed → largest_of format channels ≡ record { answer = Done; frames = largest_frames format channels }
  unfolding largest_of
  largest_gives a = rw (by_allowed a)

  pub largest_refused : (Allowed → ⊥) → largest_of format channels ≡ record { answer = Form; frames = 0 }
  unfolding largest_of
  largest_refused z =
      by_test (λ b. answered b ≡ record { answer = Form; frames = 0 }) refuses (λ t. refl) (λ t. absurd (z (allowed_by t)))
