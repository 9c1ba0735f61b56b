-- A type that may not be sent, channels out of range, or the number.
use Rattle.std.proofs.Common.{◌≡◌, sym, ◌∙◌, ℕ, Bool, true, false}
use Rattle.lists.specs.Tables.{outside}
use Rattle.answers.specs.declared.Made.TheVariants.{Done, Form}
use Rattle.formats.specs.Formats.{may_send}
use Rattle.cutter_rules.specs.Largest.{largest_frames, largest_of}
use Rattle.cutter.proofs.largest.largest.Goals as goal
use Rattle.cutter.proofs.largest.largest.Goals.{then-not-may_send-via-then-not-may_send, then-not-may_send-via-else-not-may_send+then-is_outside}

module _ (format channels : ℕ) (sent : Bool) (e : sent ≡ may_send format) where
  unsendable : sent ≡ false → record { answer = Form; frames = 0 } ≡ largest_of format channels
  unfolding largest_of
  unsendable h = rw (sym e ∙ h)

  module _ (h : sent ≡ true) (out : Bool) (p : out ≡ outside 256 channels) where
    too_many : out ≡ true → record { answer = Form; frames = 0 } ≡ largest_of format channels
    unfolding largest_of
    too_many t = rw (sym e ∙ h, sym p ∙ t)

    allowed : (n : ℕ) → out ≡ false → n ≡ largest_frames format channels → record { answer = Done; frames = n } ≡ largest_of format channels
    unfolding largest_of
    allowed n t q = rw (sym e ∙ h, sym p ∙ t, q)

pub returns-then-not-may_send : goal.returns-then-not-may_send
returns-then-not-may_send c =
    elim c.then-not-may_send.branch [
      | then-not-may_send-via-then-not-may_send w ↦ unsendable _ _ _ c.may_send.ensures w.if-not-may_send.true
      | then-not-may_send-via-else-not-may_send+then-is_outside w ↦
          too_many _ _ _ c.may_send.ensures w.if-not-may_send.false _ w.is_outside.ensures w.if-is_outside.true
    ]

pub returns : goal.returns
returns c = allowed _ _ _ c.may_send.ensures c.if-not-may_send.false _ c.is_outside.ensures _ c.if-is_outside.false c.frames.ensures
