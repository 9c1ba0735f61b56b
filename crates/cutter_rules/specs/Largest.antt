-- The largest N (document 01, "Numbers the bench sees").
use Rattle.std.specs.Prelude.{ℕ, ◌*◌, ◌/◌, min, not, [], ◌∷◌}
use Rattle.lists.specs.Tables.{choose, any, outside}
use Rattle.answers.specs.declared.Made.TheVariants.{Done, Form}
use Rattle.formats.specs.Formats.{may_send, size_at}
use Rattle.wire_rules.specs.Header.{data_most}
use Rattle.cutter_rules.specs.declared.Largest.{Largest}

-- the lesser of 256 and 1,436 divided by the frame's bytes, rounded down
abbrev pub largest_frames : ℕ → ℕ → ℕ
largest_frames format channels = min 256 (data_most / (channels * size_at format))

-- 20 and zero for a type that may not be sent or channels outside 1 to 256
unfoldable pub largest_of : ℕ → ℕ → Largest
largest_of format channels =
    choose (any (not (may_send format) ∷ outside 256 channels ∷ []))
    (record { answer = Form; frames = 0 })
    (record { answer = Done; frames = largest_frames format channels })
