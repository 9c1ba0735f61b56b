-- Two samples of 16 bits joined in one word: channels side by side, or frames.
use mathlib.Core.Path.{◌≡◌, ◌∙◌}
use mathlib.Core.List.{List, ◌++◌}
use Prim.Native.Nat.{ℕ, ◌+◌, ◌*◌, ◌<◌}
use native.Mathlib.Nat.{add-zero}
use native.Mathlib.Omega.{arith}
use Rattle.lists.specs.Lists.{up_to}
use Rattle.lists.specs.Little.{bytes_of}
use Rattle.lists.proofs.Little.{bytes_joined}
use Rattle.formats.specs.Formats.{signed16}
use Rattle.records.specs.Frames.{sent_at, frame_out, frames_out, run_out}

pub two_halves : (a b r : ℕ) → a < 65536 → r ≡ a + b * 65536 → bytes_of 4 r ≡ bytes_of 2 a ++ bytes_of 2 b
two_halves a b r h e = rw e (bytes_joined 2 2 a b h)

module _ (t : List ℕ) (at : ℕ) where
  pub two_channels : (c a b r : ℕ) → a ≡ sent_at signed16 t at c → b ≡ sent_at signed16 t at (c + 1)
      → bytes_of 4 r ≡ bytes_of 2 a ++ bytes_of 2 b → bytes_of 4 r ≡ run_out signed16 t at c 2
  unfolding run_out up_to
  two_channels c a b r p q e = e ∙ rw (p, q, add-zero c)

  pub two_frames : (a b r : ℕ) → a ≡ sent_at signed16 t at 0 → b ≡ sent_at signed16 t (at + 24) 0
      → bytes_of 4 r ≡ bytes_of 2 a ++ bytes_of 2 b → bytes_of 4 r ≡ frames_out signed16 t at 24 2 1
  unfolding frames_out frame_out up_to
  two_frames a b r p q e =
      let i : at + 0 * 24 ≡ at = omega arith in
      let j : at + 1 * 24 ≡ at + 24 = omega arith in
      e ∙ rw (i, j, p, q)
