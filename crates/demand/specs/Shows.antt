-- What a track shows of the packets accepted (demand 3): the sender's frames where the packet holding them was accepted, silence elsewhere.
use Rattle.std.specs.Prelude.{ℕ, ◌+◌, ◌<◌, ◌≡◌}
use Rattle.demand.specs.Took.{Took}

-- a sender whose packet k begins with frame from k, and which packet holds which frame; a track of R records
module _ {Frame : Type 0} (silence : Frame) (source : ℕ → Frame) (from : ℕ → ℕ) (holds : ℕ → ℕ → Type 0) (R : ℕ) (A : Took) where
  -- packet k was accepted first: record i is the sender's frame from k + i, wherever the packet holding that frame was accepted
  pub record ShowsFrom (k : ℕ) (track : ℕ → Frame) : Type 0 where
    pub accepted : (i j : ℕ) → i < R → A.taken j → holds j (from k + i) → track i ≡ source (from k + i)
    pub other : (i : ℕ) → i < R → ((j : ℕ) → A.taken j → holds j (from k + i) → ⊥) → track i ≡ silence

  -- silence until a packet is accepted, and then by the one accepted first
  pub record Shows (track : ℕ → Frame) : Type 0 where
    pub none : ((j : ℕ) → A.taken j → ⊥) → (i : ℕ) → i < R → track i ≡ silence
    pub begun : (k : ℕ) → A.earliest k → ShowsFrom k track
