-- The bytes that no frame was taken from yet, and what stands in front of them.
use Rattle.std.specs.Prelude.{◌≡◌, ◌⊎◌, ℕ, ◌+◌, ◌≤◌, ◌<◌, List, ◌++◌, length, drop}
use Rattle.frame_wire.specs.Frames.{frame, size_of, IsBody, IsTooLarge}
use Rattle.command_reader.specs.declared.pending.Front.{Front}
use Rattle.command_reader.specs.declared.pending.Front.TheVariants.{Frame, TooLarge, Short}

-- the greatest size of a body, and the bytes
pub record Unread : Type 0 where
  pub max : ℕ
  pub rest : List ℕ

-- With fewer than so many bytes, whatever they are behind these, no whole frame stands in front, and no size above the
-- greatest.
abbrev pub Wants : ℕ → List ℕ → ℕ → Type 0
Wants max rest wanted = (wanted ≤ 4) ⊎ ((4 ≤ length rest) × (size_of rest ≤ max) × (wanted ≤ 4 + size_of rest))

-- what stands in front of bytes
abbrev pub Shows : ℕ → List ℕ → Front → Type 0
Shows max rest (Frame body) = (rest ≡ frame body.now ++ drop (4 + length body.now) rest) × IsBody max body.now
Shows max rest (TooLarge size) = IsTooLarge max rest size
Shows max rest (Short wanted) = (length rest < wanted) × Wants max rest wanted
