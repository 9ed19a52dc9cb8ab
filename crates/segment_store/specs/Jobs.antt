-- What a job does to the log of a member.
use Rattle.std.specs.Prelude.{ℕ, List}
use Rattle.chunk_format.specs.declared.chunk.Chunk.{Chunk}
use Rattle.chunk_format.specs.Logs.{GoesOn}
use Rattle.epoch_coordinator.specs.MemberSteps.{cut_at}

-- what a crash in a cut at an offset may leave of a log: a beginning of it that begins with what the cut leaves
pub record Between (end : ℕ) (old log : List Chunk) : Type 0 where
  pub cut : GoesOn (cut_at end old) log
  pub front : GoesOn log old
