-- What a receipt tells.
use Rattle.std.specs.Prelude.{ℕ}

-- the stream and the member whose job was done, 0 for the coordinator, and the number of the job
pub record JobDone : Type 0 where
  pub stream : ℕ
  pub member : ℕ
  pub number : ℕ
