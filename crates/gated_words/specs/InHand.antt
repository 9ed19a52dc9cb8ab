-- What a program has in hand of a file of gated pairs.
use Rattle.std.specs.Prelude.{ℕ, Bool, List}
use Rattle.disk_calls.specs.declared.file_id.FileId.{FileId}

-- the file, its pairs, and whether each image of the file is known to have just these
pub record InHand : Type 0 where
  pub id : FileId
  pub pairs : List (ℕ × ℕ)
  pub sure : Bool
