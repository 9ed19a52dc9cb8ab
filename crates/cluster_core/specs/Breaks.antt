-- Where a log is broken.
use Rattle.std.specs.Prelude.{◌≡◌, ◌≢◌, ℕ, ◌<◌, ◌≤◌, ◌⊎◌, List, ◌∷◌, ◌++◌}
use Rattle.chunk_format.specs.declared.chunk.Chunk.{Chunk}
use Rattle.chunk_format.specs.Logs.{IsLog, end_of, last_epoch}

-- a chunk doesn't begin where those before it end, or its epoch is below theirs or above the promise
abbrev pub Misfits : List Chunk → ℕ → Chunk → Type 0
Misfits front promise c = (c.first ≢ end_of front) ⊎ ((c.epoch < last_epoch front) ⊎ (promise < c.epoch))

-- the first such chunk begins at an offset
pub record Breaks (chunks : List Chunk) (promise offset : ℕ) : Type 0 where
  pub front : List Chunk
  pub chunk : Chunk
  pub rest : List Chunk
  pub parts : chunks ≡ front ++ chunk ∷ rest
  pub whole : IsLog front
  pub promised : last_epoch front ≤ promise
  pub misfits : Misfits front promise chunk
  pub begins : chunk.first ≡ offset
