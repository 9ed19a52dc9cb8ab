-- What is said of a list of chunks for the statistics of a stream.
use Rattle.std.specs.Prelude.{ℕ, List, Option, None, option_map}
use Rattle.std.specs.List.{last_or}
use Rattle.chunk_format.specs.declared.chunk.Chunk.{Chunk}

-- the first offset of the last chunk
abbrev pub last_first : List Chunk → Option ℕ
last_first chunks = option_map (λ c. c.first) (last_or None chunks)
