use Rattle.std.proofs.Common.{◌≡◌, ◌++◌, take, replicate}
use Rattle.chunk_format.specs.Chunks.{entries_bytes}
use Rattle.chunk_format.proofs.encode.encode_parts.Given as goal

abbrev pub invariant-loop-entry : goal.invariant-loop-entry
invariant-loop-entry l = l.bytes.items ≡ replicate 48 0 ++ entries_bytes (take l.entry-index l.fn.chunk.entries)
