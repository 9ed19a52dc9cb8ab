use Rattle.std.proofs.Common.{◌≡◌, ◌≤◌, ◌*◌, take, length}
use Rattle.chunk_format.specs.Chunks.{entries_bytes}
use Rattle.chunk_format.proofs.valid.payload_len.Given as goal

abbrev pub invariant-loop-entry : goal.invariant-loop-entry
invariant-loop-entry l = record {
  total : l.total ≡ length (entries_bytes (take l.entry-index l.entries));
  small : l.total ≤ 8589934592 * l.entry-index;
}
