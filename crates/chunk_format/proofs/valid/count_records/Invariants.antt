use Rattle.std.proofs.Common.{◌≡◌, ◌≤◌, ◌*◌, take}
use Rattle.chunk_format.specs.Chunks.{records_of}
use Rattle.chunk_format.proofs.valid.count_records.Given as goal

abbrev pub invariant-loop-entry : goal.invariant-loop-entry
invariant-loop-entry l = record {
  total : l.total ≡ records_of (take l.entry-index l.entries);
  small : l.total ≤ 65535 * l.entry-index;
}
