use Rattle.std.proofs.Common.{take}
use Rattle.std.specs.List.{All}
use Rattle.chunk_format.specs.Chunks.{IsEntry, HasRecords}
use Rattle.chunk_format.proofs.valid.are_entries.Given as goal

abbrev pub invariant-loop-entry : goal.invariant-loop-entry
invariant-loop-entry l = record {
  fits : All IsEntry (take l.entry-index l.entries);
  recorded : All HasRecords (take l.entry-index l.entries);
}
