use Rattle.chunk_format.proofs.EntryLaws.{Walked}
use Rattle.chunk_format.proofs.check.walk_entries.Given as goal

abbrev pub invariant-entries : goal.invariant-entries
invariant-entries l = Walked l.payload l._done l.at l.total
