use Rattle.chunk_apart.proofs.TakeLaws.{TakenSo}
use Rattle.chunk_apart.proofs.take.take_entries.Given as goal

abbrev pub invariant-entries : goal.invariant-entries
invariant-entries l = TakenSo l.payload l._done l.at l.records l.entries
