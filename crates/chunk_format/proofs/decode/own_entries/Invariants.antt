use Rattle.chunk_format.proofs.ReadLaws.{Taken}
use Rattle.chunk_format.proofs.decode.own_entries.Given as goal

abbrev pub invariant-entries : goal.invariant-entries
invariant-entries l = Taken l.payload l._done l.at l.row
