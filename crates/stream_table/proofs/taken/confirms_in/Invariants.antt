use Rattle.stream_table.proofs.Hands.{HandsSoFar}
use Rattle.stream_table.proofs.taken.confirms_in.Given as goal

abbrev pub invariant-streams : goal.invariant-streams
invariant-streams l = HandsSoFar l.session l.i l.fn.streams l.streams l.out
