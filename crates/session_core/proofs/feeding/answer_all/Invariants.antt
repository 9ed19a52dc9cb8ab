use Rattle.std.proofs.Common.{length}
use Rattle.session_core.proofs.Answering.{SoFar}
use Rattle.session_core.proofs.feeding.answer_all.Given as goal

abbrev pub invariant-turns : goal.invariant-turns
invariant-turns g l = record {
  so : SoFar g.H.Hub.meaning l.fn.identity l.fn.now l.fn.reader.max l.fn.reader.rest l.fn.tables l.fn.out l.out l.tables l.reader l.fn.hub l.hub;
  later : g.H.Hub.meaning.seen.later l.fn.hub l.hub;
}

abbrev pub decreases-turns : goal.decreases-turns
decreases-turns g l = length l.reader.rest
