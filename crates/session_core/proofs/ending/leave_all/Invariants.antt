use Rattle.session_core.proofs.Leading.{LeftSo}
use Rattle.session_core.proofs.ending.leave_all.Given as goal

abbrev pub invariant-slots : goal.invariant-slots
invariant-slots g l = record {
  so : LeftSo g.H.Hub.meaning l.fn.tables l.fn.stream l.fn.running l.fn.slots l.slot-index l.fn.hub l.hub;
  later : g.H.Hub.meaning.seen.later l.fn.hub l.hub;
}
