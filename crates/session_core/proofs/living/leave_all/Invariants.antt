use Rattle.session_core.proofs.Asking.{LeftSo}
use Rattle.session_core.proofs.living.leave_all.Given as goal

abbrev pub invariant-slots : goal.invariant-slots
invariant-slots g l = record {
  so : LeftSo g.H.Hub.meaning l.fn.tables l.fn.slots l.slot-index l.fn.hub l.hub;
  later : g.H.Hub.meaning.seen.later l.fn.hub l.hub;
}
