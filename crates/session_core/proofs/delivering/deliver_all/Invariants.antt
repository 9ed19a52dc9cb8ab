use Rattle.session_core.proofs.Leading.{SlotsSo}
use Rattle.session_core.proofs.delivering.deliver_all.Given as goal

abbrev pub invariant-ids : goal.invariant-ids
invariant-ids g l = record {
  so : SlotsSo g.H.Hub.meaning 256 l.fn.tables l.fn.out l.id l.tables l.out l.fn.hub l.hub;
  later : g.H.Hub.meaning.seen.later l.fn.hub l.hub;
}
