use Rattle.std.proofs.Common.{◌≡◌}
use Rattle.session_core.proofs.Leading.{SendSo}
use Rattle.session_core.proofs.delivering.send.Given as goal

abbrev pub invariant-chunks : goal.invariant-chunks
invariant-chunks g l = record {
  so : SendSo g.H.Hub.meaning l.fn.tables l.id l.fn.subscription l.fn.out l.left l.out l.fn.hub l.hub;
  same : l.tables ≡ l.fn.tables;
  later : g.H.Hub.meaning.seen.later l.fn.hub l.hub;
}

abbrev pub decreases-chunks : goal.decreases-chunks
decreases-chunks g l = l.left.credit
