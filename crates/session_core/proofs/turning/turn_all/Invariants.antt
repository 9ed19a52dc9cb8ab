use Rattle.session_core.proofs.Leading.{TurnsSo}
use Rattle.session_core.proofs.turning.turn_all.Given as goal

abbrev pub invariant-turns : goal.invariant-turns
invariant-turns g l = record {
  so : TurnsSo g.H.Hub.meaning 256 l.fn.tables l.fn.out l.count l.tables l.out l.fn.hub l.hub;
  later : g.H.Hub.meaning.seen.later l.fn.hub l.hub;
}
