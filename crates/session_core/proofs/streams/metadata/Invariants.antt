use Rattle.session_core.proofs.Asking.{AskedSo}
use Rattle.session_core.proofs.streams.metadata.Given as goal

abbrev pub invariant-names : goal.invariant-names
invariant-names g l = record {
  so : AskedSo g.H.Hub.meaning l.fn.tables l.fn.corr l.fn.names l.name-index l.told l.fn.hub l.hub;
  later : g.H.Hub.meaning.seen.later l.fn.hub l.hub;
}
