use Rattle.std.proofs.Common.{◌≡◌}
use Rattle.session_core.proofs.Leading.{StreamsSo}
use Rattle.session_core.proofs.ending.end_streams.Given as goal

abbrev pub invariant-streams : goal.invariant-streams
invariant-streams g l = record {
  so : StreamsSo g.H.Hub.meaning l.fn.tables l.fn.out l.place l.tables l.out l.fn.hub l.hub;
  same : l.tables.streams ≡ l.fn.tables.streams;
  later : g.H.Hub.meaning.seen.later l.fn.hub l.hub;
}
