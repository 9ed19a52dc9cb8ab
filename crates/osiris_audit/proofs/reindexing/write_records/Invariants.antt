use Rattle.std.proofs.Common.{◌≤◌, ◌-◌, ℕ, List, Option, None}
use Rattle.osiris_audit.specs.Windows.{most_bytes}
use Rattle.osiris_audit.specs.Indexing.{Runs}
use Rattle.osiris_audit.proofs.reindexing.write_records.Given as goal

abbrev pub invariant-chunks : goal.invariant-chunks
invariant-chunks g l = record {
  runs : (s0 w0 : Option (List ℕ)) → Runs s0 (g.S.Source.left l.fn.source) w0 (g.K.Sink.written l.fn.out) l.fn.window None → Runs s0 (g.S.Source.left l.source) w0 (g.K.Sink.written l.out) l.window l.end;
  later : g.S.Source.faults l.fn.source ≤ g.S.Source.faults l.source;
  out_later : g.K.Sink.faults l.fn.out ≤ g.K.Sink.faults l.out;
}

abbrev pub decreases-chunks : goal.decreases-chunks
decreases-chunks g l = most_bytes - l.window.place
