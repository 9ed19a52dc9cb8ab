use Rattle.std.proofs.Common.{◌≤◌, ◌-◌, ℕ, List, Option, None}
use Rattle.osiris_audit.specs.Windows.{most_bytes}
use Rattle.osiris_audit.specs.Steps.{Far}
use Rattle.osiris_audit.proofs.inspecting.read_records.Given as goal

abbrev pub invariant-records : goal.invariant-records
invariant-records g l = record {
  far : (s0 i0 w0 : Option (List ℕ)) → Far s0 (g.S.Source.left l.fn.segment) i0 (g.T.Source.left l.fn.index) w0 (g.K.Sink.written l.fn.out) l.fn.segment_window l.fn.index_window None
      → Far s0 (g.S.Source.left l.segment) i0 (g.T.Source.left l.index) w0 (g.K.Sink.written l.out) l.segment_window l.index_window l.end;
  later : g.S.Source.faults l.fn.segment ≤ g.S.Source.faults l.segment;
  index_later : g.T.Source.faults l.fn.index ≤ g.T.Source.faults l.index;
  out_later : g.K.Sink.faults l.fn.out ≤ g.K.Sink.faults l.out;
}

abbrev pub decreases-records : goal.decreases-records
decreases-records g l = most_bytes - l.index_window.place
