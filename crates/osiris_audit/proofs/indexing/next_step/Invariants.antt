use Rattle.std.proofs.Common.{◌≤◌, ◌-◌, true, Ok}
use Rattle.osiris_audit.specs.Windows.{Grew, most_bytes, size_read}
use Rattle.osiris_audit.proofs.indexing.next_step.Given as goal

abbrev pub invariant-pieces : goal.invariant-pieces
invariant-pieces g l = record {
  far : Grew 0 (Ok true) (g.S.Source.left l.fn.source) (g.S.Source.left l.source) l.fn.window l.window;
  later : g.S.Source.faults l.fn.source ≤ g.S.Source.faults l.source;
}

abbrev pub decreases-pieces : goal.decreases-pieces
decreases-pieces g l = most_bytes - size_read l.window
