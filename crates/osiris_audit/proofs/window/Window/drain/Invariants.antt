use Rattle.std.proofs.Common.{◌≤◌, ◌-◌}
use Rattle.osiris_audit.specs.Windows.{Passes, most_bytes, size_read}
use Rattle.osiris_audit.proofs.window.Window.drain.Given as goal

abbrev pub invariant-pieces : goal.invariant-pieces
invariant-pieces g l = record {
  far : Passes (g.S.Source.left l.fn.source) (g.S.Source.left l.source) l.fn.self l.self;
  later : g.S.Source.faults l.fn.source ≤ g.S.Source.faults l.source;
}

abbrev pub decreases-pieces : goal.decreases-pieces
decreases-pieces g l = most_bytes - size_read l.self
