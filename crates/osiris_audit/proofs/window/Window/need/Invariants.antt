use Rattle.std.proofs.Common.{◌≤◌, ◌-◌, length, true, Ok}
use Rattle.osiris_audit.specs.Windows.{Grew}
use Rattle.osiris_audit.proofs.window.Window.need.Given as goal

abbrev pub invariant-pieces : goal.invariant-pieces
invariant-pieces g l = record {
  far : Grew 0 (Ok true) (g.S.Source.left l.fn.source) (g.S.Source.left l.source) l.fn.self l.self;
  later : g.S.Source.faults l.fn.source ≤ g.S.Source.faults l.source;
}

abbrev pub decreases-pieces : goal.decreases-pieces
decreases-pieces g l = l.len - length l.self.rest
