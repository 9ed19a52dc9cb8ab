use Rattle.std.proofs.Common.{◌≡◌, drop}
use Rattle.chunk_view.specs.Shown.{shown_entries}
use Rattle.chunk_view.proofs.view.ChunkView.entry.Given as goal

abbrev pub invariant-entries : goal.invariant-entries
invariant-entries l = l.views ≡ drop l._done (shown_entries l.self)
