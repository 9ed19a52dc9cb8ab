use Rattle.std.proofs.Common.{◌≡◌, replicate}
use Rattle.committed_view.specs.Published.{new_pass}
use Rattle.committed_view.proofs.writer.open_view.Given as goal

abbrev pub invariant-loop : goal.invariant-loop
invariant-loop g l = l.passes ≡ replicate l.counter new_pass
