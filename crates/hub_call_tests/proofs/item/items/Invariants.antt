use Rattle.std.specs.List.{AllByRecursion}
use Rattle.hub_terms.specs.Meaning.{HasSpelling}
use Rattle.hub_call_tests.proofs.item.items.Given as goal

abbrev pub invariant-loop-item : goal.invariant-loop-item
invariant-loop-item l = AllByRecursion HasSpelling l.row
