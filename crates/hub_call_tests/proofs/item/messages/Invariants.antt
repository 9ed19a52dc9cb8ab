use Rattle.std.specs.List.{AllByRecursion}
use Rattle.hub_terms.specs.Meaning.{HasSpelling}
use Rattle.hub_call_tests.proofs.item.messages.Given as goal

abbrev pub invariant-loop : goal.invariant-loop
invariant-loop l = AllByRecursion HasSpelling l.row
