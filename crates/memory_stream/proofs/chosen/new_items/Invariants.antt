use Rattle.std.proofs.Common.{◌≡◌, ◌++◌, length}
use Rattle.memory_stream.specs.Chosen.{new_items}
use Rattle.memory_stream.proofs.chosen.new_items.Given as goal

abbrev pub invariant-items : goal.invariant-items
invariant-items l = l.out ++ new_items l.last l.rest ≡ new_items l.fn.greatest l.items

abbrev pub decreases-items : goal.decreases-items
decreases-items l = length l.rest
