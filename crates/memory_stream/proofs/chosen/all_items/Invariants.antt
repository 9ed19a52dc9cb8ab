use Rattle.std.proofs.Common.{◌≡◌, ◌++◌, length}
use Rattle.memory_stream.proofs.chosen.all_items.Given as goal

abbrev pub invariant-items : goal.invariant-items
invariant-items l = l.out ++ l.rest ≡ l.items

abbrev pub decreases-items : goal.decreases-items
decreases-items l = length l.rest
