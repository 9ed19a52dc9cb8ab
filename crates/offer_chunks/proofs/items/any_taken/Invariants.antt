use Rattle.std.proofs.Common.{length}
use Rattle.offer_chunks.specs.Taken.{items_of}
use Rattle.offer_chunks.proofs.Walks.{Looked}
use Rattle.offer_chunks.proofs.items.any_taken.Given as goal

abbrev pub invariant-items : goal.invariant-items
invariant-items l = Looked l.name l.fn.greatest (items_of l.items) (items_of l.rest)

abbrev pub decreases-items : goal.decreases-items
decreases-items l = length l.rest
