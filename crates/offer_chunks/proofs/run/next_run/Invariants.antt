use Rattle.std.proofs.Common.{length}
use Rattle.offer_chunks.specs.Taken.{items_of}
use Rattle.offer_chunks.proofs.Walks.{Walk}
use Rattle.offer_chunks.proofs.run.next_run.Given as goal

abbrev pub invariant-items : goal.invariant-items
invariant-items l = Walk l.name l.fn.greatest l.most (items_of l.items) l.entries l.trailer l.last l.left (items_of l.rest)

abbrev pub decreases-items : goal.decreases-items
decreases-items l = length l.rest
