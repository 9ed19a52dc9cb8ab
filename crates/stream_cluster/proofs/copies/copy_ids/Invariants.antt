use Rattle.std.proofs.Common.{◌≡◌, take, map}
use Rattle.stream_terms.specs.Steps.{item_id}
use Rattle.stream_cluster.proofs.copies.copy_ids.Given as goal

abbrev pub invariant-items : goal.invariant-items
invariant-items l = l.out ≡ map item_id (take l.item-index l.items)
