use Rattle.std.proofs.Common.{◌≡◌, take, map}
use Rattle.offer_chunks.specs.Taken.{sent_id}
use Rattle.offer_chunks.proofs.copies.copy_ids.Given as goal

abbrev pub invariant-items : goal.invariant-items
invariant-items l = l.out ≡ map sent_id (take l.item-index l.items)
