use Rattle.std.proofs.Common.{◌≡◌, take, map}
use Rattle.offer_chunks.specs.Taken.{sent_entry}
use Rattle.offer_chunks.proofs.copies.copy_entries.Given as goal

abbrev pub invariant-items : goal.invariant-items
invariant-items l = l.out ≡ map sent_entry (take l.item-index l.items)
