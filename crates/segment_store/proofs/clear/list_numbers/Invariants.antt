use Rattle.std.proofs.Common.{take}
use Rattle.segment_store.specs.Recovery.{HasNumbers}
use Rattle.segment_store.proofs.clear.list_numbers.Given as goal

abbrev pub invariant-loop-id : goal.invariant-loop-id
invariant-loop-id l = HasNumbers (take l.id-index l.names) l.numbers.items
