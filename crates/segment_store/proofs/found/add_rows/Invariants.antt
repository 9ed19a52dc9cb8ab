use Rattle.std.proofs.Common.{take}
use Rattle.segment_pairs.specs.Log.{Chain}
use Rattle.segment_store.proofs.RecoveryRows.{RowsTo}
use Rattle.segment_store.proofs.found.add_rows.Given as goal

abbrev pub invariant-loop-chunk : goal.invariant-loop-chunk
invariant-loop-chunk l = Chain 8 l.fn.number l.chunks → RowsTo l.fn.number l.nth l.place l.initial.rows.items l.rows.items (take l.chunk-index l.chunks)
