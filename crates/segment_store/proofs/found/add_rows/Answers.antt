use Rattle.std.proofs.Common.{refl, arith}
use Rattle.segment_store.proofs.RecoveryRows.{rows_more}
use Rattle.segment_store.proofs.found.add_rows.Goals as goal

pub loop-chunk-preserved : goal.loop-chunk-preserved
loop-chunk-preserved c = λ chain.
    rows_more c.args.number c.loop-chunk.nth c.loop-chunk.place c.loop-chunk.chunk-index _ c.row_of-row.result.after c.args.rows.now.items c.loop-chunk.rows.items c.push.new.self.items c.args.chunks.now c.chunk-item.result c.row_of-row.result
    c.loop-chunk-test.true c.chunk-item.is chain c.row_of-row.ensures.row c.in_ok-push.ensures.items refl (λ few. omega (arith, few, c.saturating_add-nth.ensures)) (c.loop-chunk.invariant chain)
