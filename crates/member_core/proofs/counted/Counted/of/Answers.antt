use Rattle.member_core.proofs.CountLaws.{counts_more, counts_all}
use Rattle.member_core.proofs.counted.Counted.of.Goals as goal

pub loop-chunk-preserved : goal.loop-chunk-preserved
loop-chunk-preserved c =
    counts_more c.args.chunks.now c.loop-chunk.chunk-index c.chunk-item.result c.loop-chunk.counted.bytes c.loop-chunk.counted.since c.in_ok-counted.counted.bytes c.in_ok-counted.counted.since c.loop-chunk-test.true c.chunk-item.is
    c.loop-chunk.invariant c.in_ok-counted.ensures.bytes c.in_ok-counted.ensures.since

pub returns : goal.returns
returns c = counts_all c.args.chunks.now c.loop-chunk.chunk-index c.loop-chunk.counted.bytes c.loop-chunk.counted.since c.loop-chunk-test.false c.loop-chunk.invariant
