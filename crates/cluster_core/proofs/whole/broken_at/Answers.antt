use Rattle.cluster_core.proofs.Breaking.{breaks_at, so_far_at}
use Rattle.cluster_core.proofs.whole.broken_at.Goals as goal

pub returns-then-not-fits-clause-some : goal.returns-then-not-fits-clause-some
returns-then-not-fits-clause-some c =
    breaks_at c.args.chunks.now c.chunks.chunk-index c.args.promise c.chunks.end c.chunks.epoch c.chunk-item.result c.header-header.result.now c.fits.result c.chunks.invariant c.chunks-test.true c.chunk-item.is c.header-header.ensures.header c.fits.ensures c.if-not-fits.true

pub chunks-preserved : goal.chunks-preserved
chunks-preserved c =
    so_far_at c.args.chunks.now c.chunks.chunk-index c.args.promise c.chunks.end c.chunks.epoch c.chunk_end-end.result c.chunk-item.result c.header-header.result.now c.fits.result c.chunks.invariant c.chunks-test.true c.chunk-item.is c.header-header.ensures.is_chunk c.header-header.ensures.header c.fits.ensures
    c.if-not-fits.false c.chunk_end-end.ensures
