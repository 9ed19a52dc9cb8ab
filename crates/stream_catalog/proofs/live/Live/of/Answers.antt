use Rattle.std.proofs.Common.{arith}
use Rattle.stream_catalog.proofs.Numbers.{live_step, live_free}
use Rattle.stream_catalog.proofs.live.Live.of.Goals as goal

pub push_stream-requires : goal.push_stream-requires
push_stream-requires c = live_free c.args.names.now c.loop-index.index c.at.result.now c.loop-index.live c.requires (omega (arith, c.loop-index-test.true, c.len-index-end.ensures)) c.at.ensures c.loop-index.invariant

pub loop-index-preserved : goal.loop-index-preserved
loop-index-preserved c = live_step c.args.names.now.list c.loop-index.index c.at.result.now c.loop-index.live _ _ (omega (arith, c.loop-index-test.true, c.len-index-end.ensures)) c.at.ensures c.loop-index.invariant c.in_ok-push_stream.ensures.ok
