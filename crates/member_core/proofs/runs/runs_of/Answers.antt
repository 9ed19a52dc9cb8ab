use Rattle.member_core.proofs.RunLaws.{runs_more}
use Rattle.member_core.proofs.runs.runs_of.Goals as goal

pub loop-chunk-preserved : goal.loop-chunk-preserved
loop-chunk-preserved c =
    runs_more c.args.chunks.now c.loop-chunk.chunk-index c.chunk-item.result c.loop-chunk.runs.items c.add_run.new.runs.items c.run_of.result c.loop-chunk-test.true c.chunk-item.is c.run_of.ensures.epoch c.run_of.ensures.end
    c.loop-chunk.invariant c.in_ok-add_run.ensures.ok
