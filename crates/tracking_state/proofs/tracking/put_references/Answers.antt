use Rattle.tracking_state.specs.Tracked.{sequence_entry}
use Rattle.tracking_state.proofs.Calls.{put_right, put_more}
use Rattle.tracking_state.proofs.tracking.put_references.Goals as goal

pub put_snapshot-requires : goal.put_snapshot-requires
put_snapshot-requires c = put_right sequence_entry c.args.references.now c.loop-index.index (c.at.result.0.now, c.at.result.1) c.requires c.at.ensures

pub loop-index-preserved : goal.loop-index-preserved
loop-index-preserved c =
    put_more sequence_entry c.args.references.now c.loop-index.index (c.at.result.0.now, c.at.result.1) c.args.out.now c.loop-index.out c.put_snapshot.new.out c.at.ensures c.loop-index.invariant
    c.in_ok-put_snapshot.ensures.ok
