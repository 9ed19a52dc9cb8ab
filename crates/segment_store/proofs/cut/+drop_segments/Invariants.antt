use Rattle.std.proofs.Common.{length}
use Rattle.segment_store.proofs.cut.+drop_segments.Given as goal

abbrev pub decreases-drop_segments : goal.decreases-drop_segments
decreases-drop_segments g l = length l.rows.now.items
