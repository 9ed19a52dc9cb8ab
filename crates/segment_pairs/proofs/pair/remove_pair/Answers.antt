use Rattle.segment_pairs.specs.Held.{index_file}
use Rattle.segment_pairs.proofs.Moving.{did_done}
use Rattle.segment_pairs.proofs.Leaving.{index_leaves, segment_leaves}
use Rattle.segment_pairs.proofs.pair.remove_pair.Goals as goal

pub returns-in-Failed-clause-left : goal.returns-in-Failed-clause-left
returns-in-Failed-clause-left g c = λ told left.
    index_leaves _ _ _ _ (g.met.D.Disk.reads_image c.args.disk.now (index_file c.args.stream c.args.number) told) left c.remove.ensures.changes

pub returns-clause-left : goal.returns-clause-left
returns-clause-left g c = λ told left.
    segment_leaves _ _ _ _ _ (g.met.D.Disk.reads_image c.args.disk.now (index_file c.args.stream c.args.number) told) left c.remove.ensures.changes (c.remove.ensures.happened (did_done _ c.in_default.not-Failed)) c.remove-2.ensures.changes
