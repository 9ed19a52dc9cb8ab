use Rattle.std.proofs.Common.{arith}
use Rattle.segment_pairs.proofs.Lifting.{outside_log}
use Rattle.segment_pairs.proofs.Moving.{did_done}
use Rattle.segment_store.proofs.Beginning.{begun_empty, begun_stands}
use Rattle.segment_store.proofs.Keeping.{begun_first}
use Rattle.segment_store.proofs.segment_log.SegmentLog.begin.Goals as goal

pub begin_pair-requires : goal.begin_pair-requires
begin_pair-requires g c = λ told. c.requires told 0 (omega arith) (omega arith)

pub returns-in-Failed-clause-images : goal.returns-in-Failed-clause-images
returns-in-Failed-clause-images g c = λ told. begun_empty c.args.stream (g.D.Disk.state c.args.disk.now) (g.D.Disk.state c.begin_pair.new.disk) (c.requires told) c.begin_pair.ensures.others (c.begin_pair.ensures.images told)

pub returns-in-Failed-clause-others : goal.returns-in-Failed-clause-others
returns-in-Failed-clause-others g c = outside_log _ _ _ _ c.begin_pair.ensures.others

pub returns-clause-images : goal.returns-clause-images
returns-clause-images g c = λ told. begun_empty c.args.stream (g.D.Disk.state c.args.disk.now) (g.D.Disk.state c.begin_pair.new.disk) (c.requires told) c.begin_pair.ensures.others (c.begin_pair.ensures.images told)

pub returns-clause-stands : goal.returns-clause-stands
returns-clause-stands g c = λ told. begun_stands c.args.stream _ (g.D.Disk.state c.args.disk.now) (g.D.Disk.state c.begin_pair.new.disk) c.new-rows.ensures.items (c.requires told) c.begin_pair.ensures.others (c.begin_pair.ensures.done told (did_done _ c.in_default.not-Failed))

pub returns-clause-others : goal.returns-clause-others
returns-clause-others g c = outside_log _ _ _ _ c.begin_pair.ensures.others

pub returns-in-Failed-clause-recoverable : goal.returns-in-Failed-clause-recoverable
returns-in-Failed-clause-recoverable g c = λ told short. begun_first c.args.stream (g.D.Disk.state c.args.disk.now) (g.D.Disk.state c.begin_pair.new.disk) (c.requires told) c.begin_pair.ensures.others (c.begin_pair.ensures.left told short)

pub returns-clause-recoverable : goal.returns-clause-recoverable
returns-clause-recoverable g c = λ told short. begun_first c.args.stream (g.D.Disk.state c.args.disk.now) (g.D.Disk.state c.begin_pair.new.disk) (c.requires told) c.begin_pair.ensures.others (c.begin_pair.ensures.left told short)
