use Rattle.std.proofs.Common.{refl, ◌∙◌}
use Rattle.settling_laws.specs.Settling.{Letters}
use Rattle.stream_settle.specs.Settles.{around}
use Rattle.stream_settle.proofs.Advancing.{so_far, to_the_end, however}
use Rattle.stream_settle.proofs.Disks.{disks_join}
use Rattle.stream_settle.proofs.turns.settle.Goals as goal

pub returns-in_default-follow_all-clause-progress : goal.returns-in_default-follow_all-clause-progress
returns-in_default-follow_all-clause-progress g c = (Letters, so_far c.args.now c.args.cluster.now c.perform_all.new.cluster c.nudge.new.cluster c.follow_all.new.cluster c.perform_all.ensures.goes.way (c.in-Did-nudge.ensures.did refl) c.follow_all.ensures.goes.way)

pub returns-in_default-follow_all-clause-disks : goal.returns-in_default-follow_all-clause-disks
returns-in_default-follow_all-clause-disks g c = disks_join g.D.Disk.state c.args.cluster.now.number c.nudge.new.cluster.number (around c.args.disks.now c.args.epochs.now c.args.stores.now) (around c.perform_all.new.disks c.perform_all.new.epochs c.perform_all.new.stores) (around c.follow_all.new.disks c.follow_all.new.epochs c.follow_all.new.stores) (c.nudge.ensures.same.number ∙ c.perform_all.ensures.goes.same.number) c.perform_all.ensures.goes.disks c.follow_all.ensures.goes.disks

pub returns-clause-settles : goal.returns-clause-settles
returns-clause-settles g c did = (to_the_end c.args.now c.args.cluster.now c.follow_all.new.cluster c.forget.new.cluster (so_far c.args.now c.args.cluster.now c.perform_all.new.cluster c.nudge.new.cluster c.follow_all.new.cluster c.perform_all.ensures.goes.way (c.in-Did-nudge.ensures.did refl) c.follow_all.ensures.goes.way) (c.forget.ensures.did did)).steps

pub returns-clause-progress : goal.returns-clause-progress
returns-clause-progress g c = however c.args.now c.forget.result c.args.cluster.now c.follow_all.new.cluster c.forget.new.cluster (so_far c.args.now c.args.cluster.now c.perform_all.new.cluster c.nudge.new.cluster c.follow_all.new.cluster c.perform_all.ensures.goes.way (c.in-Did-nudge.ensures.did refl) c.follow_all.ensures.goes.way) c.forget.ensures.did c.forget.ensures.memory

pub returns-clause-disks : goal.returns-clause-disks
returns-clause-disks g c = disks_join g.D.Disk.state c.args.cluster.now.number c.nudge.new.cluster.number (around c.args.disks.now c.args.epochs.now c.args.stores.now) (around c.perform_all.new.disks c.perform_all.new.epochs c.perform_all.new.stores) (around c.follow_all.new.disks c.follow_all.new.epochs c.follow_all.new.stores) (c.nudge.ensures.same.number ∙ c.perform_all.ensures.goes.same.number) c.perform_all.ensures.goes.disks c.follow_all.ensures.goes.disks
