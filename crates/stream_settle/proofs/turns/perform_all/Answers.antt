use Rattle.std.proofs.Common.{refl}
use Rattle.stream_settle.specs.Settles.{Advances, around}
use Rattle.stream_settle.proofs.Advancing.{advances_then, rests, unmoved}
use Rattle.stream_settle.proofs.Disks.{goes_none, goes_then, ready_then}
use Rattle.stream_settle.proofs.turns.perform_all.Goals as goal

pub turns-init : goal.turns-init
turns-init g c = goes_none g.D.Disk.tells g.D.Disk.state (Advances c.args.now) c.args.cluster.now c.args.cluster.now (around c.args.disks.now c.args.epochs.now c.args.stores.now) (rests c.args.now c.args.cluster.now c.args.cluster.now refl) (unmoved c.args.cluster.now c.args.cluster.now refl) c.requires.in_hand

pub perform_next-turned-requires : goal.perform_next-turned-requires
perform_next-turned-requires g c = ready_then g.D.Disk.tells g.D.Disk.state (Advances c.args.now) c.args.cluster.now c.turns.cluster (around c.args.disks.now c.args.epochs.now c.args.stores.now) (around c.turns.disks c.turns.epochs c.turns.stores) c.requires c.turns.invariant

pub turns-preserved : goal.turns-preserved
turns-preserved g c = goes_then g.D.Disk.tells g.D.Disk.state (Advances c.args.now) (advances_then c.args.now) c.args.cluster.now c.turns.cluster c.perform_next-turned.new.cluster (around c.args.disks.now c.args.epochs.now c.args.stores.now) (around c.turns.disks c.turns.epochs c.turns.stores) (around c.perform_next-turned.new.disks c.perform_next-turned.new.epochs c.perform_next-turned.new.stores) c.turns.invariant c.perform_next-turned.ensures.goes

pub returns-in-Some-clause-goes : goal.returns-in-Some-clause-goes
returns-in-Some-clause-goes g c = goes_then g.D.Disk.tells g.D.Disk.state (Advances c.args.now) (advances_then c.args.now) c.args.cluster.now c.turns.cluster c.perform_next-turned.new.cluster (around c.args.disks.now c.args.epochs.now c.args.stores.now) (around c.turns.disks c.turns.epochs c.turns.stores) (around c.perform_next-turned.new.disks c.perform_next-turned.new.epochs c.perform_next-turned.new.stores) c.turns.invariant c.perform_next-turned.ensures.goes
