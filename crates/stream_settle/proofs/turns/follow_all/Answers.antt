use Rattle.std.proofs.Common.{refl}
use Rattle.settling_laws.specs.Settling.{Letters}
use Rattle.stream_settle.specs.Settles.{Leads, around}
use Rattle.stream_settle.proofs.Advancing.{leads_then, leads_same, unmoved}
use Rattle.stream_settle.proofs.Disks.{goes_none, goes_then, ready_then}
use Rattle.stream_settle.proofs.turns.follow_all.Goals as goal

pub turns-init : goal.turns-init
turns-init g c = goes_none g.D.Disk.tells g.D.Disk.state (Leads c.args.now Letters Letters) c.args.cluster.now c.args.cluster.now (around c.args.disks.now c.args.epochs.now c.args.stores.now) (leads_same c.args.now Letters c.args.cluster.now c.args.cluster.now refl) (unmoved c.args.cluster.now c.args.cluster.now refl) c.requires.in_hand

pub follow_next-turned-requires : goal.follow_next-turned-requires
follow_next-turned-requires g c = ready_then g.D.Disk.tells g.D.Disk.state (Leads c.args.now Letters Letters) c.args.cluster.now c.turns.cluster (around c.args.disks.now c.args.epochs.now c.args.stores.now) (around c.turns.disks c.turns.epochs c.turns.stores) c.requires c.turns.invariant

pub turns-preserved : goal.turns-preserved
turns-preserved g c = goes_then g.D.Disk.tells g.D.Disk.state (Leads c.args.now Letters Letters) (leads_then c.args.now Letters Letters Letters) c.args.cluster.now c.turns.cluster c.follow_next-turned.new.cluster (around c.args.disks.now c.args.epochs.now c.args.stores.now) (around c.turns.disks c.turns.epochs c.turns.stores) (around c.follow_next-turned.new.disks c.follow_next-turned.new.epochs c.follow_next-turned.new.stores) c.turns.invariant c.follow_next-turned.ensures.goes

pub returns-in-Some-clause-goes : goal.returns-in-Some-clause-goes
returns-in-Some-clause-goes g c = goes_then g.D.Disk.tells g.D.Disk.state (Leads c.args.now Letters Letters) (leads_then c.args.now Letters Letters Letters) c.args.cluster.now c.turns.cluster c.follow_next-turned.new.cluster (around c.args.disks.now c.args.epochs.now c.args.stores.now) (around c.turns.disks c.turns.epochs c.turns.stores) (around c.follow_next-turned.new.disks c.follow_next-turned.new.epochs c.follow_next-turned.new.stores) c.turns.invariant c.follow_next-turned.ensures.goes
