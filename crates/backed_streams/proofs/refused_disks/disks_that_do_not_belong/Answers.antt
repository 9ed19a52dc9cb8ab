use Rattle.backed_streams.proofs.Refusing.{caught_is_sound, alone_is_sound, lacks_committed, lacks_written, promise_above, epoch_above, not_durable}
use Rattle.backed_streams.proofs.refused_disks.disks_that_do_not_belong.Goals as goal

pub returns-clause-sound : goal.returns-clause-sound
returns-clause-sound g c = caught_is_sound

pub returns-clause-lacks_committed : goal.returns-clause-lacks_committed
returns-clause-lacks_committed g c = λ stream disks. lacks_committed stream (λ j. g.D.Disk.state (disks j))

pub returns-clause-also_sound : goal.returns-clause-also_sound
returns-clause-also_sound g c = alone_is_sound

pub returns-clause-lacks_written : goal.returns-clause-lacks_written
returns-clause-lacks_written g c = λ stream disks. lacks_written stream (λ j. g.D.Disk.state (disks j))

pub returns-clause-promise_above : goal.returns-clause-promise_above
returns-clause-promise_above g c = λ stream disks. promise_above stream (λ j. g.D.Disk.state (disks j))

pub returns-clause-epoch_above : goal.returns-clause-epoch_above
returns-clause-epoch_above g c = λ stream disks. epoch_above stream (λ j. g.D.Disk.state (disks j))

pub returns-clause-not_durable : goal.returns-clause-not_durable
returns-clause-not_durable g c = λ stream disks. not_durable stream (λ j. g.D.Disk.state (disks j))
