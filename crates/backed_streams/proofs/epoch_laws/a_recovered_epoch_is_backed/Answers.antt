use Rattle.std.proofs.Common.{refl}
use Rattle.epoch_coordinator.specs.Coordinators.{opened_with}
use Rattle.backed_streams.proofs.OneDisk.{epoch_found, epoch_is}
use Rattle.backed_streams.proofs.epoch_laws.a_recovered_epoch_is_backed.Goals as goal

pub returns-clause-may : goal.returns-clause-may
returns-clause-may g c = λ told stream epoch k old new. epoch_found stream epoch k (g.D.Disk.state old) (g.D.Disk.state new) (λ f. g.met.D.Disk.reads_image new f told)

pub returns-clause-backed : goal.returns-clause-backed
returns-clause-backed g c = λ stream members epoch d. epoch_is stream epoch (opened_with members epoch) (g.D.Disk.state d) refl
