use Rattle.std.proofs.Common.{refl}
use Rattle.replication_laws.specs.Events.{Reopen}
use Rattle.backed_streams.proofs.Returns.{reopening_left, reopening_may, reopening_due, reopening_then}
use Rattle.backed_streams.proofs.return_laws.recovered_coordinators_return.Goals as goal

pub returns-clause-left : goal.returns-clause-left
returns-clause-left g c = λ stream w old new. reopening_left g.D.Disk.state stream w old new

pub returns-clause-may : goal.returns-clause-may
returns-clause-may g c = λ told stream epoch w old d. reopening_may g.D.Disk.state stream epoch w old (g.D.Disk.state d) (λ f. g.met.D.Disk.reads_image d f told)

pub returns-clause-due : goal.returns-clause-due
returns-clause-due g c = λ told stream epoch w old d down keeps only b. reopening_due w epoch down (reopening_may g.D.Disk.state stream epoch w old (g.D.Disk.state d) (λ f. g.met.D.Disk.reads_image d f told) keeps only b)

pub returns-clause-step : goal.returns-clause-step
returns-clause-step g c = λ told now stream epoch w old d down keeps only b. Reopen epoch down (reopening_may g.D.Disk.state stream epoch w old (g.D.Disk.state d) (λ f. g.met.D.Disk.reads_image d f told) keeps only b) refl

pub returns-clause-then : goal.returns-clause-then
returns-clause-then g c = λ stream epoch due came r after old new. reopening_then g.D.Disk.state stream epoch due came r after old new
