use Rattle.backed_streams.proofs.Returns.{recovery_left, recovery_may, recovery_step, returned_backed, returned_in_hand}
use Rattle.backed_streams.proofs.return_laws.recovered_members_return.Goals as goal

pub returns-clause-left : goal.returns-clause-left
returns-clause-left g c = λ stream k w old new. recovery_left g.D.Disk.state stream k w old new

pub returns-clause-may : goal.returns-clause-may
returns-clause-may g c = λ told stream k promise chunks w old d. recovery_may g.D.Disk.state stream k promise chunks w old (g.D.Disk.state d) (λ f. g.met.D.Disk.reads_image d f told)

pub returns-clause-step : goal.returns-clause-step
returns-clause-step g c = λ told now stream k promise chunks w old d. recovery_step g.D.Disk.state now stream k promise chunks w old (g.D.Disk.state d) (λ f. g.met.D.Disk.reads_image d f told)

pub returns-clause-backed : goal.returns-clause-backed
returns-clause-backed g c = λ stream k promise chunks w old new. returned_backed g.D.Disk.state stream k promise chunks w old new

pub returns-clause-in_hand : goal.returns-clause-in_hand
returns-clause-in_hand g c = λ stream k promise chunks w stores now old new. returned_in_hand g.D.Disk.state stream k promise chunks w stores now old new
