use Rattle.settling_laws.proofs.Refused.{faults_stop}
use Rattle.settling_laws.proofs.refused_runs.a_fault_stops_its_member.Goals as goal

pub returns : goal.returns
returns c = faults_stop
