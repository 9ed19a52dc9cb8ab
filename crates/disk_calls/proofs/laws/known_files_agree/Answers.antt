use Rattle.disk_calls.proofs.FrameLemmas.{settled_holds, gone_holds, settled_none_lost, gone_none_lost, one_settled, one_held}
use Rattle.disk_calls.proofs.laws.known_files_agree.Goals as goal

pub returns-clause-settled_holds : goal.returns-clause-settled_holds
returns-clause-settled_holds g c = λ id bytes d. settled_holds id bytes (g.D.Disk.state d)

pub returns-clause-gone_holds : goal.returns-clause-gone_holds
returns-clause-gone_holds g c = λ id d. gone_holds id (g.D.Disk.state d)

pub returns-clause-settled_none_lost : goal.returns-clause-settled_none_lost
returns-clause-settled_none_lost g c = λ id bytes d. settled_none_lost id bytes (g.D.Disk.state d)

pub returns-clause-gone_none_lost : goal.returns-clause-gone_none_lost
returns-clause-gone_none_lost g c = λ id d. gone_none_lost id (g.D.Disk.state d)

pub returns-clause-one_settled : goal.returns-clause-one_settled
returns-clause-one_settled g c = λ id bytes others d. one_settled id bytes others (g.D.Disk.state d)

pub returns-clause-one_held : goal.returns-clause-one_held
returns-clause-one_held g c = λ id bytes others d. one_held id bytes others (g.D.Disk.state d)
