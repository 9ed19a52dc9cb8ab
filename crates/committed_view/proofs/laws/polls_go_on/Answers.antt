use Rattle.committed_view.proofs.Runs.{polls_go_on}
use Rattle.committed_view.proofs.laws.polls_go_on.Goals as goal

pub returns : goal.returns
returns c = polls_go_on
