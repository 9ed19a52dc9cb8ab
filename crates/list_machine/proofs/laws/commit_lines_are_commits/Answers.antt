use Rattle.list_machine.proofs.Ends.{commit_of}
use Rattle.list_machine.proofs.laws.commit_lines_are_commits.Goals as goal

pub returns : goal.returns
returns c = λ old new number chunk step. commit_of old new number chunk step
