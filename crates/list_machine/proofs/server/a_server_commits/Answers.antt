use Rattle.list_machine.proofs.Leading.{commits_next}
use Rattle.list_machine.proofs.server.a_server_commits.Goals as goal

pub returns : goal.returns
returns c = λ did server stream chunk run next. commits_next did server stream chunk run next
