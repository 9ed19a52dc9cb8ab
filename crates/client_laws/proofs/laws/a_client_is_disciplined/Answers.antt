use Rattle.client_laws.proofs.Running.{disciplined, told, queue_kept}
use Rattle.client_laws.proofs.laws.a_client_is_disciplined.Goals as goal

pub returns-clause-each : goal.returns-clause-each
returns-clause-each c = λ name identity stream n events new run. disciplined name identity stream n events new run

pub returns-clause-told : goal.returns-clause-told
returns-clause-told c = λ name identity stream n events new run. told name identity stream n events new run

pub returns-clause-kept : goal.returns-clause-kept
returns-clause-kept c = λ name identity stream n events new run. queue_kept name identity stream n events new run
