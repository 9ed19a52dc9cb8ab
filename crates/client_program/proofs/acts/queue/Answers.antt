use Rattle.std.proofs.Common.{ap}
use Rattle.client_program.specs.Words.{deed_of}
use Rattle.client_program.proofs.ActLaws.{nothing_for}
use Rattle.client_program.proofs.acts.queue.Goals as goal

pub returns-in-Create-clause-queues : goal.returns-in-Create-clause-queues
returns-in-Create-clause-queues c = nothing_for _ _ _ _ (ap deed_of c.in-Create.is) (λ lines same. (tt, same))

pub returns-in-Consume-clause-queues : goal.returns-in-Consume-clause-queues
returns-in-Consume-clause-queues c = nothing_for _ _ _ _ (ap deed_of c.in-Consume.is) (λ lines same. (tt, same))

pub returns-in-Query-clause-queues : goal.returns-in-Query-clause-queues
returns-in-Query-clause-queues c = nothing_for _ _ _ _ (ap deed_of c.in-Query.is) (λ lines same. (tt, same))
