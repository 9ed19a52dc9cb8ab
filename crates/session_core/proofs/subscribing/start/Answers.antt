use Rattle.std.proofs.Common.{Ok, Err}
use Rattle.session_core.specs.Consuming.{AskedStart}
use Rattle.session_core.proofs.Joining.{on_err}
use Rattle.session_core.proofs.subscribing.start.Goals as goal

pub returns-in_err-keep-in-Ok-clause-lost : goal.returns-in_err-keep-in-Ok-clause-lost
returns-in_err-keep-in-Ok-clause-lost g c = on_err c.from_residual.result (AskedStart c.args.stream (Ok c.in-Ok.next) c.in-Ok.ensures)

pub returns-in-Err-clause-lost : goal.returns-in-Err-clause-lost
returns-in-Err-clause-lost g c = AskedStart c.args.stream (Err c.in-Err.refused) c.in-Err.ensures
