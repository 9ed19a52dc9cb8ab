use Rattle.std.proofs.Common.{[], ◌∷◌}
use Rattle.list_machine.specs.Examples.{item}
use Rattle.list_machine.proofs.NoRuns.{frame_two}
use Rattle.list_machine.proofs.Prefixes.{published_there, confirmed_there, five_there, uncredited_there, delivered_there, waiting_there, stored_there}
use Rattle.list_machine.proofs.examples.runs_before_wrong_events_stand.Goals as goal

pub returns-clause-published : goal.returns-clause-published
returns-clause-published c = (_, published_there (item 1 97 ∷ item 2 98 ∷ []) frame_two)

pub returns-clause-confirmed : goal.returns-clause-confirmed
returns-clause-confirmed c = (_, confirmed_there)

pub returns-clause-committed : goal.returns-clause-committed
returns-clause-committed c = (_, five_there)

pub returns-clause-uncredited : goal.returns-clause-uncredited
returns-clause-uncredited c = (_, uncredited_there)

pub returns-clause-delivered : goal.returns-clause-delivered
returns-clause-delivered c = (_, delivered_there)

pub returns-clause-waiting : goal.returns-clause-waiting
returns-clause-waiting c = (_, waiting_there)

pub returns-clause-stored : goal.returns-clause-stored
returns-clause-stored c = (_, stored_there)
