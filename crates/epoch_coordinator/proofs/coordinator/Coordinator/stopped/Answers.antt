use Rattle.std.proofs.Common.{sym, subst}
use Rattle.epoch_coordinator.specs.declared.coordinator.StoppedDid.{StoppedDid}
use Rattle.epoch_coordinator.specs.Coordinators.{CoordinatorState, stopped, IfOpened}
use Rattle.epoch_coordinator.proofs.Leaders.{rightly}
use Rattle.epoch_coordinator.proofs.coordinator.Coordinator.stopped.Goals as goal

pub returns-clause-rightly : goal.returns-clause-rightly
returns-clause-rightly c =
    let by = stopped c.args.epoch c.args.from c.args.tail c.args.self.now in
    subst (λ (s : CoordinatorState). IfOpened s c.hear.result) (sym c.hear.ensures.state)
    (subst (λ (r : StoppedDid). IfOpened by.state r) (sym c.hear.ensures.answer) (rightly c.args.epoch c.args.from c.args.tail c.args.self.now))
