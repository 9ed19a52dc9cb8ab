use Rattle.std.proofs.Common.{◌≡◌, ℕ, ◌∙◌, ap, subst, List, take}
use Rattle.std.specs.Prelude.{unwrap_or}
use Rattle.epoch_coordinator.specs.Coordinators.{CoordinatorState, untold, untold_from, to_each, begun}
use Rattle.epoch_coordinator.specs.declared.message.Message.TheVariants as messages
use Rattle.epoch_coordinator.proofs.Telling.{all_told, begun_is, take_untold, all_untold}
use Rattle.epoch_coordinator.proofs.coordinator.Coordinator.done.Goals as goal

pub returns-clause-ok : goal.returns-clause-ok
returns-clause-ok c =
    let i = c.self.inside in
    subst (λ (s : CoordinatorState). all_told i.members c.in-Some.epoch (take i.members (untold 7)) ≡ begun (unwrap_or s.job 0) s) c.self.view_is
    (begun_is i.members c.in-Some.epoch i.job c.self.invariant.1 c.in-Some.is)

pub returns-clause-sent : goal.returns-clause-sent
returns-clause-sent c =
    let members = c.self.inside.members in
    c.in_ok-sent.ensures
    ∙ ap (λ (l : List ℕ). to_each (messages.Stop c.in-Some.epoch) l)
    (ap (untold_from 1) (take_untold members 7 c.self.invariant.1) ∙ all_untold members 1)
