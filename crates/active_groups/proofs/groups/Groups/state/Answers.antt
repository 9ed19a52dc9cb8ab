use Rattle.std.proofs.Common.{sym, ◌∙◌}
use Rattle.active_groups.proofs.Calls.{state_none, state_there}
use Rattle.active_groups.proofs.groups.Groups.state.Goals as goal

pub returns-in_err-place-clause-state : goal.returns-in_err-place-clause-state
returns-in_err-place-clause-state c =
    rw (← c.self.view_is) (c.from_residual.ensures ∙ state_none c.args.consumer c.self.inside.groups.items (rw c.as_slice.ensures.value at (sym c.group_with.ensures.is ∙ c.in_err-place.was)))

pub returns-clause-state : goal.returns-clause-state
returns-clause-state c =
    rw (← c.self.view_is) (c.state.ensures ∙ state_there c.args.consumer c.self.inside.groups.items c.in_ok-place.place c.index.result.now (rw c.as_slice.ensures.value at (sym c.group_with.ensures.is ∙ c.in_ok-place.was)) c.index.ensures)
