use Rattle.std.proofs.Common.{sym, ◌∙◌}
use Rattle.active_groups.proofs.Calls.{no_state, its_state}
use Rattle.active_groups.proofs.group.Group.state.Goals as goal

pub returns-in_err-place : goal.returns-in_err-place
returns-in_err-place c =
    rw (← c.self.view_is) (c.from_residual.ensures ∙ no_state c.self.inside.seats.items c.args.consumer (rw c.as_slice.ensures.value at (sym c.place_of.ensures.is ∙ c.in_err-place.was)))

pub returns : goal.returns
returns c =
    rw (← c.self.view_is) (its_state c.self.inside.seats.items c.args.consumer c.in_ok-place.place c.index.result.now (rw c.as_slice.ensures.value at (sym c.place_of.ensures.is ∙ c.in_ok-place.was)) c.index.ensures)
