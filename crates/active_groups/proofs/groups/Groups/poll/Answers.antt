use Rattle.std.proofs.Common.{sym, ◌∙◌}
use Rattle.active_groups.proofs.Kept.{polled_are}
use Rattle.active_groups.proofs.Calls.{poll_none, poll_told, poll_session, poll_changed}
use Rattle.active_groups.proofs.groups.Groups.poll.Goals as goal

pub returns-in_err-place-clause-step : goal.returns-in_err-place-clause-step
returns-in_err-place-clause-step c =
    let e = poll_none c.args.session c.self.inside.groups.items (rw c.as_slice.ensures.value at (sym c.group_to_tell.ensures.is ∙ c.in_err-place.was)) in
    rw (← c.self.view_is) (c.from_residual.ensures ∙ e.0, e.1)

pub invariant_of-self : goal.invariant_of-self
invariant_of-self c =
    let e = poll_told c.args.session c.self.inside.groups.items c.in_ok-place.place c.tell_at.result c.tell_at.new.groups.items (rw c.as_slice.ensures.value at (sym c.group_to_tell.ensures.is ∙ c.in_ok-place.was)) c.tell_at.ensures in
    rw e.1 (polled_are c.args.session c.self.inside.groups.items c.self.invariant)

pub returns-clause-step : goal.returns-clause-step
returns-clause-step c =
    rw (← c.self.view_is) (poll_told c.args.session c.self.inside.groups.items c.in_ok-place.place c.tell_at.result c.tell_at.new.groups.items (rw c.as_slice.ensures.value at (sym c.group_to_tell.ensures.is ∙ c.in_ok-place.was)) c.tell_at.ensures)

pub returns-clause-session : goal.returns-clause-session
returns-clause-session c =
    poll_session c.args.session c.self.inside.groups.items c.in_ok-place.place c.tell_at.result c.tell_at.new.groups.items (rw c.as_slice.ensures.value at (sym c.group_to_tell.ensures.is ∙ c.in_ok-place.was)) c.tell_at.ensures

pub returns-clause-unchanged : goal.returns-clause-unchanged
returns-clause-unchanged c =
    poll_changed c.args.session c.self.inside.groups.items c.in_ok-place.place c.tell_at.result c.tell_at.new.groups.items _ _ (rw c.as_slice.ensures.value at (sym c.group_to_tell.ensures.is ∙ c.in_ok-place.was)) c.tell_at.ensures
