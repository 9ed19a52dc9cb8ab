use Rattle.std.proofs.Common.{sym, ◌∙◌}
use Rattle.active_groups.proofs.Gone.{gone}
use Rattle.active_groups.proofs.Kept.{left_are}
use Rattle.active_groups.proofs.Calls.{leave_there, leave_none, state_none}
use Rattle.active_groups.proofs.groups.Groups.leave.Goals as goal

pub invariant_of-self : goal.invariant_of-self
invariant_of-self c =
    let e = leave_there c.args.consumer c.self.inside.groups.items c.in-Some.place c.leave_at.new.groups.items c.drop_empty.new.groups.items (rw c.as_slice.ensures.value at (sym c.group_with.ensures.is ∙ c.in-Some.is)) c.leave_at.ensures c.drop_empty.ensures in
    rw e (left_are c.args.consumer c.self.inside.groups.items c.self.invariant)

pub returns-in-Some-clause-step : goal.returns-in-Some-clause-step
returns-in-Some-clause-step c =
    rw (← c.self.view_is) (leave_there c.args.consumer c.self.inside.groups.items c.in-Some.place c.leave_at.new.groups.items c.drop_empty.new.groups.items (rw c.as_slice.ensures.value at (sym c.group_with.ensures.is ∙ c.in-Some.is)) c.leave_at.ensures c.drop_empty.ensures)

pub returns-in_default-clause-step : goal.returns-in_default-clause-step
returns-in_default-clause-step c =
    rw (← c.self.view_is) (leave_none c.args.consumer c.self.inside.groups.items (rw c.as_slice.ensures.value at (sym c.group_with.ensures.is ∙ c.in_default.is)) c.self.invariant.seated)

pub returns-in-Some-clause-gone : goal.returns-in-Some-clause-gone
returns-in-Some-clause-gone c =
    let e = leave_there c.args.consumer c.self.inside.groups.items c.in-Some.place c.leave_at.new.groups.items c.drop_empty.new.groups.items (rw c.as_slice.ensures.value at (sym c.group_with.ensures.is ∙ c.in-Some.is)) c.leave_at.ensures c.drop_empty.ensures in
    rw e (gone c.args.consumer c.self.inside.groups.items c.self.invariant)

pub returns-in_default-clause-gone : goal.returns-in_default-clause-gone
returns-in_default-clause-gone c =
    rw (← c.self.view_is) (sym (state_none c.args.consumer c.self.inside.groups.items (rw c.as_slice.ensures.value at (sym c.group_with.ensures.is ∙ c.in_default.is))))
