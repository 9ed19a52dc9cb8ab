use Rattle.std.proofs.Common.{sym, ◌∙◌}
use Rattle.active_groups.proofs.Kept.{answered_are}
use Rattle.active_groups.proofs.Calls.{answer_none, answer_there, answer_unchanged}
use Rattle.active_groups.proofs.groups.Groups.answered.Goals as goal

pub returns-in-None-clause-step : goal.returns-in-None-clause-step
returns-in-None-clause-step c =
    rw (← c.self.view_is) (answer_none c.args.consumer c.self.inside.groups.items (rw c.as_slice.ensures.value at (sym c.group_with.ensures.is ∙ c.in-None.is)))

pub invariant_of-self : goal.invariant_of-self
invariant_of-self c =
    let e = answer_there c.args.consumer c.self.inside.groups.items c.in-Some.place c.answer_at.result c.answer_at.new.groups.items (rw c.as_slice.ensures.value at (sym c.group_with.ensures.is ∙ c.in-Some.is)) c.answer_at.ensures in
    rw e.1 (answered_are c.args.consumer c.self.inside.groups.items c.self.invariant)

pub returns-in-Some-clause-step : goal.returns-in-Some-clause-step
returns-in-Some-clause-step c =
    rw (← c.self.view_is) (answer_there c.args.consumer c.self.inside.groups.items c.in-Some.place c.answer_at.result c.answer_at.new.groups.items (rw c.as_slice.ensures.value at (sym c.group_with.ensures.is ∙ c.in-Some.is)) c.answer_at.ensures)

pub returns-in-Some-clause-unchanged : goal.returns-in-Some-clause-unchanged
returns-in-Some-clause-unchanged c =
    rw (← c.self.view_is) (answer_unchanged c.args.consumer c.self.inside.groups.items c.in-Some.place c.answer_at.result c.answer_at.new.groups.items c.answer_at.ensures)
