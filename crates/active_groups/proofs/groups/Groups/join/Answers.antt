use Rattle.std.proofs.Common.{sym, ◌∙◌, ap, ◌∷◌, [], ◌++◌}
use Rattle.active_groups.proofs.Kept.{joined_new}
use Rattle.active_groups.specs.Seating.{is_of}
use Rattle.active_groups.proofs.Places.{none}
use Rattle.active_groups.proofs.Calls.{join_done, join_kept, join_new}
use Rattle.active_groups.proofs.Waits.{waits, waits_if}
use Rattle.active_groups.proofs.groups.Groups.join.Goals as goal

pub invariant_of-self : goal.invariant_of-self
invariant_of-self c =
    join_kept c.args.stream c.args.name.now c.args.consumer c.self.inside.groups.items c.in-Some.place c.join_at.new.groups.items c.join_at.result
    (rw c.as_slice.ensures.value at (sym c.group_named.ensures.is ∙ c.in-Some.is)) c.join_at.ensures.ok c.join_at.ensures.err (rw (← c.self.view_is) at c.requires) c.self.invariant

pub invariant_of-self-in-None : goal.invariant_of-self-in-None
invariant_of-self-in-None c =
    let e = c.in_ok-push-in-None.ensures.items ∙ ap (λ g. c.self.inside.groups.items ++ g ∷ []) c.in_ok-group-in-None.ensures in
    rw e (joined_new c.args.stream c.args.name.now c.args.index c.args.consumer c.self.inside.groups.items (none (is_of c.args.stream c.args.name.now) c.self.inside.groups.items (rw c.as_slice.ensures.value at (sym c.group_named.ensures.is ∙ c.in-None.is))) (rw (← c.self.view_is) at c.requires) c.self.invariant)

pub returns-in-Some-clause-ok : goal.returns-in-Some-clause-ok
returns-in-Some-clause-ok c =
    rw (← c.self.view_is) (join_done c.args.stream c.args.name.now c.args.index c.args.consumer c.self.inside.groups.items c.in-Some.place c.join_at.new.groups.items c.join_at.result
    (rw c.as_slice.ensures.value at (sym c.group_named.ensures.is ∙ c.in-Some.is)) c.join_at.ensures.ok)

pub returns-in_ok-push-in-None-clause-ok : goal.returns-in_ok-push-in-None-clause-ok
returns-in_ok-push-in-None-clause-ok c =
    rw (← c.self.view_is) (join_new c.args.stream c.args.name.now c.args.index c.args.consumer c.self.inside.groups.items c.push.new.self.items
    (rw c.as_slice.ensures.value at (sym c.group_named.ensures.is ∙ c.in-None.is))
    (c.in_ok-push-in-None.ensures.items ∙ ap (λ g. c.self.inside.groups.items ++ g ∷ []) c.in_ok-group-in-None.ensures))

pub returns-in-Some-clause-waits : goal.returns-in-Some-clause-waits
returns-in-Some-clause-waits c =
    waits_if c.args.stream c.args.name.now c.args.index c.args.consumer c.self.inside.groups.items c.join_at.new.groups.items c.join_at.result (rw (← c.self.view_is) at c.requires)
    (join_done c.args.stream c.args.name.now c.args.index c.args.consumer c.self.inside.groups.items c.in-Some.place c.join_at.new.groups.items c.join_at.result
    (rw c.as_slice.ensures.value at (sym c.group_named.ensures.is ∙ c.in-Some.is)) c.join_at.ensures.ok)

pub returns-in_ok-push-in-None-clause-waits : goal.returns-in_ok-push-in-None-clause-waits
returns-in_ok-push-in-None-clause-waits c =
    let e = join_new c.args.stream c.args.name.now c.args.index c.args.consumer c.self.inside.groups.items c.push.new.self.items
    (rw c.as_slice.ensures.value at (sym c.group_named.ensures.is ∙ c.in-None.is))
    (c.in_ok-push-in-None.ensures.items ∙ ap (λ g. c.self.inside.groups.items ++ g ∷ []) c.in_ok-group-in-None.ensures) in
    rw e (waits c.args.stream c.args.name.now c.args.index c.args.consumer c.self.inside.groups.items (rw (← c.self.view_is) at c.requires))
