use Rattle.std.proofs.Common.{List, sym, ◌∙◌, ap}
use Rattle.active_groups.specs.declared.consumer.GroupState.{GroupState}
use Rattle.active_groups.specs.declared.consumer.Seat.{Seat}
use Rattle.active_groups.specs.Seating.{Seating}
use Rattle.active_groups.specs.Changes.{at_place, with_state}
use Rattle.active_groups.specs.Steps.{is_awaited}
use Rattle.active_groups.proofs.Calls.{no_state, its_state, no_answer, its_answer}
use Rattle.active_groups.proofs.group.Group.answer.Goals as goal

pub returns-in_default-clause-awaited : goal.returns-in_default-clause-awaited
returns-in_default-clause-awaited c =
    rw (← c.self.view_is) (ap is_awaited (no_state c.self.inside.seats.items c.args.consumer (rw c.as_slice.ensures.value at (sym c.place_of.ensures.is ∙ c.in_default.is))))

pub returns-in_default-clause-after : goal.returns-in_default-clause-after
returns-in_default-clause-after c =
    rw (← c.self.view_is) (no_answer _ c.args.consumer (rw c.as_slice.ensures.value at (sym c.place_of.ensures.is ∙ c.in_default.is)))

pub returns-clause-awaited : goal.returns-clause-awaited
returns-clause-awaited c =
    rw (← c.self.view_is) (c.is_open.ensures ∙ ap is_awaited (its_state c.self.inside.seats.items c.args.consumer c.in-Some.place c.index.result.now (rw c.as_slice.ensures.value at (sym c.place_of.ensures.is ∙ c.in-Some.is)) c.index.ensures))

pub returns-clause-after : goal.returns-clause-after
returns-clause-after c =
    let items = c.self.inside.seats.items in
    let e =
    c.set_state.ensures ∙ ap (λ (state : GroupState). at_place c.in-Some.place (with_state state) items) c.after_answer.ensures
    ∙ its_answer items c.args.consumer c.in-Some.place c.index.result.now (rw c.as_slice.ensures.value at (sym c.place_of.ensures.is ∙ c.in-Some.is)) (rw c.as_slice.ensures.value at c.in-Some.ensures.inside) c.index.ensures in
    let whole : List Seat → Seating = λ seats. record { stream = c.self.inside.stream; name = c.self.inside.name; index = c.self.inside.index; seats = seats } in
    rw (← c.self.view_is) (ap whole e)
