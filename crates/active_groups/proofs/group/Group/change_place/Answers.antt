use Rattle.std.proofs.Common.{length, sym, ap, ◌∙◌}
use Rattle.active_groups.specs.Seating.{Seating}
use Rattle.active_groups.proofs.Calls.{starts, stops}
use Rattle.active_groups.proofs.group.Group.change_place.Goals as goal

pub returns-else-is_empty-clause-is : goal.returns-else-is_empty-clause-is
returns-else-is_empty-clause-is c =
    let g : Seating = record { stream = c.self.inside.stream; name = c.self.inside.name; index = c.self.inside.index; seats = c.self.inside.seats.items } in
    let count = sym c.as_slice.ensures.len ∙ ap length c.as_slice.ensures.value in
    let calm = rw c.as_slice.ensures.value at (sym c.is_any_open.ensures ∙ c.if-is_any_open.false) in
    let nobody = rw c.as_slice-2.ensures.value at (sym c.active_place.ensures.is ∙ c.in-None.is) in
    let some = rw count at (sym c.is_empty.ensures ∙ c.if-is_empty.false) in
    rw (← c.self.view_is, c.len.ensures, count) (starts g calm nobody some)

pub returns-else-place-self-clause-is : goal.returns-else-place-self-clause-is
returns-else-place-self-clause-is c =
    let g : Seating = record { stream = c.self.inside.stream; name = c.self.inside.name; index = c.self.inside.index; seats = c.self.inside.seats.items } in
    let count = sym c.as_slice.ensures.len ∙ ap length c.as_slice.ensures.value in
    let calm = rw c.as_slice.ensures.value at (sym c.is_any_open.ensures ∙ c.if-is_any_open.false) in
    let there = rw c.as_slice-2.ensures.value at (sym c.active_place.ensures.is ∙ c.in-Some.is) in
    rw (← c.self.view_is) (stops g c.in-Some.place calm there (rw (c.len-in-Some.ensures, count) at c.if-place-self.false))
