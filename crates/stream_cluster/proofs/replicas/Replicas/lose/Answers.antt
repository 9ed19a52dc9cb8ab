use Rattle.std.proofs.Common.{refl, sym, ◌∙◌}
use Rattle.stream_cluster.proofs.Losses.{lost, not_lost}
use Rattle.stream_cluster.proofs.replicas.Replicas.lose.Goals as goal

pub returns-in_default : goal.returns-in_default
returns-in_default c =
    let s = c.self.inside in
    rw (← c.self.view_is) (not_lost s.seats.items s.mail.items s.last s.committed.items s.numbers s.coordinator_up s.coordinator c.args.number (rw c.as_slice.ensures.value at (sym c.place_of.ensures.is ∙ c.in_default.is)), refl)

pub returns : goal.returns
returns c =
    let s = c.self.inside in
    let r = c.remove-lost in
    rw (← c.self.view_is) (lost s.seats.items s.mail.items s.last s.committed.items s.numbers s.coordinator_up s.coordinator c.args.number c.in-Some.place r.result r.new.self.items (rw c.as_slice.ensures.value at (sym c.place_of.ensures.is ∙ c.in-Some.is)) r.ensures.value r.ensures.items)
