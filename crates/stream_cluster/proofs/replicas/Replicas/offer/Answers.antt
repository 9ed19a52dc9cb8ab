use Rattle.std.proofs.Common.{refl, ◌-◌}
use Rattle.stream_cluster.proofs.Led.{some_leader, is_there, is_up_there, is_open_there, goes_last_there, leader_took}
use Rattle.stream_cluster.proofs.replicas.Replicas.offer.Goals as goal

pub overflow_sub-place : goal.overflow_sub-place
overflow_sub-place c = some_leader c.self.inside.seats.items c.self.inside.seats.items c.self.inside.coordinator_up c.self.inside.coordinator c.self.inside.mail.items c.self.inside.last c.self.inside.committed.items c.self.inside.numbers c.args.self.now c.self.view_is c.requires.runs c.leader.result (c.leader.result - 1) c.leader.ensures refl

pub offer_at-requires-clause-there : goal.offer_at-requires-clause-there
offer_at-requires-clause-there c = is_there c.self.inside.seats.items c.self.inside.seats.items c.self.inside.coordinator_up c.self.inside.coordinator c.self.inside.mail.items c.self.inside.last c.self.inside.committed.items c.self.inside.numbers c.args.self.now c.self.view_is c.requires.runs c.leader.result (c.leader.result - 1) c.leader.ensures refl

pub offer_at-requires-clause-up : goal.offer_at-requires-clause-up
offer_at-requires-clause-up c = is_up_there c.self.inside.seats.items c.self.inside.seats.items c.self.inside.coordinator_up c.self.inside.coordinator c.self.inside.mail.items c.self.inside.last c.self.inside.committed.items c.self.inside.numbers c.args.self.now c.self.view_is c.requires.runs c.leader.result (c.leader.result - 1) c.leader.ensures refl

pub offer_at-requires-clause-open : goal.offer_at-requires-clause-open
offer_at-requires-clause-open c = is_open_there c.self.inside.seats.items c.self.inside.seats.items c.self.inside.coordinator_up c.self.inside.coordinator c.self.inside.mail.items c.self.inside.last c.self.inside.committed.items c.self.inside.numbers c.args.self.now c.self.view_is c.requires.runs c.leader.result (c.leader.result - 1) c.leader.ensures refl

pub offer_at-requires-clause-last : goal.offer_at-requires-clause-last
offer_at-requires-clause-last c = goes_last_there c.self.inside.seats.items c.self.inside.seats.items c.self.inside.coordinator_up c.self.inside.coordinator c.self.inside.mail.items c.self.inside.last c.self.inside.committed.items c.self.inside.numbers c.args.self.now c.self.view_is c.requires.runs c.leader.result (c.leader.result - 1) c.leader.ensures refl c.args.limits.now c.args.offer.given c.args.offer.items.now c.args.offer.moment c.args.passes.now.waiting c.requires.last

pub returns : goal.returns
returns c = leader_took c.self.inside.seats.items c.offer_at.new.seats.items c.self.inside.coordinator_up c.self.inside.coordinator c.self.inside.mail.items c.self.inside.last c.self.inside.committed.items c.self.inside.numbers c.args.self.now c.self.view_is c.requires.runs c.leader.result (c.leader.result - 1) c.leader.ensures refl c.args.limits.now c.end-end.result c.args.offer.given c.args.offer.items.now c.args.offer.moment c.offer_at.result c.args.passes.now c.offer_at.new.passes c.end-end.ensures c.offer_at.ensures
