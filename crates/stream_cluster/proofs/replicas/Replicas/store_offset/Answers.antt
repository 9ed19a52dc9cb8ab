use Rattle.std.proofs.Common.{refl, ◌-◌}
use Rattle.stream_cluster.proofs.Led.{some_leader, is_there, is_up_there, is_open_there, leader_stored}
use Rattle.stream_cluster.proofs.replicas.Replicas.store_offset.Goals as goal

pub overflow_sub-place : goal.overflow_sub-place
overflow_sub-place c = some_leader c.self.inside.seats.items c.self.inside.seats.items c.self.inside.coordinator_up c.self.inside.coordinator c.self.inside.mail.items c.self.inside.last c.self.inside.committed.items c.self.inside.numbers c.args.self.now c.self.view_is c.requires.runs c.leader.result (c.leader.result - 1) c.leader.ensures refl

pub store_at-requires-clause-there : goal.store_at-requires-clause-there
store_at-requires-clause-there c = is_there c.self.inside.seats.items c.self.inside.seats.items c.self.inside.coordinator_up c.self.inside.coordinator c.self.inside.mail.items c.self.inside.last c.self.inside.committed.items c.self.inside.numbers c.args.self.now c.self.view_is c.requires.runs c.leader.result (c.leader.result - 1) c.leader.ensures refl

pub store_at-requires-clause-up : goal.store_at-requires-clause-up
store_at-requires-clause-up c = is_up_there c.self.inside.seats.items c.self.inside.seats.items c.self.inside.coordinator_up c.self.inside.coordinator c.self.inside.mail.items c.self.inside.last c.self.inside.committed.items c.self.inside.numbers c.args.self.now c.self.view_is c.requires.runs c.leader.result (c.leader.result - 1) c.leader.ensures refl

pub store_at-requires-clause-open : goal.store_at-requires-clause-open
store_at-requires-clause-open c = is_open_there c.self.inside.seats.items c.self.inside.seats.items c.self.inside.coordinator_up c.self.inside.coordinator c.self.inside.mail.items c.self.inside.last c.self.inside.committed.items c.self.inside.numbers c.args.self.now c.self.view_is c.requires.runs c.leader.result (c.leader.result - 1) c.leader.ensures refl

pub returns : goal.returns
returns c = leader_stored c.self.inside.seats.items c.store_at.new.seats.items c.self.inside.coordinator_up c.self.inside.coordinator c.self.inside.mail.items c.self.inside.last c.self.inside.committed.items c.self.inside.numbers c.args.self.now c.self.view_is c.requires.runs c.leader.result (c.leader.result - 1) c.leader.ensures refl c.args.limits.now c.args.name.now c.args.offset c.args.now c.store_at.result c.store_at.ensures
