use Rattle.std.proofs.Common.{subst}
use Rattle.epoch_coordinator.specs.Members.{MemberState}
use Rattle.member_core.specs.States.{IsOpen}
use Rattle.leader_offers.specs.Adds.{OffsetGives}
use Rattle.stream_cluster.proofs.Led.{up_is, old_is, at_seat}
use Rattle.stream_cluster.proofs.place.Place.store_offset.Goals as goal

pub store_offset-requires : goal.store_offset-requires
store_offset-requires c = subst (λ (x : MemberState). IsOpen x.role) (old_is c.self.inside.up c.self.inside.member c.args.self.now c.self.view_is c.requires.up) c.requires.open

pub returns-clause-gives : goal.returns-clause-gives
returns-clause-gives c =
    at_seat (λ (x y : MemberState). OffsetGives c.args.limits.now x c.args.name.now c.args.offset c.args.now c.store_offset.result y)
    c.self.inside.up c.self.inside.member c.store_offset.new.leader c.args.self.now c.self.view_is c.requires.up c.store_offset.ensures

pub returns-clause-up : goal.returns-clause-up
returns-clause-up c = up_is c.self.inside.up c.self.inside.member c.args.self.now c.self.view_is c.requires.up
