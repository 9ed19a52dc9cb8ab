use Rattle.std.proofs.Common.{subst}
use Rattle.epoch_coordinator.specs.Members.{MemberState}
use Rattle.member_core.specs.States.{IsOpen}
use Rattle.stream_cluster.specs.Takes.{GoesLast, LeaderTakes}
use Rattle.stream_cluster.proofs.Led.{up_is, old_is, at_seat}
use Rattle.stream_cluster.proofs.place.Place.offer.Goals as goal

pub take_offer-requires-clause-open : goal.take_offer-requires-clause-open
take_offer-requires-clause-open c = subst (λ (x : MemberState). IsOpen x.role) (old_is c.self.inside.up c.self.inside.member c.args.self.now c.self.view_is c.requires.up) c.requires.open

pub take_offer-requires-clause-last : goal.take_offer-requires-clause-last
take_offer-requires-clause-last c = subst (λ (x : MemberState). GoesLast c.args.limits.now x c.args.offer.given c.args.offer.items.now c.args.offer.moment c.args.passes.now.waiting) (old_is c.self.inside.up c.self.inside.member c.args.self.now c.self.view_is c.requires.up) c.requires.last

pub returns-clause-takes : goal.returns-clause-takes
returns-clause-takes c =
    at_seat (λ (x y : MemberState). LeaderTakes c.args.limits.now c.args.end c.args.offer.given c.args.offer.items.now c.args.offer.moment c.take_offer.result x y c.args.passes.now c.take_offer.new.passes)
    c.self.inside.up c.self.inside.member c.take_offer.new.leader c.args.self.now c.self.view_is c.requires.up c.take_offer.ensures

pub returns-clause-up : goal.returns-clause-up
returns-clause-up c = up_is c.self.inside.up c.self.inside.member c.args.self.now c.self.view_is c.requires.up
