use Rattle.std.proofs.Common.{◌≤◌, sym, subst, refl}
use Rattle.epoch_coordinator.specs.Members.{MemberState}
use Rattle.member_core.specs.States.{IsOpen}
use Rattle.member_core.proofs.Holding.{some_job, no_job, put_open, put_idle}
use Rattle.member_core.proofs.member.Member.queue.Goals as goal

pub invariant_of-self : goal.invariant_of-self
invariant_of-self c =
    let i = c.self.inside in
    let led = subst (λ (m : MemberState). IsOpen m.role) (sym c.self.view_is) c.requires.open in
    let low = subst (λ (m : MemberState). c.args.chunk.epoch ≤ m.promise) (sym c.self.view_is) c.requires.promised in
    put_open c.put.result i.members i.promise i.duty i.log c.put.new.self i.job c.args.chunk c.self.invariant led (some_job i.job c.is_some.result c.is_some.ensures c.if-is_some.true) c.put.ensures.ok c.put.ensures.err low

pub invariant_of-self-2 : goal.invariant_of-self-2
invariant_of-self-2 c =
    let i = c.self.inside in
    let low = subst (λ (m : MemberState). c.args.chunk.epoch ≤ m.promise) (sym c.self.view_is) c.requires.promised in
    put_idle i.members i.promise i.duty i.duty i.log i.log c.put-2.new.self i.job c.args.chunk c.args.chunk c.in_ok-shared.shared c.self.invariant (no_job i.job c.is_some.result c.is_some.ensures c.if-is_some.false) refl c.in_ok-put.ensures.ok refl c.in_ok-shared.ensures low
