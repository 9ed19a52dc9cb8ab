use Rattle.std.proofs.Common.{◌∙◌, ap}
use Rattle.epoch_coordinator.specs.Members.{MemberState}
use Rattle.member_core.proofs.Holding.{cut_holds}
use Rattle.member_core.proofs.member.Member.done_cut.Goals as goal

pub invariant_of-self-2 : goal.invariant_of-self-2
invariant_of-self-2 c =
    let i = c.self.inside in
    cut_holds i.members i.promise i.duty i.log c.cut.new.self i.job c.args.end c.self.invariant (ap (λ (m : MemberState). m.job) c.self.view_is ∙ c.requires) c.in_ok-cut.ensures.ok c.in_ok-cut.ensures.epoch
