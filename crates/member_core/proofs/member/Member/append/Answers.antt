use Rattle.std.proofs.Common.{ℕ, ◌≤◌, ◌∙◌, sym, ap, subst, refl}
use Rattle.epoch_coordinator.specs.Members.{MemberState}
use Rattle.member_core.proofs.Holding.{put_idle}
use Rattle.member_core.proofs.member.Member.append.Goals as goal

pub invariant_of-self-2 : goal.invariant_of-self-2
invariant_of-self-2 c =
    let i = c.self-2.inside in
    let view = c.self-2.view_is ∙ c.in_ok-goes_on.ensures.same in
    let goes = c.in_ok-goes_on.ensures.behind c.if-not-branch.false in
    let low = subst (λ (n : ℕ). c.args.chunk.now.epoch ≤ n) (sym (ap (λ (m : MemberState). m.promise) view)) goes.1 in
    put_idle i.members i.promise i.duty i.duty i.log i.log c.put.new.self i.job c.args.chunk.now c.in_ok-kept.kept c.in_ok-shared.shared c.self-2.invariant (ap (λ (m : MemberState). m.job) view ∙ c.requires) refl c.in_ok-put.ensures.ok c.in_ok-kept.ensures c.in_ok-shared.ensures low
