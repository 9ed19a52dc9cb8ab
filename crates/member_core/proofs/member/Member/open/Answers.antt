use Rattle.std.proofs.Common.{◌∙◌, ap, refl, arith}
use Rattle.std.specs.Int.{w64}
use Rattle.std.proofs.lemmas.Int.{to_z-of_z}
use Rattle.chunk_format.specs.declared.chunk.Chunk.{Chunk}
use Rattle.epoch_coordinator.specs.Members.{MemberState}
use Rattle.member_core.proofs.Holding.{put_idle, open_shows}
use Rattle.member_core.proofs.member.Member.open.Goals as goal

pub invariant_of-self-2 : goal.invariant_of-self-2
invariant_of-self-2 c =
    let i = c.self.inside in
    let view = c.self.view_is ∙ c.in_ok-may_open.ensures.same in
    let epoch = ap (λ (x : Chunk). x.epoch) c.in_ok-chunk.ensures.chunk in
    put_idle i.members i.promise i.duty _ i.log c.snapshot.new.self c.put.new.self i.job c.in_ok-chunk.chunk c.in_ok-chunk.chunk c.in_ok-shared.shared c.self.invariant (ap (λ (m : MemberState). m.job) view ∙ c.requires) c.in_ok-chunk.ensures.same c.in_ok-put.ensures.ok refl
    c.in_ok-shared.ensures (omega (arith, epoch))

pub returns-clause-state : goal.returns-clause-state
returns-clause-state c =
    let i = c.self.inside in
    let view = c.self.view_is ∙ c.in_ok-may_open.ensures.same in
    open_shows i.number i.members i.promise i.duty i.log c.snapshot.new.self c.put.new.self i.job c.args.self.now c.in_ok-chunk.chunk c.in_ok-shared.shared c.args.now c.stamp_at.result _ c.in_ok-may_open.field-0 c.new-2.result view c.self.invariant (ap (λ (m : MemberState). m.job) view ∙ c.requires)
    c.in_ok-may_open.ensures.may c.if-not-branch.false (to_z-of_z w64 c.stamp_at.result c.stamp_at.ensures.fits) c.stamp_at.ensures.stamp c.in_ok-chunk.ensures.chunk c.in_ok-shared.ensures c.in_ok-chunk.ensures.same c.in_ok-put.ensures.ok c.new-2.ensures
