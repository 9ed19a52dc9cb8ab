use Rattle.std.proofs.Common.{◌≡◌, ap, sym, subst, length}
use Rattle.epoch_coordinator.specs.Members.{MemberState}
use Rattle.member_core.specs.declared.back.Mark.{Mark}
use Rattle.member_core.specs.States.{IsOpen, offered_all, Marks, taken_back}
use Rattle.member_core.proofs.TakingBack.{stands_so, marks, goes_back}
use Rattle.member_core.proofs.member.Member.mark.Goals as goal

pub returns-clause-marks : goal.returns-clause-marks
returns-clause-marks c = λ chunks.
    let i = c.self.inside in
    let led = subst (λ (m : MemberState). IsOpen m.role) (sym c.self.view_is) c.requires in
    let made : Mark = record { count = length c.ahead.result.now; counted = c.counted.result } in
    subst (λ (m : MemberState). Marks made (offered_all chunks m)) c.self.view_is
    (marks _ i.log.log i.log.ahead chunks made (stands_so i.number i.members i.promise i.duty i.log i.job c.self.invariant led) (ap length c.ahead.ensures) c.counted.ensures)

pub returns-clause-back : goal.returns-clause-back
returns-clause-back c = λ chunks.
    let i = c.self.inside in
    let led = subst (λ (m : MemberState). IsOpen m.role) (sym c.self.view_is) c.requires in
    let made : Mark = record { count = length c.ahead.result.now; counted = c.counted.result } in
    subst (λ (m : MemberState). taken_back made (offered_all chunks m) ≡ m) c.self.view_is
    (goes_back _ i.log.log i.log.ahead chunks made (stands_so i.number i.members i.promise i.duty i.log i.job c.self.invariant led) (ap length c.ahead.ensures))
