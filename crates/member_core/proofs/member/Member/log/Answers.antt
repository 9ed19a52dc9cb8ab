use Rattle.std.proofs.Common.{◌≤◌, refl, subst}
use Rattle.chunk_format.specs.Logs.{IsLog, Truthful, last_epoch}
use Rattle.chunk_format.proofs.LinkLaws.{linked_front}
use Rattle.chunk_format.proofs.TruthLaws.{truthful_front}
use Rattle.epoch_coordinator.specs.Members.{MemberState}
use Rattle.member_core.proofs.Commits.{log_below}
use Rattle.member_core.proofs.member.Member.log.Goals as goal

pub returns-clause-is_log : goal.returns-clause-is_log
returns-clause-is_log c = let l = c.self.inside.log in subst (λ (m : MemberState). IsLog m.log) c.self.view_is (linked_front 0 0 l.log l.ahead c.log.ensures.is_log)

pub returns-clause-truthful : goal.returns-clause-truthful
returns-clause-truthful c = let l = c.self.inside.log in subst (λ (m : MemberState). Truthful m.log) c.self.view_is (truthful_front l.log l.ahead c.log.ensures.truthful)

pub returns-clause-promised : goal.returns-clause-promised
returns-clause-promised c =
    let i = c.self.inside in
    subst (λ (m : MemberState). last_epoch m.log ≤ m.promise) c.self.view_is (log_below i.log i.log.log i.promise c.log.ensures.is_log refl c.self.invariant.promised)
