use Rattle.member_core.proofs.Commits.{commit_shows, log_is, log_below}
use Rattle.member_core.proofs.member.Member.commit_end.Goals as goal

pub commit_over-requires-clause-is_log : goal.commit_over-requires-clause-is_log
commit_over-requires-clause-is_log c = log_is c.self.inside.log c.log.result.now c.log.ensures.is_log c.log.ensures.log

pub commit_over-requires-clause-last : goal.commit_over-requires-clause-last
commit_over-requires-clause-last c = log_below c.self.inside.log c.log.result.now c.self.inside.promise c.log.ensures.is_log c.log.ensures.log c.self.invariant.promised

pub returns-in-Leader : goal.returns-in-Leader
returns-in-Leader c =
    let i = c.self.inside in
    commit_shows i.number i.members i.promise i.duty i.log i.job c.args.self.now c.in-Leader.lead c.log.result.now c.commit_over.result c.self.view_is c.in-Leader.is c.log.ensures.log c.commit_over.ensures
