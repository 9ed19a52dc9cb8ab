use Rattle.std.proofs.Common.{sym, subst}
use Rattle.chunk_format.specs.Logs.{IsLog}
use Rattle.chunk_format.proofs.LinkLaws.{linked_front}
use Rattle.member_core.proofs.member_log.MemberLog.has_epoch.Goals as goal

pub has_epoch-requires-clause-is_log : goal.has_epoch-requires-clause-is_log
has_epoch-requires-clause-is_log c = subst IsLog (sym c.log.ensures.log) (linked_front 0 0 c.args.self.now.log c.args.self.now.ahead c.log.ensures.is_log)
