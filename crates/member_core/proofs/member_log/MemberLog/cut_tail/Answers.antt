use Rattle.std.proofs.Common.{sym, subst}
use Rattle.chunk_format.specs.Logs.{IsLog}
use Rattle.chunk_format.proofs.LinkLaws.{linked_front}
use Rattle.member_core.proofs.member_log.MemberLog.cut_tail.Goals as goal

pub cut_tail-requires : goal.cut_tail-requires
cut_tail-requires c = subst IsLog (sym c.log.ensures.log) (linked_front 0 0 c.args.self.now.log c.args.self.now.ahead c.log.ensures.is_log)
