use Rattle.std.proofs.Common.{sym, subst}
use Rattle.chunk_format.specs.Logs.{Truthful}
use Rattle.member_core.proofs.Keeping.{whole_parts}
use Rattle.member_core.proofs.member_log.MemberLog.log.Goals as goal

pub returns-clause-truthful : goal.returns-clause-truthful
returns-clause-truthful c = subst Truthful (sym (whole_parts c.self.inside.written c.self.inside.chunks.items c.args.self.now c.self.view_is)) c.self.invariant.0.truthful
