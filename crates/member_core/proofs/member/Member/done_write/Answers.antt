use Rattle.std.proofs.Common.{refl}
use Rattle.member_core.proofs.Holding.{wrote_sends}
use Rattle.member_core.proofs.member.Member.done_write.Goals as goal

pub returns-clause-sent : goal.returns-clause-sent
returns-clause-sent c = wrote_sends c.in_ok-sent.sent c.args.chunk.now c.args.self.now c.args.self.now refl c.in_ok-sent.ensures
