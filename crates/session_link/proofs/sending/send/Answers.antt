use Rattle.session_link.proofs.Sendings.{taken_front}
use Rattle.session_link.proofs.sending.send.Goals as goal

pub returns-in-Failed-clause-sent : goal.returns-in-Failed-clause-sent
returns-in-Failed-clause-sent g c = taken_front _ _ c.in-Failed.ensures.sent.0 _ c.in-Failed.ensures.sent.1
