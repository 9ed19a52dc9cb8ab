use Rattle.session_link.specs.Sending.{frames_said}
use Rattle.session_link.proofs.Sendings.{then_flushed}
use Rattle.session_link.proofs.sending.send_said.Goals as goal

pub returns-in-Sent-clause-sent : goal.returns-in-Sent-clause-sent
returns-in-Sent-clause-sent g c = then_flushed _ _ _ c.args.joined c.put_said.new.joined (frames_said c.args.said) c.flush.result c.in-Sent.ensures.sent c.flush.ensures.sent
