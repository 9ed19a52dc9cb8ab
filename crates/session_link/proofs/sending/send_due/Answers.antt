use Rattle.session_link.specs.Sending.{frames_said}
use Rattle.session_link.proofs.Sendings.{then_sent_as, none_sent}
use Rattle.session_link.proofs.sending.send_due.Goals as goal

pub returns-in-Sent-clause-sent : goal.returns-in-Sent-clause-sent
returns-in-Sent-clause-sent g c = then_sent_as _ _ _ c.args.due.fed c.put.new.joined c.as_slice.result.now c.args.due.ticked (frames_said c.args.due.said) c.send_said.result c.as_slice.ensures c.in-Sent.ensures.sent c.send_said.ensures.sent

pub returns-in_default : goal.returns-in_default
returns-in_default g c = record {
  sent = none_sent _ _ c.args.due.fed c.put.new.joined c.as_slice.result.now c.args.due.ticked (frames_said c.args.due.said) c.put.result c.in_default.not-Sent c.as_slice.ensures c.put.ensures.sent;
  heard = c.put.ensures.heard;
  ended = c.put.ensures.ended;
  cause = c.put.ensures.cause;
}
