use Rattle.session_link.proofs.Sendings.{put_two, put_stops}
use Rattle.session_link.proofs.sending.put_both.Goals as goal

pub returns-in-Sent-clause-sent : goal.returns-in-Sent-clause-sent
returns-in-Sent-clause-sent g c = put_two _ _ _ _ _ _ _ _ _ _ c.put-in-Sent.result c.as_slice.ensures c.tail_bytes.ensures c.in-Sent.ensures.sent c.put-in-Sent.ensures.sent

pub returns-in_default : goal.returns-in_default
returns-in_default g c = record {
  sent = put_stops _ _ _ _ _ _ _ _ c.put.result c.in_default.not-Sent c.as_slice.ensures c.put.ensures.sent;
  heard = c.put.ensures.heard;
  ended = c.put.ensures.ended;
  cause = c.put.ensures.cause;
}
