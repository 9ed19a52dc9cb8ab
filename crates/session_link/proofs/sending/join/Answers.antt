use Rattle.session_link.proofs.Sendings.{joins_it, joins_none}
use Rattle.session_link.proofs.sending.join.Goals as goal

pub returns-in-Ok-clause-sent : goal.returns-in-Ok-clause-sent
returns-in-Ok-clause-sent c sent = joins_it sent c.args.joined.now c.args.bytes.now c.push_slice.new.self c.in-Ok.ensures.ok

pub returns-in-Err-clause-sent : goal.returns-in-Err-clause-sent
returns-in-Err-clause-sent c sent = joins_none sent c.args.joined.now c.args.bytes.now c.push_slice.new.self
