use Rattle.command_all.specs.Commands.{frame_of}
use Rattle.session_core.specs.Outgoing.{command_of}
use Rattle.session_link.proofs.Sendings.{joins_none}
use Rattle.session_link.proofs.sending.put_one.Goals as goal

pub returns-in-Err-clause-sent : goal.returns-in-Err-clause-sent
returns-in-Err-clause-sent g c = joins_none _ c.args.joined.now (frame_of (command_of c.args.unasked)) c.args.joined.now
