use Rattle.stream_client.specs.Cores.{state_of}
use Rattle.stream_client.proofs.hearing.learn.Goals as goal

pub returns-in-Ok : goal.returns-in-Ok
returns-in-Ok c = c.in-Ok.ensures (state_of c.args.client.now)

pub returns-in-Err : goal.returns-in-Err
returns-in-Err c = let h = c.in-Err.ensures in (h.0, h.1, h.2, h.3 (state_of c.args.client.now))
