use Rattle.std.proofs.Common.{arith}
use Rattle.stream_client.proofs.Posting.{learned_none, learned_next, learned_all, learned_some}
use Rattle.stream_client.proofs.outbox.Outbox.learn.Goals as goal

pub loop-id-init : goal.loop-id-init
loop-id-init c = learned_none c.args.self.now c.confirmed-apart.ensures.apart

pub returns-in_err-hear : goal.returns-in_err-hear
returns-in_err-hear c = learned_some _ c.from_residual.result c.args.ids.now c.loop-id.id-index c.args.self.now c.loop-id.self c.hear.new.self c.from_residual.ensures.1 c.loop-id.invariant c.in_err-hear.ensures.err

pub loop-id-preserved : goal.loop-id-preserved
loop-id-preserved c = learned_next c.args.ids.now c.loop-id.id-index _ c.args.self.now c.loop-id.self c.hear.new.self c.loop-id.invariant (omega (arith, c.loop-id-test.true)) c.in_ok-hear.ensures.ok

pub returns : goal.returns
returns c = learned_all c.args.ids.now c.loop-id.id-index c.args.self.now c.loop-id.self c.loop-id.invariant (omega (arith, c.loop-id-test.false))
