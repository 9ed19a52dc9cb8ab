use Rattle.std.proofs.Common.{sym, arith}
use Rattle.std.proofs.lemmas.List.{append-nil}
use Rattle.memory_hub.proofs.Standing.{push_turn, is_suc}
use Rattle.memory_hub.proofs.streams.push_some.Goals as goal

pub loop-init : goal.loop-init
loop-init c = (sym (append-nil c.args.streams.now.items), omega arith)

pub loop-preserved : goal.loop-preserved
loop-preserved c = (
  push_turn c.args.streams.now.items c.loop.streams.items _ c.loop.counter _ (is_suc c.loop.counter) c.loop.invariant.0 c.in_ok-push_stream.ensures.ok,
  omega (arith, c.loop-test.true),
)
