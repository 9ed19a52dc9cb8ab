use Rattle.std.proofs.Common.{◌≡◌, drop}
use Rattle.replay_node.specs.Sessions.{is_declared}
use Rattle.replay_node.proofs.session.has_publisher.Given as goal

abbrev pub invariant-loop-declared : goal.invariant-loop-declared
invariant-loop-declared l = is_declared l.publisher l.publishers ≡ is_declared l.publisher (drop l.declared-index l.publishers)
