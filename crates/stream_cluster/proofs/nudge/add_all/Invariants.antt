use Rattle.std.proofs.Common.{◌≡◌, ◌++◌, vec_len}
use Rattle.stream_cluster.proofs.nudge.add_all.Given as goal

abbrev pub invariant-more : goal.invariant-more
invariant-more l = l.sent ++ l.left.items ≡ l.fn.sent ++ l.fn.more

abbrev pub decreases-more : goal.decreases-more
decreases-more l = vec_len l.left
