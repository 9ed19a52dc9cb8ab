use Rattle.std.proofs.Common.{ℕ, ◌<◌}
use Rattle.stream_cluster.specs.Opens.{had_at, IsWhole}
use Rattle.stream_cluster.proofs.whole.refuse_broken.Given as goal

abbrev pub invariant-loop-start : goal.invariant-loop-start
invariant-loop-start l = (i : ℕ) → i < l.start-index → IsWhole (had_at l.starts i)
