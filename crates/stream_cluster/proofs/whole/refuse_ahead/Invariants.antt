use Rattle.std.proofs.Common.{ℕ, ◌<◌}
use Rattle.stream_cluster.specs.Opens.{had_at, NotAhead}
use Rattle.stream_cluster.proofs.whole.refuse_ahead.Given as goal

abbrev pub invariant-loop-start : goal.invariant-loop-start
invariant-loop-start l = (i : ℕ) → i < l.start-index → NotAhead l.epoch (had_at l.starts i)
