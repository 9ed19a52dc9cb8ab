use Rattle.std.proofs.Common.{ℕ, ◌<◌}
use Rattle.stream_cluster.specs.Opens.{had_at, AgreesWith}
use Rattle.stream_cluster.proofs.whole.refuse_apart.Given as goal

abbrev pub invariant-loop-other : goal.invariant-loop-other
invariant-loop-other l = (j : ℕ) → j < l.other-index → AgreesWith l.one (had_at l.others j)
