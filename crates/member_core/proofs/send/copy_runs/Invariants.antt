use Rattle.std.proofs.Common.{◌≡◌, take}
use Rattle.member_core.proofs.send.copy_runs.Given as goal

abbrev pub invariant-loop-run : goal.invariant-loop-run
invariant-loop-run l = l.copy ≡ take l.run-index l.runs
