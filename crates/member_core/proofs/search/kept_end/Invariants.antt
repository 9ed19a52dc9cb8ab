use Rattle.std.proofs.Common.{◌≡◌, ◌≤◌, take, length}
use Rattle.epoch_coordinator.specs.MemberSteps.{kept_end}
use Rattle.member_core.proofs.search.kept_end.Given as goal

abbrev pub invariant-chunks : goal.invariant-chunks
invariant-chunks l = record { within : l.place ≤ length l.log; same : kept_end l.runs (take l.place l.log) ≡ kept_end l.runs l.log }

abbrev pub decreases-chunks : goal.decreases-chunks
decreases-chunks l = l.place
