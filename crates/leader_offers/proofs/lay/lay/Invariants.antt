use Rattle.std.proofs.Common.{length}
use Rattle.epoch_coordinator.specs.MemberSteps.{stamp_at}
use Rattle.leader_offers.proofs.Runs.{Laying}
use Rattle.leader_offers.proofs.lay.lay.Given as goal

abbrev pub invariant-runs : goal.invariant-runs
invariant-runs l = Laying l.fn.leader l.name l.fn.greatest (stamp_at l.now) l.items l.leader l.last l.rest l.count

abbrev pub decreases-runs : goal.decreases-runs
decreases-runs l = length l.rest
