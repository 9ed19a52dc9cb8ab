use Rattle.std.proofs.Common.{◌+◌, ◌-◌, length}
use Rattle.cluster_core.proofs.Parting.{Passed}
use Rattle.cluster_core.proofs.agree.shares_epoch.Given as goal

abbrev pub invariant-both : goal.invariant-both
invariant-both l = Passed l.one l.other l.at l.place l.other_place

abbrev pub decreases-both : goal.decreases-both
decreases-both l = (length l.one - l.place) + (length l.other - l.other_place)
