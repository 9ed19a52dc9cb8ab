use Rattle.std.proofs.Common.{◌≡◌, ◌≤◌, ◌-◌, length, take}
use Rattle.cluster_core.proofs.agree.common.Given as goal

abbrev pub invariant-chunks : goal.invariant-chunks
invariant-chunks l = record {
  front : take l.at l.one ≡ take l.at l.other;
  within : l.at ≤ length l.one;
  within_other : l.at ≤ length l.other;
}

abbrev pub decreases-chunks : goal.decreases-chunks
decreases-chunks l = length l.one - l.at
