use Rattle.std.proofs.Common.{◌≡◌, take}
use Rattle.epoch_coordinator.specs.Tails.{runs_of}
use Rattle.member_core.proofs.runs.runs_of.Given as goal

abbrev pub invariant-loop-chunk : goal.invariant-loop-chunk
invariant-loop-chunk l = l.runs.items ≡ runs_of (take l.chunk-index l.chunks)
