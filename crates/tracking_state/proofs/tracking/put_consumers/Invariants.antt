use Rattle.std.proofs.Common.{◌≡◌, ◌++◌, map, take}
use Rattle.std.specs.List.{flat_map}
use Rattle.chunk_format.specs.Tags.{snapshot_bytes}
use Rattle.tracking_state.specs.Tracked.{offset_entry}
use Rattle.tracking_state.proofs.tracking.put_consumers.Given as goal

abbrev pub invariant-loop-index : goal.invariant-loop-index
invariant-loop-index l = l.out ≡ l.fn.out ++ flat_map snapshot_bytes (map offset_entry (take l.index l.consumers))
