use Rattle.std.proofs.Common.{◌≡◌, ◌++◌, length}
use Rattle.std.specs.List.{flat_map, AllByRecursion}
use Rattle.chunk_format.specs.Tags.{tag_bytes}
use Rattle.memory_stream.specs.Chosen.{tag_for, HasId}
use Rattle.memory_stream.proofs.chosen.tags.Given as goal

abbrev pub invariant-items : goal.invariant-items
invariant-items l = record {
  bytes : l.out ++ flat_map (λ t. tag_bytes (tag_for l.name t)) l.rest ≡ flat_map (λ t. tag_bytes (tag_for l.name t)) l.items;
  ids : AllByRecursion HasId l.rest → AllByRecursion HasId l.items;
}

abbrev pub decreases-items : goal.decreases-items
decreases-items l = length l.rest
