use Rattle.std.proofs.Common.{◌≡◌, ◌++◌, drop}
use Rattle.std.specs.List.{flat_map}
use Rattle.stream_catalog.specs.Names.{numbered, live}
use Rattle.stream_catalog.proofs.live.Live.of.Given as goal

abbrev pub invariant-loop-index : goal.invariant-loop-index
invariant-loop-index l = l.live ++ flat_map (λ e. numbered e.1) (drop l.index l.names.list) ≡ live l.names
