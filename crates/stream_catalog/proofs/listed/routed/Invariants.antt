use Rattle.std.proofs.Common.{◌≡◌, ◌++◌, drop}
use Rattle.stream_catalog.specs.Names.{routed}
use Rattle.stream_catalog.proofs.listed.routed.Given as goal

abbrev pub invariant-loop-index : goal.invariant-loop-index
invariant-loop-index l = l.row ++ routed l.key (drop l.index l.parts) (drop l.index l.keys) ≡ routed l.key l.parts l.keys
