use Rattle.std.proofs.Common.{◌≡◌, ◌∷◌, drop}
use Rattle.stream_catalog.specs.Adding.{are_free}
use Rattle.stream_catalog.specs.Rules.{all_differ, all_named}
use Rattle.stream_catalog.proofs.names.all_differ.Given as goal

abbrev pub invariant-loop-place : goal.invariant-loop-place
invariant-loop-place l = are_free l.seen.list (all_named (drop l.place l.parts)) ≡ all_differ (all_named (l.name ∷ l.parts))
