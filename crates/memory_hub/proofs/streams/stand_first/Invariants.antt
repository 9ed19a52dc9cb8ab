use Rattle.std.proofs.Common.{◌≡◌, ◌≤◌}
use Rattle.memory_hub.specs.Steps.{stand_first}
use Rattle.memory_hub.proofs.streams.stand_first.Given as goal

abbrev pub invariant-streams : goal.invariant-streams
invariant-streams l = (l.streams.items ≡ stand_first l.listed l.place l.fn.streams.items) × (l.place ≤ l.count)
