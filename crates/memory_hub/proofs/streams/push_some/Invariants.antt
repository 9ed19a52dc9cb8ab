use Rattle.std.proofs.Common.{◌≡◌, ◌≤◌, ◌++◌, suc, length}
use Rattle.memory_hub.specs.Steps.{new_streams}
use Rattle.memory_hub.proofs.streams.push_some.Given as goal

abbrev pub invariant-loop : goal.invariant-loop
invariant-loop l = (l.streams.items ≡ l.fn.streams.items ++ new_streams (suc (length l.fn.streams.items)) l.counter) × (l.counter ≤ l.count)
