use Rattle.std.proofs.Common.{◌≡◌, ◌+◌, ◌≤◌, ◌++◌, length, vec_len, deque_len}
use Rattle.std.specs.List.{filter}
use Rattle.std.specs.Vec.{vec_capacity}
use Rattle.stream_passes.specs.Parts.{is_past, is_within}
use Rattle.stream_passes.specs.Keeps.{EndsFrom}
use Rattle.stream_passes.proofs.queue.take_reached.Given as goal

abbrev pub invariant-reached : goal.invariant-reached
invariant-reached l = record {
  ends : EndsFrom 0 l.waiting.items;
  reached : l.ready.items ++ filter (is_within l.end) l.waiting.items ≡ l.fn.ready.items ++ filter (is_within l.end) l.fn.waiting.items;
  past : filter (is_past l.end) l.waiting.items ≡ filter (is_past l.end) l.fn.waiting.items;
  room : vec_len l.ready + deque_len l.waiting ≤ vec_capacity l.ready;
}

abbrev pub decreases-reached : goal.decreases-reached
decreases-reached l = length l.waiting.items
