use Rattle.std.proofs.Common.{◌≡◌, ◌++◌, map, deque_len}
use Rattle.std.specs.List.{filter}
use Rattle.stream_terms.specs.Steps.{is_of, is_other, confirm_of}
use Rattle.memory_stream.proofs.stream.part_ready.Given as goal

abbrev pub invariant-ready : goal.invariant-ready
invariant-ready l = record {
  kept : l.kept.items ++ filter (is_other l.session) l.ready.items ≡ filter (is_other l.session) l.fn.ready.items;
  out : l.out ++ map confirm_of (filter (is_of l.session) l.ready.items) ≡ l.fn.out ++ map confirm_of (filter (is_of l.session) l.fn.ready.items);
}

abbrev pub decreases-ready : goal.decreases-ready
decreases-ready l = deque_len l.ready
