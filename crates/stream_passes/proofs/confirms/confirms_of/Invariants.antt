use Rattle.std.proofs.Common.{◌≡◌, ◌++◌, map, length}
use Rattle.std.specs.List.{filter}
use Rattle.stream_terms.specs.Steps.{is_of, confirm_of}
use Rattle.stream_passes.proofs.confirms.confirms_of.Given as goal

abbrev pub invariant-ready : goal.invariant-ready
invariant-ready l = l.out ++ map confirm_of (filter (is_of l.session) l.rest) ≡ map confirm_of (filter (is_of l.session) l.ready)

abbrev pub decreases-ready : goal.decreases-ready
decreases-ready l = length l.rest
