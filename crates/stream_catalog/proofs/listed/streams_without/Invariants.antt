use Rattle.std.proofs.Common.{◌≡◌, ◌++◌, not, filter, drop}
use Rattle.stream_catalog.specs.Names.{is_live}
use Rattle.stream_catalog.proofs.listed.streams_without.Given as goal

abbrev pub invariant-loop-index : goal.invariant-loop-index
invariant-loop-index l = l.kept ++ filter (λ n. not (is_live n l.others)) (drop l.index l.numbers) ≡ filter (λ n. not (is_live n l.others)) l.numbers
