use Rattle.std.proofs.Common.{◌≡◌, ◌++◌, filter, drop}
use Rattle.stream_catalog.specs.Rules.{is_among}
use Rattle.stream_catalog.proofs.listed.numbers_among.Given as goal

abbrev pub invariant-loop-index : goal.invariant-loop-index
invariant-loop-index l = l.kept ++ filter (λ n. is_among l.first l.count n) (drop l.index l.numbers) ≡ filter (λ n. is_among l.first l.count n) l.numbers
