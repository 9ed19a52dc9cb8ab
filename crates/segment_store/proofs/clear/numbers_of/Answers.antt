use Rattle.std.proofs.lemmas.List.Filters.{dedup_is}
use Rattle.segment_store.proofs.RecoveryNumbers.{sorted_numbers}
use Rattle.segment_store.proofs.clear.numbers_of.Goals as goal

pub returns : goal.returns
returns c = sorted_numbers c.args.names.now _ _ _ c.in_ok-numbers.ensures c.sort_unstable.ensures.permutation c.sort_unstable.ensures.sorted (dedup_is _ _ _ c.dedup.ensures.filtered)
