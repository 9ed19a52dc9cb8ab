use Rattle.std.proofs.Common.{rules, ltb}
use Rattle.std.proofs.lemmas.List.Sorted.{IsPartitionPoint-from_clause, IsPartitionedBy-ltb}
use Rattle.segment_store.specs.declared.rows.ChunkAt.{ChunkAt}
use Rattle.segment_store.proofs.Halving.{none_before}
use Rattle.segment_store.proofs.ends.rows_before.Goals as goal

pub returns-clause-none_before : goal.returns-clause-none_before
returns-clause-none_before c = λ rise.
    let rows = c.args.rows.now in
    let parted = IsPartitionedBy-ltb (λ (row : ChunkAt). row.end) rows c.args.end rise in
    let point = IsPartitionPoint-from_clause (λ (row : ChunkAt). ltb row.end c.args.end) _ _ c.partition_point.ensures.partitioned parted (λ a r q k. search rules) in
    none_before c.args.end rows c.partition_point.result point
