use Rattle.std.proofs.Common.{rules, leb}
use Rattle.std.proofs.lemmas.List.Sorted.{IsPartitionPoint-from_clause, IsPartitionedBy-leb}
use Rattle.chunk_format.specs.Chunks.{end_of_chunk}
use Rattle.member_core.proofs.EndLaws.{ends_rise, ended_at}
use Rattle.member_core.proofs.search.ended.Goals as goal

pub returns-clause-is : goal.returns-clause-is
returns-clause-is c =
    let log = c.args.log.now in
    let parted = IsPartitionedBy-leb end_of_chunk log c.args.end (ends_rise log c.requires) in
    let point = IsPartitionPoint-from_clause (λ x. leb (end_of_chunk x) c.args.end) _ _ c.partition_point.ensures.partitioned parted (λ a r q k. search rules) in
    ended_at c.args.end log c.partition_point.result c.partition_point.ensures.bound point.0 point.1
