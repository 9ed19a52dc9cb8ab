use Rattle.std.proofs.Common.{rules}
use Rattle.std.proofs.lemmas.List.Sorted.{IsPartitionPoint-from_clause}
use Rattle.chunk_format.specs.Chunks.{end_of_chunk}
use Rattle.member_core.specs.States.{has_majority}
use Rattle.member_core.proofs.Commits.{parted}
use Rattle.member_core.proofs.commit.common_count.Goals as goal

pub returns-clause-point : goal.returns-clause-point
returns-clause-point c =
    let log = c.args.log.now in
    let parted_log = parted c.args.members c.args.acknowledged.now log c.requires in
    IsPartitionPoint-from_clause (λ x. has_majority c.args.members c.args.acknowledged.now (end_of_chunk x)) _ _ c.partition_point.ensures.partitioned parted_log (λ a r q k. search rules)
