use Rattle.osiris_audit.proofs.Matched.{other_record}
use Rattle.osiris_audit.proofs.Truncated.{never_is}
use Rattle.osiris_audit.proofs.inspection.look_at.Goals as goal

pub returns-then-not-is_recorded : goal.returns-then-not-is_recorded
returns-then-not-is_recorded c = λ more index_more first still may d m.
    other_record c.args.place c.args.end c.in-Chunk.view c.args.bytes.now c.args.idx.now more index_more first c.requires.record c.in-Chunk.ensures (never_is _ _ c.is_recorded.ensures c.if-not-is_recorded.true) may d m
