use Rattle.std.proofs.Common.{ap}
use Rattle.chunk_format.specs.declared.chunk.Header.{Header}
use Rattle.member_core.proofs.Keeping.{some_wait, write_keeps}
use Rattle.member_core.proofs.member_log.MemberLog.write.Goals as goal

pub invariant_of-self-2 : goal.invariant_of-self-2
invariant_of-self-2 c =
    let i = c.self.inside in
    let kind = ap (λ (h : Header). h.kind) c.header.ensures.header in
    write_keeps i.chunks.items c.index-chunk.result.now i.written i.runs.items c.add_run.new.runs.items c.run_of-run.result c.header.result.now.kind i.counted.bytes i.counted.since i.counted.waiting c.without-waiting.result i.known.count i.known.tracking
    (some_wait i.written i.chunks.items c.args.self.now c.self.view_is c.requires) c.index-chunk.ensures kind c.run_of-run.ensures.epoch c.run_of-run.ensures.end c.in_ok-add_run.ensures.ok c.without-waiting.ensures c.self.invariant
