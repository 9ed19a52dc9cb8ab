use Rattle.member_core.proofs.Keeping.{put_keeps}
use Rattle.member_core.proofs.member_log.MemberLog.put.Goals as goal

pub invariant_of-self-2 : goal.invariant_of-self-2
invariant_of-self-2 c =
    let i = c.self.inside in
    let n = c.in_ok-counted in
    put_keeps c.args.self.now i.chunks.items c.push_chunk.new.chunks.items c.args.chunk i.written i.runs.items i.counted.bytes i.counted.since i.counted.waiting n.counted.bytes n.counted.since n.counted.waiting i.known.count i.known.tracking
    c.self.view_is c.requires n.ensures.is_chunk c.in_ok-push_chunk.ensures.ok c.self.invariant n.ensures.bytes n.ensures.since n.ensures.waiting
