use Rattle.member_core.specs.Kept.{whole}
use Rattle.member_core.proofs.Snapshots.{tracks_whole, answers_truth}
use Rattle.member_core.proofs.member_log.MemberLog.agrees.Goals as goal

pub returns-clause-is : goal.returns-clause-is
returns-clause-is c =
    let i = c.self.inside in
    let l = c.args.self.now in
    let tracks = tracks_whole i.written i.chunks.items c.as_slice.result.now l c.catch_up.new.self.tracking c.self.view_is c.as_slice.ensures.value c.in_ok-catch_up.ensures.ok in
    answers_truth c.agrees.result (whole l) c.args.chunk.now c.header-header.ensures.is_chunk (c.agrees.ensures (whole l) tracks)
