use Rattle.std.proofs.Common.{◌∙◌}
use Rattle.epoch_coordinator.specs.MemberSteps.{stamp_at}
use Rattle.epoch_coordinator.specs.Members.{sequence_of}
use Rattle.chunk_format.specs.Logs.{end_of}
use Rattle.leader_offers.specs.Leads.{chunk_with}
use Rattle.leader_offers.proofs.Puts.{user_not, chunk_is, ok_with, stopped_with, sent_stamp}
use Rattle.leader_offers.proofs.lay.put_entries.Goals as goal

pub put-requires-clause-kind : goal.put-requires-clause-kind
put-requires-clause-kind c = user_not c.user_chunk-chunk.result.kind c.user_chunk-chunk.ensures.kind

pub returns-clause-ok : goal.returns-clause-ok
returns-clause-ok c =
    let m = c.args.leader.now in
    let u = c.user_chunk-chunk.ensures in
    ok_with c.put.result m c.put.new.leader c.user_chunk-chunk.result (chunk_with m.promise (stamp_at c.args.now) (end_of (sequence_of m)) c.args.entries c.args.trailer)
    (chunk_is c.user_chunk-chunk.result m.promise (stamp_at c.args.now) (end_of (sequence_of m)) c.args.entries c.args.trailer u.kind (u.epoch ∙ c.promise.ensures) (u.stamp ∙ sent_stamp c.args.now c.stamp_of.result c.stamp_of.ensures) (u.first ∙ c.end.ensures) u.entries u.trailer) c.put.ensures.ok

pub returns-clause-stopped : goal.returns-clause-stopped
returns-clause-stopped c =
    let m = c.args.leader.now in
    let u = c.user_chunk-chunk.ensures in
    stopped_with c.put.result m c.user_chunk-chunk.result (chunk_with m.promise (stamp_at c.args.now) (end_of (sequence_of m)) c.args.entries c.args.trailer)
    (chunk_is c.user_chunk-chunk.result m.promise (stamp_at c.args.now) (end_of (sequence_of m)) c.args.entries c.args.trailer u.kind (u.epoch ∙ c.promise.ensures) (u.stamp ∙ sent_stamp c.args.now c.stamp_of.result c.stamp_of.ensures) (u.first ∙ c.end.ensures) u.entries u.trailer) c.put.ensures.stopped
