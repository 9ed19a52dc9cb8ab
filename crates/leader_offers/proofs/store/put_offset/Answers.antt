use Rattle.std.proofs.Common.{refl, ap, ◌∙◌}
use Rattle.epoch_coordinator.specs.MemberSteps.{stamp_at}
use Rattle.epoch_coordinator.specs.Members.{sequence_of}
use Rattle.chunk_format.specs.declared.chunk.Chunk.{Chunk}
use Rattle.chunk_format.specs.Logs.{end_of}
use Rattle.epoch_coordinator.specs.Offers.{offset_chunk}
use Rattle.leader_offers.proofs.Lines.{some_same}
use Rattle.leader_offers.proofs.Puts.{delta_not, offset_is, ok_with, stopped_with, sent_stamp}
use Rattle.leader_offers.proofs.store.put_offset.Goals as goal

pub put-requires-clause-epoch : goal.put-requires-clause-epoch
put-requires-clause-epoch c = ap (λ (x : Chunk). x.epoch) c.in-Ok.ensures ∙ c.promise-epoch.ensures

pub put-requires-clause-begins : goal.put-requires-clause-begins
put-requires-clause-begins c = ap (λ (x : Chunk). x.first) c.in-Ok.ensures ∙ c.end-first.ensures

pub put-requires-clause-kind : goal.put-requires-clause-kind
put-requires-clause-kind c = delta_not c.in-Ok.chunk.kind (ap (λ (x : Chunk). x.kind) c.in-Ok.ensures)

pub returns-in-Ok-clause-ok : goal.returns-in-Ok-clause-ok
returns-in-Ok-clause-ok c =
    let m = c.args.leader.now in
    ok_with c.put.result m c.put.new.leader c.in-Ok.chunk (offset_chunk m.promise (stamp_at c.args.now) c.args.name.now c.args.offset (end_of (sequence_of m))) (offset_is c.in-Ok.chunk c.promise-epoch.result m.promise _ (stamp_at c.args.now) c.args.name.now c.args.offset c.end-first.result (end_of (sequence_of m)) c.in-Ok.ensures c.promise-epoch.ensures (sent_stamp c.args.now c.stamp_of.result c.stamp_of.ensures) c.end-first.ensures) c.put.ensures.ok

pub returns-in-Ok-clause-stopped : goal.returns-in-Ok-clause-stopped
returns-in-Ok-clause-stopped c =
    let m = c.args.leader.now in
    stopped_with c.put.result m c.in-Ok.chunk (offset_chunk m.promise (stamp_at c.args.now) c.args.name.now c.args.offset (end_of (sequence_of m))) (offset_is c.in-Ok.chunk c.promise-epoch.result m.promise _ (stamp_at c.args.now) c.args.name.now c.args.offset c.end-first.result (end_of (sequence_of m)) c.in-Ok.ensures c.promise-epoch.ensures (sent_stamp c.args.now c.stamp_of.result c.stamp_of.ensures) c.end-first.ensures) c.put.ensures.stopped

pub returns-in-Err-clause-err : goal.returns-in-Err-clause-err
returns-in-Err-clause-err c = some_same c.args.leader.now c.args.leader.now c.requires.leads refl
