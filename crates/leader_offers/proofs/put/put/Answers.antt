use Rattle.std.proofs.Common.{◌≡◌, arith}
use Rattle.std.specs.Int.{w64}
use Rattle.std.proofs.lemmas.Int.{to_z-of_z}
use Rattle.leader_offers.proofs.Puts.{both_put, both_stopped, stamp_fits}
use Rattle.leader_offers.proofs.put.put.Goals as goal

pub returns-clause-ok : goal.returns-clause-ok
returns-clause-ok c =
    let now : c.since_snapshot.result ≡ 1024 = grind (arith, c.if-since_snapshot-ne-SNAPSHOT_EVERY.false) in
    let first = c.in_ok-put_chunk.ensures.ok in
    let stamp = to_z-of_z w64 c.args.chunk.stamp (stamp_fits c.args.leader.now c.put_chunk.new.leader c.args.chunk first c.requires.kind) in
    both_put c.put_snapshot.result c.args.leader.now c.put_chunk.new.leader c.put_snapshot.new.leader c.args.chunk _ c.since_snapshot.result stamp first c.requires.epoch c.since_snapshot.ensures now c.put_snapshot.ensures.ok

pub returns-clause-stopped : goal.returns-clause-stopped
returns-clause-stopped c =
    let now : c.since_snapshot.result ≡ 1024 = grind (arith, c.if-since_snapshot-ne-SNAPSHOT_EVERY.false) in
    let first = c.in_ok-put_chunk.ensures.ok in
    let stamp = to_z-of_z w64 c.args.chunk.stamp (stamp_fits c.args.leader.now c.put_chunk.new.leader c.args.chunk first c.requires.kind) in
    both_stopped c.put_snapshot.result c.args.leader.now c.put_chunk.new.leader c.args.chunk _ c.since_snapshot.result stamp first c.requires.epoch c.since_snapshot.ensures now c.put_snapshot.ensures.stopped
