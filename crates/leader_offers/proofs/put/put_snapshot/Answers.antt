use Rattle.std.proofs.Common.{arith}
use Rattle.std.specs.Int.{w64}
use Rattle.std.proofs.lemmas.Int.{to_z-of_z}
use Rattle.epoch_coordinator.specs.Members.{sequence_of}
use Rattle.leader_offers.proofs.Puts.{no_entry, opening_put}
use Rattle.leader_offers.proofs.put.put_snapshot.Goals as goal

pub returns-then-len-gt2147483647-clause-stopped : goal.returns-then-len-gt2147483647-clause-stopped
returns-then-len-gt2147483647-clause-stopped c = let m = c.args.leader.now in let len = c.in-Ok.ensures.len in no_entry m.promise c.args.stamp (sequence_of m) (omega (arith, len, c.if-len-gt2147483647.true))

pub returns-in-Ok-offer_snapshot-clause-ok : goal.returns-in-Ok-offer_snapshot-clause-ok
returns-in-Ok-offer_snapshot-clause-ok c = opening_put c.args.leader.now c.snapshot_len.new.self c.offer_snapshot.new.self c.args.stamp _ c.end.result c.in-Ok.len (to_z-of_z w64 c.args.stamp c.ranges.stamp) c.requires c.in-Ok.ensures.same c.end.ensures c.in-Ok.ensures.len c.end.type_inv c.if-end-eq18446744073709551615.false c.if-len-gt2147483647.false c.in-Ok-offer_snapshot.ensures.ok
