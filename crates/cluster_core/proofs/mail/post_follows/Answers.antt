use Rattle.std.proofs.Common.{arith}
use Rattle.epoch_coordinator.specs.declared.message.Message.TheVariants as messages
use Rattle.cluster_core.specs.Parts.{lettered}
use Rattle.cluster_core.proofs.Posting.{follow_mail, follow_last}
use Rattle.cluster_core.proofs.mail.post_follows.Goals as goal

pub members-preserved : goal.members-preserved
members-preserved c =
    let l = c.members in
    let p = c.post_follow-last in
    let message = messages.Follow c.args.epoch c.args.leader in
    let lt = c.members-test.true in
    record {
      mail = follow_mail message l.place c.args.leader c.args.members l.bits l.last p.result (lettered l.mail.items) (lettered p.new.mail.items) _ lt p.ensures.mail p.ensures.last l.invariant.mail;
      last = follow_last message l.place c.args.leader c.args.members l.bits l.last p.result _ lt p.ensures.last l.invariant.last;
      room = (let r = l.invariant.room in let n = p.ensures.len in let k = p.ensures.capacity in omega (arith, r, n, k, lt));
    }
