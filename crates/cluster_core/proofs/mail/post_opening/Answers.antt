use Rattle.epoch_coordinator.specs.declared.message.Message.TheVariants as messages
use Rattle.epoch_coordinator.specs.Coordinators.{to_each}
use Rattle.epoch_coordinator.specs.MemberSteps.{mail}
use Rattle.replication_laws.specs.Majorities.{flags_of}
use Rattle.cluster_core.specs.Parts.{lettered, flagged_from}
use Rattle.cluster_core.proofs.Posting.{one_and_more, one_and_last}
use Rattle.cluster_core.proofs.mail.post_opening.Goals as goal

pub returns-clause-mail : goal.returns-clause-mail
returns-clause-mail c =
    let a = c.args in
    one_and_more a.last c.post_one-next.result (lettered a.mail.now.items) (lettered c.post_one-next.new.mail.items) (lettered c.post_follows.new.mail.items) (mail a.leader (messages.Open a.epoch))
    (to_each (messages.Follow a.epoch a.leader) (flagged_from 1 a.leader (flags_of a.members a.electors))) c.post_one-next.ensures.mail c.post_one-next.ensures.last c.post_follows.ensures.mail

pub returns-clause-last : goal.returns-clause-last
returns-clause-last c =
    let a = c.args in
    one_and_last a.last c.post_one-next.result c.post_follows.result (mail a.leader (messages.Open a.epoch)) (to_each (messages.Follow a.epoch a.leader) (flagged_from 1 a.leader (flags_of a.members a.electors))) c.post_one-next.ensures.last c.post_follows.ensures.last
