use Rattle.std.proofs.Common.{◌≡◌, ◌≤◌, ◌+◌, ◌-◌, ◌++◌, length, vec_len, vec_capacity}
use Rattle.epoch_coordinator.specs.declared.message.Message.TheVariants as messages
use Rattle.epoch_coordinator.specs.Coordinators.{to_each}
use Rattle.replication_laws.specs.Majorities.{flags_of}
use Rattle.replication_laws.specs.Cluster.{numbered}
use Rattle.cluster_core.specs.Parts.{lettered, flagged_from}
use Rattle.cluster_core.proofs.mail.post_follows.Given as goal

abbrev pub invariant-members : goal.invariant-members
invariant-members l = record {
  mail : lettered l.mail.items ++ numbered l.last (to_each (messages.Follow l.epoch l.leader) (flagged_from (l.place + 1) l.leader (flags_of (l.members - l.place) l.bits)))
      ≡ lettered l.fn.mail.items ++ numbered l.fn.last (to_each (messages.Follow l.epoch l.leader) (flagged_from 1 l.leader (flags_of l.members l.electors)));
  last : l.last + length (numbered l.last (to_each (messages.Follow l.epoch l.leader) (flagged_from (l.place + 1) l.leader (flags_of (l.members - l.place) l.bits))))
      ≡ l.fn.last + length (numbered l.fn.last (to_each (messages.Follow l.epoch l.leader) (flagged_from 1 l.leader (flags_of l.members l.electors))));
  room : vec_len l.mail + (l.members - l.place) ≤ vec_capacity l.mail;
}
