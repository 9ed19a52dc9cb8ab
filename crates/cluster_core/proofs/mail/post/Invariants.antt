use Rattle.std.proofs.Common.{◌≡◌, ◌≤◌, ◌+◌, ◌++◌, length, vec_len, vec_capacity}
use Rattle.replication_laws.specs.Cluster.{numbered}
use Rattle.cluster_core.specs.Parts.{lettered}
use Rattle.cluster_core.proofs.mail.post.Given as goal

abbrev pub invariant-sent : goal.invariant-sent
invariant-sent l = record {
  mail : lettered l.mail.items ++ numbered l.last l.left.items ≡ lettered l.fn.mail.items ++ numbered l.fn.last l.fn.sent;
  last : l.last + length (numbered l.last l.left.items) ≡ l.fn.last + length (numbered l.fn.last l.fn.sent);
  room : vec_len l.mail + vec_len l.left ≤ vec_capacity l.mail;
}

abbrev pub decreases-sent : goal.decreases-sent
decreases-sent l = vec_len l.left
