use Rattle.std.proofs.Common.{◌∙◌}
use Rattle.stream_cluster.proofs.Coming.{told_there}
use Rattle.stream_cluster.proofs.replicas.Replicas.tell.Goals as goal

pub returns-clause-ok : goal.returns-clause-ok
returns-clause-ok c =
    let s = c.self.inside in
    let e = c.in_ok-next.ensures in
    told_there s.seats.items s.coordinator_up s.coordinator c.tell.new.coordinator s.mail.items c.tell.new.mail.items s.last c.in_ok-next.next c.len-members.result s.committed.items s.numbers c.args.place c.args.self.now c.self.view_is c.requires.stream c.requires.up (c.len-members.ensures ∙ s.seats.ok.0) c.requires.there e.state e.mail e.last
