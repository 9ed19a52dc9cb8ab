use Rattle.std.proofs.Common.{suc, ◌∙◌}
use Rattle.stream_cluster.proofs.Rising.{rises, risen_there}
use Rattle.stream_cluster.proofs.replicas.Replicas.come_up.Goals as goal

pub restart-requires-clause-is_log : goal.restart-requires-clause-is_log
restart-requires-clause-is_log c = (rises c.args.self.now.cluster (suc c.args.place) c.args.promise c.args.found.now c.in_ok-chunks.chunks c.requires.stream c.requires.may c.in_ok-chunks.ensures).is_log

pub restart-requires-clause-truthful : goal.restart-requires-clause-truthful
restart-requires-clause-truthful c = (rises c.args.self.now.cluster (suc c.args.place) c.args.promise c.args.found.now c.in_ok-chunks.chunks c.requires.stream c.requires.may c.in_ok-chunks.ensures).truthful

pub restart-requires-clause-promised : goal.restart-requires-clause-promised
restart-requires-clause-promised c = (rises c.args.self.now.cluster (suc c.args.place) c.args.promise c.args.found.now c.in_ok-chunks.chunks c.requires.stream c.requires.may c.in_ok-chunks.ensures).promised

pub returns-clause-ok : goal.returns-clause-ok
returns-clause-ok c =
    let s = c.self.inside in
    risen_there s.seats.items s.coordinator_up s.coordinator s.mail.items s.last s.committed.items s.numbers c.count_on.new.numbers c.args.place c.args.promise c.len-members.result c.in_ok-chunks.chunks c.args.found.now c.in_ok-member.member c.args.self.now
    c.self.view_is c.in_ok-member.ensures (c.len-members.ensures ∙ s.seats.ok.0) c.in_ok-chunks.ensures c.count_on.ensures
