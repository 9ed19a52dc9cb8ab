use Rattle.std.proofs.Common.{◌∙◌}
use Rattle.stream_cluster.proofs.Coming.{taken_there}
use Rattle.stream_cluster.proofs.replicas.Replicas.take.Goals as goal

pub returns-clause-ok : goal.returns-clause-ok
returns-clause-ok c =
    let s = c.self.inside in
    let p = c.post-self-inside in
    let d = c.in_ok-did in
    taken_there s.seats.items c.as_slice.result.now c.take_at.new.seats.items s.coordinator_up s.coordinator s.mail.items c.reserve-2.new.self.items c.mark.new.mail.items p.new.mail.items s.last p.result s.committed.items c.reserve.new.self.items c.commit.new.list.items c.in_ok-ahead.ahead.items s.numbers
    c.args.now c.args.place c.args.seat c.len-count.result d.did.end d.did.sent c.index.result.now c.args.self.now c.self.view_is c.requires.stream c.requires.up c.requires.idle c.as_slice.ensures.value (c.len-count.ensures ∙ s.committed.ok.0) c.in_ok-reserve.ensures.items c.in_ok-reserve-2.ensures.items c.index.ensures
    d.ensures.state d.ensures.sent d.ensures.end c.in_ok-ahead.ensures c.commit.ensures c.mark.ensures.items p.ensures.mail p.ensures.last
