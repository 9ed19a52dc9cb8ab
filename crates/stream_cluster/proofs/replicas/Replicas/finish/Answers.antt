use Rattle.std.proofs.Common.{◌≡◌, ◌∙◌, true, suc, length, sym, ap, subst, arith}
use Rattle.cluster_core.specs.Up.{is_up}
use Rattle.cluster_core.specs.States.{ReplicaState, IsStream}
use Rattle.stream_cluster.proofs.Doings.{sends_few, finished_there}
use Rattle.stream_cluster.proofs.replicas.Replicas.finish.Goals as goal

pub post-self-inside-requires : goal.post-self-inside-requires
post-self-inside-requires c =
    let s = c.self.inside in
    let stream = subst (λ (r : ReplicaState). IsStream r.cluster) (sym c.self.view_is) c.requires.stream in
    let up = subst (λ (r : ReplicaState). is_up r.cluster (suc c.args.place) ≡ true) (sym c.self.view_is) c.requires.up in
    let few = sends_few s.seats.items s.coordinator_up s.coordinator s.mail.items s.last s.committed.items c.args.place stream up in
    let count = ap length c.in_ok-did.ensures.sent in
    let room = c.in_ok-reserve-2.ensures.ok in
    omega (arith, few, count, room)

pub returns-clause-ok : goal.returns-clause-ok
returns-clause-ok c =
    let s = c.self.inside in
    let p = c.post-self-inside in
    let d = c.in_ok-did in
    finished_there s.seats.items c.as_slice.result.now c.finish_at.new.seats.items s.coordinator_up s.coordinator s.mail.items c.reserve-2.new.self.items p.new.mail.items s.last p.result s.committed.items c.reserve.new.self.items c.commit.new.list.items c.in_ok-ahead.ahead.items s.numbers c.count_on.new.numbers
    c.args.place c.len-count.result d.did.end d.did.sent c.args.self.now c.self.view_is c.requires.stream c.requires.up c.as_slice.ensures.value (c.len-count.ensures ∙ s.committed.ok.0) c.in_ok-reserve.ensures.items c.in_ok-reserve-2.ensures.items
    d.ensures.state d.ensures.sent d.ensures.end c.in_ok-ahead.ensures c.commit.ensures p.ensures.mail p.ensures.last c.count_on.ensures
