use Rattle.std.proofs.Common.{sym, subst, arith}
use Rattle.std.specs.Prelude.{unwrap_or}
use Rattle.cluster_core.specs.States.{ReplicaState, IsStream}
use Rattle.stream_cluster.proofs.Doings.{stops_few}
use Rattle.stream_cluster.proofs.replicas.Replicas.begin.Goals as goal

pub post-self-inside-requires : goal.post-self-inside-requires
post-self-inside-requires c =
    let s = c.self.inside in
    let stream = subst (λ (r : ReplicaState). IsStream r.cluster) (sym c.self.view_is) c.requires.stream in
    let few = stops_few s.seats.items s.coordinator_up s.coordinator c.done.new.self s.mail.items s.last (unwrap_or s.coordinator.job 0) s.committed.items c.in_ok-sent.sent stream c.in_ok-sent.ensures.ok c.in_ok-sent.ensures.sent in
    let room = c.in_ok-reserve.ensures.ok in
    omega (arith, few, room)
