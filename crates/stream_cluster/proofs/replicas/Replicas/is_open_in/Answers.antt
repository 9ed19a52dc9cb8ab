use Rattle.std.proofs.Common.{◌≤◌, ◌-◌, ℕ, List, sym, ap, ◌∙◌, arith}
use Rattle.replication_laws.specs.Cluster.{Seat}
use Rattle.cluster_core.specs.Up.{is_open_in}
use Rattle.cluster_core.specs.States.{ReplicaState}
use Rattle.stream_cluster.specs.Leads.{place_leads}
use Rattle.stream_cluster.proofs.Leading.{nobody_leads, leads_at}
use Rattle.stream_cluster.proofs.replicas.Replicas.is_open_in.Goals as goal

pub returns-then-leader-eq0 : goal.returns-then-leader-eq0
returns-then-leader-eq0 c = sym (ap (λ (k : ℕ). is_open_in c.args.self.now.cluster k c.args.epoch) c.if-leader-eq0.true ∙ nobody_leads c.args.self.now.cluster c.args.epoch)

pub returns : goal.returns
returns c =
    let leader = c.args.leader in
    let f = c.if-leader-eq0.false in
    let le : 1 ≤ leader = omega (arith, f) in
    c.place_leads.ensures
    ∙ ap (λ (l : List Seat). place_leads c.args.epoch l (leader - 1)) c.as_slice.ensures.value
    ∙ ap (λ (r : ReplicaState). place_leads c.args.epoch r.cluster.seats (leader - 1)) c.self.view_is
    ∙ leads_at c.args.self.now.cluster leader c.args.epoch le
