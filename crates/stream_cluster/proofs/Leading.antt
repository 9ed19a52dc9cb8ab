-- Who leads, and the epoch that runs.
use Rattle.std.proofs.Common.{◌≡◌, ◌≤◌, ◌-◌, ℕ, zero, suc, Bool, true, false, cond, ◌&&◌, ◌==◌, nat_lt, List, length, slice_index_or, Option, Some, None, refl, sym, ap, subst, ◌∙◌, arith}
use Rattle.chunk_format.specs.declared.chunk.Chunk.{Chunk}
use Rattle.epoch_coordinator.specs.declared.coordinator.Phase.{Phase}
use Rattle.epoch_coordinator.specs.declared.coordinator.Phase.TheVariants.{Idle, Electing, Running}
use Rattle.epoch_coordinator.specs.Members.{MemberRole, Stopped, Follower, Leader}
use Rattle.epoch_coordinator.specs.Coordinators.{CoordinatorState, running_in}
use Rattle.replication_laws.specs.Cluster.{ClusterState, Seat, nobody, durable, is_opened}
use Rattle.member_core.specs.States.{is_open}
use Rattle.cluster_core.specs.declared.mail.Numbered.{Numbered}
use Rattle.cluster_core.specs.States.{ReplicaState, cluster_of, state_of}
use Rattle.cluster_core.specs.Up.{is_open_in, running_by, running}
use Rattle.stream_cluster.specs.Leads.{place_leads}

pub opened_is : (role : MemberRole) → is_open role ≡ is_opened role
opened_is Stopped = refl
opened_is (Follower leader) = refl
opened_is (Leader l) = refl

never : (a b : Bool) → (a && b && false) ≡ false
never true true = refl
never true false = refl
never false b = refl

pub nobody_leads : (w : ClusterState) (epoch : ℕ) → is_open_in w 0 epoch ≡ false
nobody_leads w epoch = never w.coordinator_up (0 == epoch)

regroup : (a b c d : Bool) → (a && (b && c && d)) ≡ ((a && b) && c && d)
regroup true b c d = refl
regroup false b c d = refl

pub leads_at : (w : ClusterState) (leader epoch : ℕ) → 1 ≤ leader → place_leads epoch w.seats (leader - 1) ≡ is_open_in w leader epoch
leads_at w zero epoch le = absurd (omega (arith, le))
leads_at w (suc i) epoch le =
    let e : suc i - 1 ≡ i = omega arith in
    let s = slice_index_or w.seats i nobody in
    ap (place_leads epoch w.seats) e ∙ regroup (nat_lt i (length w.seats)) s.up (s.state.promise == epoch) (is_opened s.state.role)

pub none_runs : (phase : Phase) (w : ClusterState) → running_in phase (durable w) ≡ None → running_by phase w ≡ None
none_runs Idle w e = refl
none_runs Electing w e = refl
none_runs (Running leader) w e = absurd (cc e)

abbrev epoch_in : Option (ℕ × ℕ) → ℕ
epoch_in None = 0
epoch_in (Some p) = p.0

abbrev leader_in : Option (ℕ × ℕ) → ℕ
leader_in None = 0
leader_in (Some p) = p.1

runs_by : (phase : Phase) (w : ClusterState) (epoch leader : ℕ) → running_in phase (durable w) ≡ Some (epoch, leader) → running_by phase w ≡ cond {A = Option ℕ} (w.coordinator_up && is_open_in w leader epoch) (Some epoch) None
runs_by Idle w epoch leader h = absurd (cc h)
runs_by Electing w epoch leader h = absurd (cc h)
runs_by (Running k) w epoch leader h =
    let a : durable w ≡ epoch = ap epoch_in h in
    let b : k ≡ leader = ap leader_in h in
    ap (λ (n : ℕ). cond {A = Option ℕ} (w.coordinator_up && is_open_in w n (durable w)) (Some (durable w)) None) b ∙ ap (λ (n : ℕ). cond {A = Option ℕ} (w.coordinator_up && is_open_in w leader n) (Some n) None) a

module _ (seats : List Seat) (c : CoordinatorState) (mail : List Numbered) (last : ℕ) (committed : List Chunk) (numbers : List ℕ) (r : ReplicaState) where
  pub runs_down : (up : Bool) → state_of seats up c mail last committed numbers ≡ r → up ≡ false → ◌≡◌ {A = Option ℕ} None (running r.cluster)
  runs_down true view u = absurd (cc u)
  runs_down false view u = subst (λ (x : ReplicaState). ◌≡◌ {A = Option ℕ} None (running x.cluster)) view refl

  pub runs_idle : (up : Bool) → state_of seats up c mail last committed numbers ≡ r → up ≡ true → running_in c.phase c.epoch ≡ None → ◌≡◌ {A = Option ℕ} None (running r.cluster)
  runs_idle false view u h = absurd (cc u)
  runs_idle true view u h = subst (λ (x : ReplicaState). ◌≡◌ {A = Option ℕ} None (running x.cluster)) view (sym (none_runs c.phase (cluster_of seats true c mail last committed) h))

  pub runs_so : (up : Bool) (epoch leader : ℕ) (b : Bool) → state_of seats up c mail last committed numbers ≡ r → up ≡ true → running_in c.phase c.epoch ≡ Some (epoch, leader) → is_open_in r.cluster leader epoch ≡ b → cond {A = Option ℕ} b (Some epoch) None ≡ running r.cluster
  runs_so false epoch leader b view u h is = absurd (cc u)
  runs_so true epoch leader b view u h is =
      let w = cluster_of seats true c mail last committed in
      let here = subst (λ (x : ReplicaState). is_open_in x.cluster leader epoch ≡ b) (sym view) is in
      subst (λ (x : ReplicaState). cond {A = Option ℕ} b (Some epoch) None ≡ running x.cluster) view (sym (runs_by c.phase w epoch leader h ∙ ap (λ (y : Bool). cond {A = Option ℕ} y (Some epoch) None) here))
