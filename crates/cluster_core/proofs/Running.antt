-- The epoch that runs, and its leader.
use Rattle.std.proofs.Common.{◌≡◌, ◌≤◌, ◌<◌, ℕ, zero, suc, Bool, true, false, cond, ◌&&◌, ◌==◌, nat_lt, Option, Some, None, length, refl, sym, ap, ◌∙◌, arith}
use Rattle.epoch_coordinator.specs.declared.coordinator.Phase.{Phase}
use Rattle.epoch_coordinator.specs.declared.coordinator.Phase.TheVariants.{Idle, Electing, Running}
use Rattle.replication_laws.specs.Cluster.{ClusterState, seat, member, IsMember, durable, is_opened, RunsWith}
use Rattle.replication_laws.specs.Events.{IsUp}
use Rattle.cluster_core.specs.Up.{is_up, is_open_in, running_by, running, leader_by}

both : (a b : Bool) → (a && b) ≡ true → (a ≡ true) × (b ≡ true)
both true true h = (refl, refl)
both true false h = absurd (cc h)
both false b h = absurd (cc h)

and : (a b : Bool) → a ≡ true → b ≡ true → (a && b) ≡ true
and a b p q = rw p q

less : (a b : ℕ) → nat_lt a b ≡ true → a < b
less a b h = grind arith

is_less : (a b : ℕ) → a < b → nat_lt a b ≡ true
is_less a b h = grind arith

same : (a b : ℕ) → (a == b) ≡ true → a ≡ b
same a b h = grind arith

is_same : (a b : ℕ) → a ≡ b → (a == b) ≡ true
is_same a b h = grind arith

pub up_is : (w : ClusterState) (k : ℕ) → is_up w k ≡ true → IsUp w k
up_is w zero h = h
up_is w (suc i) h = let p = both (nat_lt i (length w.seats)) (seat w (suc i)).up h in let lt = less i (length w.seats) p.0 in ((omega arith, omega (arith, lt)), p.1)

pub up_of_member : (w : ClusterState) (k : ℕ) → IsMember w k → (seat w k).up ≡ true → is_up w k ≡ true
up_of_member w zero m h = absurd (let z = m.0 in omega (arith, z))
up_of_member w (suc i) m h = and _ _ (is_less i (length w.seats) (let z = m.1 in omega (arith, z))) h

pub member_of_up : (w : ClusterState) (k : ℕ) → 1 ≤ k → is_up w k ≡ true → IsMember w k × ((seat w k).up ≡ true)
member_of_up w zero some h = absurd (omega (arith, some))
member_of_up w (suc i) some h = let u = up_is w (suc i) h in (u.0, u.1)

-- ---- the running epoch

some_if : (b : Bool) (n e : ℕ) → cond {A = Option ℕ} b (Some n) None ≡ Some e → (b ≡ true) × (n ≡ e)
some_if true n e h = (refl, cc h)
some_if false n e h = absurd (cc h)

runs_by : (p : Phase) (w : ClusterState) (e : ℕ) → w.coordinator.phase ≡ p → running_by p w ≡ Some e → RunsWith w e (leader_by p)
runs_by Idle w e is h = absurd (cc h)
runs_by Electing w e is h = absurd (cc h)
runs_by (Running leader) w e is h =
    let s = some_if (w.coordinator_up && is_open_in w leader (durable w)) (durable w) e h in
    let a = both w.coordinator_up (is_open_in w leader (durable w)) s.0 in
    let c = both (is_up w leader && ((member w leader).promise == durable w)) (is_opened (member w leader).role) a.1 in
    let b = both (is_up w leader) ((member w leader).promise == durable w) c.0 in
    record {
      coordinated = a.0;
      phase = is;
      epoch_is = s.1;
      is_member = (leads w leader b.0 c.1).0;
      leader_up = (leads w leader b.0 c.1).1;
      promised = same (member w leader).promise (durable w) b.1 ∙ s.1;
      is_open = c.1;
    }
  where
    leads : (w : ClusterState) (k : ℕ) → is_up w k ≡ true → is_opened (member w k).role ≡ true → IsMember w k × ((seat w k).up ≡ true)
    leads w zero u o = absurd (cc o)
    leads w (suc i) u o = let x = up_is w (suc i) u in (x.0, x.1)

pub runs : (w : ClusterState) (e : ℕ) → running w ≡ Some e → RunsWith w e (leader_by w.coordinator.phase)
runs w e h = runs_by w.coordinator.phase w e refl h

pub running_of : (w : ClusterState) (e k : ℕ) → RunsWith w e k → running w ≡ Some e
running_of w e k r =
    let up = up_of_member w k r.is_member r.leader_up in
    let promise = is_same (member w k).promise (durable w) (r.promised ∙ sym r.epoch_is) in
    let first = and (is_up w k) ((member w k).promise == durable w) up promise in
    let inner : is_open_in w k (durable w) ≡ true = and (is_up w k && ((member w k).promise == durable w)) (is_opened (member w k).role) first r.is_open in
    let b : (w.coordinator_up && is_open_in w k (durable w)) ≡ true = and w.coordinator_up (is_open_in w k (durable w)) r.coordinated inner in
    ap (λ p. running_by p w) r.phase ∙ ap (λ (x : Bool). cond {A = Option ℕ} x (Some (durable w)) None) b ∙ ap Some r.epoch_is
