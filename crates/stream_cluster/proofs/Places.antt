-- Members by their numbers, from 1 on, and seats by their places, from 0 on.
use Rattle.std.proofs.Common.{◌≡◌, ◌≤◌, ◌<◌, ◌-◌, ℕ, zero, suc, Bool, true, false, ◌&&◌, nat_lt, length, slice_index_or, refl, ap, arith}
use Rattle.replication_laws.specs.Cluster.{ClusterState, nobody}
use Rattle.cluster_core.specs.Up.{is_up, has_job}
use Rattle.stream_cluster.specs.Seats.{seat_up, seat_job}

pub number_of : (k : ℕ) → 1 ≤ k → suc (k - 1) ≡ k
number_of k le = omega (arith, le)

pub up_at : (w : ClusterState) (k : ℕ) → 1 ≤ k → seat_up w.seats (k - 1) ≡ is_up w k
up_at w zero le = absurd (omega (arith, le))
up_at w (suc i) le = let e : suc i - 1 ≡ i = omega arith in ap (seat_up w.seats) e

pub job_at : (w : ClusterState) (k : ℕ) → 1 ≤ k → seat_job w.seats (k - 1) ≡ has_job w k
job_at w zero le = absurd (omega (arith, le))
job_at w (suc i) le = let e : suc i - 1 ≡ i = omega arith in ap (seat_job w.seats) e

both : (a b : Bool) → (a && b) ≡ true → (a ≡ true) × (b ≡ true)
both true true h = (refl, refl)
both true false h = absurd (cc h)
both false b h = absurd (cc h)

less : (a b : ℕ) → nat_lt a b ≡ true → a < b
less a b h = grind (arith, h)

-- a member that is up has a seat
pub there : (w : ClusterState) (i : ℕ) → is_up w (suc i) ≡ true → i < length w.seats
there w i up = less i (length w.seats) (both (nat_lt i (length w.seats)) (slice_index_or w.seats i nobody).up up).0

pub seated : (w : ClusterState) (i : ℕ) → is_up w (suc i) ≡ true → (slice_index_or w.seats i nobody).up ≡ true
seated w i up = (both (nat_lt i (length w.seats)) (slice_index_or w.seats i nobody).up up).1
