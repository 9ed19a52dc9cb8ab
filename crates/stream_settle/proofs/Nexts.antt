-- What is next in a settle.
use Rattle.std.proofs.Common.{◌≡◌, inl, inr, ℕ, suc, ◌+◌, ◌<◌, ◌≤◌, Bool, true, false, ◌&&◌, List, ◌∷◌, length, drop, nat_lt, Option, Some, None, is_some, refl, sym, ap, ◌∙◌, subst, if◌then◌else◌, arith}
use Rattle.std.proofs.Math.Seq.{drop-cons}
use Rattle.std.proofs.Math.Numerals.{suc-eq-add-one}
use Rattle.std.proofs.lemmas.Bool.{ltb-true}
use Rattle.std.proofs.lemmas.List.{drop_all}
use Rattle.epoch_coordinator.specs.declared.message.Job.{Job}
use Rattle.replication_laws.specs.Cluster.{ClusterState, Seat, seat, member, nobody}
use Rattle.settling_laws.specs.Settling.{is_busy, job_from}
use Rattle.cluster_core.specs.States.{ReplicaState}
use Rattle.stream_cluster.specs.Leads.{is_member_up, JobShown, HasNoJob}
use Rattle.stream_settle.specs.Settles.{is_busy_at}

-- ---- one member

never : (a b : Bool) → a ≡ false → false ≡ (a && b)
never a b e = sym (ap (λ (x : Bool). x && b) e)

none_of : (a : Bool) (j : Option Job) → j ≡ None → false ≡ (a && is_some j)
none_of true j e = sym (ap is_some e)
none_of false j e = refl

pub not_busy : (k : ℕ) (r : ReplicaState) → HasNoJob k r → false ≡ is_busy_at k r.cluster
not_busy k r (inl down) = never (is_member_up r.cluster k) (is_some (member r.cluster k).job) down
not_busy k r (inr none) = none_of (is_member_up r.cluster k) (member r.cluster k).job none

both : (a : Bool) (j : Option Job) (job : Job) → a ≡ true → j ≡ Some job → true ≡ (a && is_some j)
both a j job up has = sym (ap (λ (x : Bool). x && is_some j) up ∙ ap is_some has)

pub busy : (k number : ℕ) (job : Job) (r : ReplicaState) → JobShown k number job r → true ≡ is_busy_at k r.cluster
busy k number job r shown = both (is_member_up r.cluster k) (member r.cluster k).job job shown.is_member shown.is_job

-- ---- the first

first_is : (k : ℕ) (s : Seat) (rest : List Seat) → is_busy s ≡ true → job_from k (s ∷ rest) ≡ Some k
first_is k s rest e = ap (λ (b : Bool). if b then Some k else job_from (k + 1) rest) e

passed_over : (k : ℕ) (s : Seat) (rest : List Seat) → is_busy s ≡ false → job_from k (s ∷ rest) ≡ job_from (k + 1) rest
passed_over k s rest e = ap (λ (b : Bool). if b then Some k else job_from (k + 1) rest) e

seat_busy : (i : ℕ) (w : ClusterState) (b : Bool) → nat_lt i (length w.seats) ≡ true → is_busy_at (suc i) w ≡ b → is_busy (seat w (suc i)) ≡ b
seat_busy i w b inside at = sym (ap (λ (t : Bool). (t && (seat w (suc i)).up) && is_some (seat w (suc i)).state.job) inside) ∙ at

inside_is : (i n : ℕ) → nat_lt i n ≡ true → i < n
inside_is i n inside = ltb-true i n inside

outside_is : (i n : ℕ) → nat_lt i n ≡ false → n ≤ i
outside_is i n outside = grind arith

found_by : (i : ℕ) (w : ClusterState) (inside : Bool) → nat_lt i (length w.seats) ≡ inside → is_busy_at (suc i) w ≡ true → job_from (suc i) (drop i w.seats) ≡ Some (suc i)
found_by i w true inside at =
    ap (job_from (suc i)) (drop-cons w.seats i nobody (inside_is i (length w.seats) inside)) ∙ first_is (suc i) (seat w (suc i)) (drop (suc i) w.seats) (seat_busy i w true inside at)
found_by i w false outside at = absurd (let no_one : false ≡ is_busy_at (suc i) w = sym (ap (λ (t : Bool). (t && (seat w (suc i)).up) && is_some (seat w (suc i)).state.job) outside) in cc (no_one, at))

pub found : (i k : ℕ) (w : ClusterState) → k ≡ suc i → is_busy_at k w ≡ true → job_from k (drop i w.seats) ≡ Some k
found i k w e at = subst (λ (n : ℕ). job_from n (drop i w.seats) ≡ Some n) (sym e) (found_by i w (nat_lt i (length w.seats)) refl (subst (λ (n : ℕ). is_busy_at n w ≡ true) e at))

passed_by : (i : ℕ) (w : ClusterState) (inside : Bool) → nat_lt i (length w.seats) ≡ inside → is_busy_at (suc i) w ≡ false → job_from (suc i) (drop i w.seats) ≡ job_from (suc i + 1) (drop (suc i) w.seats)
passed_by i w true inside at =
    ap (job_from (suc i)) (drop-cons w.seats i nobody (inside_is i (length w.seats) inside)) ∙ passed_over (suc i) (seat w (suc i)) (drop (suc i) w.seats) (seat_busy i w false inside at)
passed_by i w false outside at =
    let past = outside_is i (length w.seats) outside in
    ap (job_from (suc i)) (drop_all i w.seats past) ∙ sym (ap (job_from (suc i + 1)) (drop_all (suc i) w.seats (omega (arith, past))))

pub passed : (i k : ℕ) (w : ClusterState) → k ≡ suc i → is_busy_at k w ≡ false → job_from k (drop i w.seats) ≡ job_from (k + 1) (drop k w.seats)
passed i k w e at = subst (λ (n : ℕ). job_from n (drop i w.seats) ≡ job_from (n + 1) (drop n w.seats)) (sym e) (passed_by i w (nat_lt i (length w.seats)) refl (subst (λ (n : ℕ). is_busy_at n w ≡ false) e at))

pub none_left : (i k : ℕ) (seats : List Seat) → length seats ≤ i → job_from k (drop i seats) ≡ None
none_left i k seats few = ap (job_from k) (drop_all i seats few)

pub plus_one : (n : ℕ) → n + 1 ≡ suc n
plus_one n = sym (suc-eq-add-one n)
