-- What the next job and the next message are.
use Rattle.std.proofs.Common.{◌≡◌, ℕ, ◌+◌, ◌<◌, ◌≤◌, List, [], ◌∷◌, length, refl, sym, subst, arith, Option, Some, None, Bool, true, false, cond, zero, suc}
use Rattle.std.specs.Prelude.{◌&&◌, ◌==◌, not, nat_lt, is_some, slice_index_or}
use Rattle.epoch_coordinator.specs.declared.message.Sent.{Sent}
use Rattle.replication_laws.specs.Cluster.{Seat, Letter, ClusterState, nobody, seat, member, letter_in}
use Rattle.replication_laws.specs.Events.{IsUp, IsFree}
use Rattle.settling_laws.specs.Settling.{is_up, is_busy, job_from, next_job, is_due, due_in}
use Rattle.settling_laws.specs.Measures.{Rising}

pub both : (a b : Bool) → (a && b) ≡ true → (a ≡ true) × (b ≡ true)
both true true h = (refl, refl)
both true false h = absurd (cc h)
both false b h = absurd (cc h)

some_is : {A : Type 0} (j : Option A) → is_some j ≡ true → (x : A) × (j ≡ Some x)
some_is None h = absurd (cc h)
some_is (Some x) h = (x, refl)

none_is : {A : Type 0} (j : Option A) → is_some j ≡ false → j ≡ None
none_is None h = refl
none_is (Some x) h = absurd (cc h)

idle_by : (up : Bool) (b : Bool) → (up && b) ≡ false → up ≡ true → b ≡ false
idle_by true b h e = h
idle_by false b h e = absurd (cc e)

-- ---- jobs

record Busy (first : ℕ) (seats : List Seat) (k : ℕ) : Type 0 where
  pub place : ℕ
  pub is : k ≡ first + place
  pub within : place < length seats
  pub busy : is_busy (slice_index_or seats place nobody) ≡ true

job_at : (first : ℕ) (seats : List Seat) (k : ℕ) → job_from first seats ≡ Some k → Busy first seats k
job_at first [] k e = absurd (cc e)
job_at first (s ∷ seats) k e = go (is_busy s) refl e (job_at (first + 1) seats k)
  where
    go : (b : Bool) → is_busy s ≡ b → cond b (Some first) (job_from (first + 1) seats) ≡ Some k → (job_from (first + 1) seats ≡ Some k → Busy (first + 1) seats k) → Busy first (s ∷ seats) k
    go true y h on = (let same : first ≡ k = cc h in record { place = 0; is = omega (arith, same); within = omega arith; busy = y })
    go false n h on =
        let r = on h in
        record { place = suc r.place; is = (let i = r.is in omega (arith, i)); within = (let i = r.within in omega (arith, i)); busy = r.busy }

no_job_at : (first : ℕ) (seats : List Seat) → job_from first seats ≡ None → (i : ℕ) → is_busy (slice_index_or seats i nobody) ≡ false
no_job_at first [] e zero = refl
no_job_at first [] e (suc i) = refl
no_job_at first (s ∷ seats) e i = go (is_busy s) refl e i (no_job_at (first + 1) seats)
  where
    go : (b : Bool) → is_busy s ≡ b → cond b (Some first) (job_from (first + 1) seats) ≡ None → (i : ℕ) → (job_from (first + 1) seats ≡ None → (i : ℕ) → is_busy (slice_index_or seats i nobody) ≡ false) → is_busy (slice_index_or (s ∷ seats) i nobody) ≡ false
    go true y h i on = absurd (cc h)
    go false n h zero on = n
    go false n h (suc i) on = on h i

pub lt_true : (a b : ℕ) → a < b → nat_lt a b ≡ true
lt_true a b h = grind arith

pub true_lt : (a b : ℕ) → nat_lt a b ≡ true → a < b
true_lt a b h = grind arith

-- who is up by the test is up
pub up_is : (w : ClusterState) (k : ℕ) → is_up w k ≡ true → IsUp w k
up_is w zero u = u
up_is w (suc i) u =
    let p = both (nat_lt i (length w.seats)) (seat w (suc i)).up u in
    ((omega arith, (let lt = true_lt i (length w.seats) p.0 in omega (arith, lt))), p.1)

pub is_up_by : (w : ClusterState) (k : ℕ) → IsUp w k → is_up w k ≡ true
is_up_by w zero u = u
is_up_by w (suc i) u = (let lt = lt_true i (length w.seats) (omega (arith, u.0.1)) in rw (lt, u.1) refl)

-- the coordinator has a job, which is an epoch; or a member does
pub data JobOf (w : ClusterState) (k : ℕ) : Type 0 where
  Of_coordinator : (epoch : ℕ) → k ≡ 0 → w.coordinator_up ≡ true → w.coordinator.job ≡ Some epoch → JobOf w k
  Of_member : (i : ℕ) → k ≡ suc i → IsUp w (suc i) → is_some (member w (suc i)).job ≡ true → JobOf w k

pub job_of : (w : ClusterState) (k : ℕ) → next_job w ≡ Some k → JobOf w k
job_of w k e = go (w.coordinator_up && is_some w.coordinator.job) refl e
  where
    go : (b : Bool) → (w.coordinator_up && is_some w.coordinator.job) ≡ b → cond b (Some 0) (job_from 1 w.seats) ≡ Some k → JobOf w k
    go true y h =
        let p = both w.coordinator_up (is_some w.coordinator.job) y in
        let j = some_is w.coordinator.job p.1 in
        let same : 0 ≡ k = cc h in
        Of_coordinator j.0 (sym same) p.0 j.1
    go false n h =
        let r = job_at 1 w.seats k h in
        let s = slice_index_or w.seats r.place nobody in
        let p = both s.up (is_some s.state.job) r.busy in
        Of_member r.place (let i = r.is in omega (arith, i)) ((omega arith, (let i = r.within in omega (arith, i))), p.0) p.1

pub job_is_up : (w : ClusterState) (k : ℕ) → next_job w ≡ Some k → IsUp w k
job_is_up w k e = go (job_of w k e)
  where
    go : JobOf w k → IsUp w k
    go (Of_coordinator epoch is up job) = subst (IsUp w) (sym is) up
    go (Of_member i is up job) = subst (IsUp w) (sym is) up

-- with no job pending who is up is free
pub free_is : (w : ClusterState) (k : ℕ) → next_job w ≡ None → IsUp w k → IsFree w k
free_is w k e up = go (w.coordinator_up && is_some w.coordinator.job) refl e k up
  where
    go : (b : Bool) → (w.coordinator_up && is_some w.coordinator.job) ≡ b → cond b (Some 0) (job_from 1 w.seats) ≡ None → (k : ℕ) → IsUp w k → IsFree w k
    go true y h k up = absurd (cc h)
    go false n h zero up = (up, none_is w.coordinator.job (idle_by w.coordinator_up (is_some w.coordinator.job) n up))
    go false n h (suc i) up = (up, none_is (member w (suc i)).job (idle_by (seat w (suc i)).up (is_some (member w (suc i)).job) (no_job_at 1 w.seats h i) up.1))

-- ---- messages

-- the next message is behind a number, is no further than the last, and its receiver is up
pub record DueIs (w : ClusterState) (low : ℕ) (mail : List Letter) (last number : ℕ) : Type 0 where
  pub sent : Sent
  pub is : letter_in number mail ≡ Some sent
  pub up : is_up w sent.to ≡ true
  pub behind : low < number
  pub reached : number ≤ last

pub rising_last : (low : ℕ) (mail : List Letter) (last : ℕ) → Rising low mail last → low ≤ last
rising_last low [] last r = r
rising_last low (l ∷ mail) last r = (let x = rising_last l.number mail last r.1 in let y = r.0 in omega (arith, x, y))

pub same_number : (n : ℕ) → (n == n) ≡ true
same_number n = grind arith

pub other_number : (a b : ℕ) → a < b → (a == b) ≡ false
other_number a b lt = grind arith

pub due_is : (w : ClusterState) (low : ℕ) (mail : List Letter) (last number : ℕ) → Rising low mail last → due_in w mail ≡ Some number → DueIs w low mail last number
due_is w low [] last number r e = absurd (cc e)
due_is w low (l ∷ mail) last number r e = go (is_due w l) refl e (due_is w l.number mail last number r.1)
  where
    go : (b : Bool) → is_due w l ≡ b → cond b (Some l.number) (due_in w mail) ≡ Some number → (due_in w mail ≡ Some number → DueIs w l.number mail last number) → DueIs w low (l ∷ mail) last number
    go true y h on =
        let same : l.number ≡ number = cc h in
        let p = both (not l.delivered) (is_up w l.sent.to) y in
        record {
          sent = l.sent;
          is = subst (λ (n : ℕ). cond (l.number == n) (Some l.sent) (letter_in n mail) ≡ Some l.sent) same (rw (same_number l.number) refl);
          up = p.1;
          behind = subst (λ (n : ℕ). low < n) same r.0;
          reached = subst (λ (n : ℕ). n ≤ last) same (rising_last l.number mail last r.1);
        }
    go false n h on =
        let d = on h in
        record {
          sent = d.sent;
          is = rw (other_number l.number number d.behind) d.is;
          up = d.up;
          behind = (let x = d.behind in let y = r.0 in omega (arith, x, y));
          reached = d.reached;
        }
