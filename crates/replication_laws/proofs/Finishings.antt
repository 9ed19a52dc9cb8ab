-- What a member does when its job is done, and when it comes up, leaves a sound state sound.
use Rattle.std.proofs.Common.{◌≡◌, ℕ, ◌≢◌, List, [], ◌∷◌, ◌++◌, map, refl, sym, ap, ◌∙◌, subst, append_assoc, inl, inr, arith, Option, Some, None, Bool, true, false, cond, ◌↔◌}
use Rattle.std.specs.List.{AllByRecursion}
use Rattle.std.proofs.lemmas.List.{append-nil}
use Rattle.chunk_format.specs.declared.chunk.Chunk.{Chunk}
use Rattle.chunk_format.specs.Logs.{GoesOn, end_of, last_epoch, Linked, IsLog, HasRun}
use Rattle.chunk_format.proofs.LinkLaws.{epoch_push}
use Rattle.epoch_coordinator.specs.declared.message.Job.{Job}
use Rattle.epoch_coordinator.specs.declared.message.Job.TheVariants.{Write, Cut, Promise, Epoch}
use Rattle.epoch_coordinator.specs.declared.message.Message.TheVariants as messages
use Rattle.epoch_coordinator.specs.declared.message.Sent.{Sent}
use Rattle.epoch_coordinator.specs.declared.tail.Run.{Run}
use Rattle.epoch_coordinator.specs.Tails.{tail_of, runs_of}
use Rattle.epoch_coordinator.specs.Members.{Leading, MemberRole, MemberState, Stopped, Follower, Leader}
use Rattle.epoch_coordinator.specs.MemberSteps.{mail, cut_at, asks_by, other_members, next_job, written, wrote, finished_by, finished}
use Rattle.replication_laws.specs.Cluster.{ClusterState, seat, member, IsMember, put, send, HoldsBy, Holds, MayPromise, is_opened, InRuns}
use Rattle.replication_laws.specs.Soundness.{Tree, IsRooted, LeadsEpoch, IsQuiet, LeadsWith, JobHolds, LeaderHolds, RoleHolds, LeaderLine, LineHolds, TreeHolds, Sound, ShapeHolds}
use Rattle.replication_laws.proofs.Logs.{same_begins, begins_as, none_begins, rooted_front}
use Rattle.replication_laws.proofs.Frame.{elects_on}
use Rattle.replication_laws.proofs.Carry.{is_tree, role_on}
use Rattle.replication_laws.proofs.Sounds.{After}
use Rattle.replication_laws.proofs.Followers.{is_up, done_promise, done_append, done_cut, restart}
use Rattle.replication_laws.proofs.Walks.{runs_to, runs_from, cut_front}
use Rattle.replication_laws.proofs.Leaders.{next_holds, next_job_holds, next_line_holds, own_written}
use Rattle.replication_laws.proofs.Moves.{MoveOf, Stays, Next, Did, put_next, sequence_as, log_begins, held_begins, falls, next_sequence, silent_sound}

-- a log from before the leader's first chunk is the one from which the reign began
fresh_base : (g : Tree) (w : ClusterState) (o p : ℕ) (log : List Chunk) → TreeHolds g w o → LeadsWith g p log → last_epoch log ≢ p → log ≡ g.base p
fresh_base g w o p log t (inl x) ne = x.1
fresh_base g w o p log t (inr x) ne = elim (t.ends p) [
  | inl nil ↦ (let e : log ≡ [] = x.0 ∙ nil in e ∙ sym (none_begins (g.base p) (begins_as (g.base p) log [] e x.1)))
  | inr te ↦ absurd (ne (ap last_epoch x.0 ∙ te))
]

-- the runs that an opened leader keeps are those of its reign
kept_runs : (g : Tree) (w : ClusterState) (o p : ℕ) (log : List Chunk) (kept : List Run) → TreeHolds g w o → IsLog log → LeadsWith g p log
    → (b : Bool) → (b ≡ true → ShapeHolds g p kept) → (b ≡ false → last_epoch log ≢ p) → ShapeHolds g p (cond b kept (runs_of log))
kept_runs g w o p log kept t is l true shape fresh = shape refl
kept_runs g w o p log kept t is l false shape fresh =
    subst (λ (x : List Chunk). (d m : ℕ) → InRuns (runs_of log) d m ↔ HasRun x d m) (fresh_base g w o p log t l (fresh refl))
    (λ d m. (runs_to (record { epoch = d; end = m }) 0 0 log is, runs_from (record { epoch = d; end = m }) 0 0 log is))

-- a leader's chunk goes to each of these
each_append : (p : ℕ) (m : MemberState) (c : Chunk) (ks : List ℕ) → AllByRecursion (λ (x : Sent). (to : ℕ) × (x ≡ mail to (messages.Append p (tail_of m.log) c))) (map (λ (k : ℕ). mail k (messages.Append p (tail_of m.log) c)) ks)
each_append p m c [] = tt
each_append p m c (k ∷ ks) = ((k, refl), each_append p m c ks)

wrote_sound : (g : Tree) (w : ClusterState) (o k : ℕ) (c : Chunk) → Sound g o w → IsMember w k → (seat w k).up ≡ true → (member w k).job ≡ Some (Write c)
    → (r : MemberRole) → (member w k).role ≡ r → Did g w o k (wrote r c (member w k))
wrote_sound g w o k c s lt up job Stopped role = (let z : IsQuiet (Some (Write c)) = rw (role, job) at ((s.each_member k).line up) in absurd z)
wrote_sound g w o k c s lt up job (Follower l) role =
    let m = member w k in
    let n : MemberState = record m { log = m.log ++ c ∷ []; job = None } in
    put_next o w g g k (is_up n) (mail l (messages.Ask m.promise m.number (tail_of (m.log ++ c ∷ []))) ∷ []) lt (done_append g w o k l c s lt job role)
    (falls g.canon m n (m.log ++ c ∷ []) (ap is_opened role) (sequence_as n None (Follower l) refl role ∙ append-nil (m.log ++ c ∷ []))
    (held_begins m (m.log ++ c ∷ []) (rw job (inr refl))))
wrote_sound g w o k c s lt up job (Leader l) role =
    let m = member w k in
    let h = s.each_member k in
    let p = m.promise in
    let log = m.log ++ c ∷ [] in
    let q : Leading = written m.log l in
    let n : MemberState = record m { log = log; job = next_job l.queue; role = Leader q } in
    let ms = map (λ (j : ℕ). mail j (messages.Append p (tail_of m.log) c)) (other_members m.members m.number) in
    let rh : LeaderHolds g w k p l = subst (RoleHolds g w k p) role h.role in
    let lh : LeaderLine p m.log (Some (Write c)) l = rw (role, job) at (h.line up) in
    let jh : JobHolds g w k p m.log (Some (Write c)) = rw job at h.job in
    let ce : c.epoch ≡ p = elim jh.3 [ inl x ↦ x.0 | inr x ↦ absurd (x.0 rh.leads) ] in
    let on : Linked (end_of log) (last_epoch log) l.queue = lh.goes_on in
    let new : RoleHolds g w k p (Leader q) = record {
      leads = rh.leads;
      asked = rh.asked;
      places = rh.places;
      own = rh.own;
      kept = λ z. kept_runs g w o p m.log l.kept s.tree h.is_log (h.leads rh.leads) l.opened rh.kept (λ f. (lh.is_new f).0);
    } in
    let r = own_written g w o k c (next_job l.queue) (Leader q) ms s lt job rh.leads
    (λ x y. next_holds l.queue log x p lh.own_epoch y)
    (λ g' x same. next_job_holds g' x k p log l.queue (rh.leads.0, rw same rh.leads.1, rh.leads.2) on lh.own_epoch)
    (next_line_holds p log l.queue q on lh.own_epoch (epoch_push m.log c ∙ ce) refl refl)
    (λ g' x same logs a. role_on g g' w x k p logs a (λ e j n. elects_on g g' w x e j n logs a same) (Leader q) new)
    (each_append p m c (other_members m.members m.number)) in
    put_next o w g r.0 k (is_up n) ms lt r.1
    (Stays (next_sequence log l.queue ∙ (append_assoc m.log (c ∷ []) l.queue ∙ sym (sequence_as m (Some (Write c)) (Leader l) job role))))

cut_sound : (g : Tree) (w : ClusterState) (o k end : ℕ) → Sound g o w → IsMember w k → (seat w k).up ≡ true → (member w k).job ≡ Some (Cut end)
    → (r : MemberRole) → (member w k).role ≡ r → Did g w o k (asks_by r (record (member w k) { log = cut_at end (member w k).log; job = None }))
cut_sound g w o k end s lt up job Stopped role = (let z : IsQuiet (Some (Cut end)) = rw (role, job) at ((s.each_member k).line up) in absurd z)
cut_sound g w o k end s lt up job (Leader l) role = (let lh : LeaderLine (member w k).promise (member w k).log (Some (Cut end)) l = rw (role, job) at ((s.each_member k).line up) in absurd (lh.writes))
cut_sound g w o k end s lt up job (Follower l) role =
    let m = member w k in
    let h = s.each_member k in
    let jh : JobHolds g w k m.promise m.log (Some (Cut end)) = rw job at h.job in
    let front = jh.2.0 in
    let same : cut_at end m.log ≡ front = ap (λ (x : ℕ). cut_at x m.log) (sym jh.2.2) ∙ cut_front front m.log jh.2.1 h.is_log in
    let p = cut_at end m.log in
    let begins : GoesOn p m.log = subst (λ (x : List Chunk). GoesOn x m.log) (sym same) jh.2.1 in
    let n : MemberState = record m { log = p; job = None } in
    put_next o w g g k (is_up n) (mail l (messages.Ask m.promise m.number (tail_of p)) ∷ []) lt
    (done_cut g w o k l end p s lt job role begins (let e = ap end_of same in omega (arith, e, jh.2.2)))
    (falls g.canon m n p (ap is_opened role) (sequence_as n None (Follower l) refl role ∙ append-nil p)
    (held_begins m p (rw job (begins, (let e = ap end_of same in omega (arith, e, jh.2.2))))))

promised_role : (promise e : ℕ) (log : List Chunk) (r : MemberRole) → LineHolds promise log (Some (Promise e)) r → r ≡ Stopped
promised_role promise e log Stopped h = refl
promised_role promise e log (Follower l) h = absurd h
promised_role promise e log (Leader l) h = absurd h.writes

finished_by_job : (g : Tree) (w : ClusterState) (o k : ℕ) → Sound g o w → IsMember w k → (seat w k).up ≡ true → (j : Option Job) → (member w k).job ≡ j → Did g w o k (finished_by j (member w k))
finished_by_job g w o k s lt up None job = silent_sound g w o k s lt up
finished_by_job g w o k s lt up (Some (Epoch e)) job = (let z : ⊥ = rw job at ((s.each_member k).job) in absurd z)
finished_by_job g w o k s lt up (Some (Write c)) job = wrote_sound g w o k c s lt up job (member w k).role refl
finished_by_job g w o k s lt up (Some (Cut end)) job = cut_sound g w o k end s lt up job (member w k).role refl
finished_by_job g w o k s lt up (Some (Promise e)) job =
    let m = member w k in
    let n : MemberState = record m { promise = e; job = None } in
    let lh : LineHolds m.promise m.log (Some (Promise e)) m.role = subst (λ (j : Option Job). LineHolds m.promise m.log j m.role) job ((s.each_member k).line up) in
    let role = promised_role m.promise e m.log m.role lh in
    put_next o w g g k (is_up n) (mail 0 (messages.Stopped e m.number (tail_of m.log)) ∷ []) lt (done_promise g w o k e s lt job role)
    (falls g.canon m n m.log (ap is_opened role) (sequence_as n None Stopped refl role ∙ append-nil m.log) (log_begins m))

pub finished_sound : (g : Tree) (w : ClusterState) (o k : ℕ) → Sound g o w → IsMember w k → (seat w k).up ≡ true → Did g w o k (finished (member w k))
finished_sound g w o k s lt up = finished_by_job g w o k s lt up (member w k).job refl

-- ---- a member comes up

pub restart_sound : (g : Tree) (w : ClusterState) (o k p : ℕ) (log : List Chunk) → Sound g o w → IsMember w k → Holds (member w k) log → MayPromise (member w k) p
    → Next o w (send (put w k (is_up (record (member w k) { role = Stopped; promise = p; log = log; job = None }))) []) g
restart_sound g w o k p log s lt held pe = go m.job refl held (s.each_member k).job
  where
    m : MemberState
    m = member w k

    n : MemberState
    n = record m { role = Stopped; promise = p; log = log; job = None }

    w' : ClusterState
    w' = send (put w k (is_up n)) []

    to : (canon : ℕ → List Chunk) → MoveOf canon m n
    to canon = falls canon m n log refl (append-nil log) (held_begins m log held)

    plain : IsRooted g.canon log → (LeadsEpoch w m.promise k → log ≡ m.log) → Next o w w' g
    plain r l = put_next o w g g k (is_up n) [] lt (restart g w o k p log s lt held r l pe) (to g.canon)

    rooted : log ≡ m.log → IsRooted g.canon log
    rooted e = rw e (s.each_member k).rooted

    own : (c : Chunk) → m.job ≡ Some (Write c) → log ≡ m.log ++ c ∷ [] → p ≡ m.promise → LeadsEpoch w m.promise k → Next o w w' g
    own c job e same leads =
        let r = own_written g w o k c None Stopped [] s lt job leads
        (λ x y. (same_begins (m.log ++ c ∷ []) x (sym y), inl y)) (λ g' x same. tt) tt (λ g' x same logs a. tt) tt in
        put_next o w g r.0 k (is_up n) [] lt
        (subst (λ (x : MemberState). After g o w r.0 (send (put w k (is_up x)) []))
        (sym (ap (λ (l : List Chunk). record m { role = Stopped; promise = p; log = l; job = None }) e
        ∙ ap (λ (x : ℕ). record m { role = Stopped; promise = x; log = m.log ++ c ∷ []; job = None }) same)) r.1)
        (to r.0.canon)

    go : (j : Option Job) → m.job ≡ j → HoldsBy j m.log log → JobHolds g w k m.promise m.log j → Next o w w' g
    go None job h jh = plain (rooted h) (λ l. h)
    go (Some (Promise e)) job h jh = plain (rooted h) (λ l. h)
    go (Some (Epoch e)) job h jh = absurd jh
    go (Some (Write c)) job (inl h) jh = plain (rooted h) (λ l. h)
    go (Some (Write c)) job (inr h) jh = elim jh.3 [
      | inr y ↦ plain (rw h y.1) (λ l. absurd (y.0 l))
      | inl y ↦ elim pe [ inl x ↦ own c job h x y.1 | inr x ↦ (let z : Some (Write c) ≡ Some (Promise p) = sym job ∙ x in absurd cc) ]
    ]
    go (Some (Cut to)) job h jh = plain (rooted_front g.canon log m.log (is_tree g w o s.tree) (s.each_member k).rooted h.0) (λ l. absurd (jh.1 l))
