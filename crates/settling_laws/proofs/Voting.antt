-- A settle in which an epoch is elected.
use Rattle.std.proofs.Common.{◌≡◌, ℕ, ◌<◌, ◌≢◌, ◌⊎◌, List, [], ◌∷◌, ◌++◌, length, refl, sym, ap, ◌∙◌, subst, inl, inr, arith, Option, Some, None, true, zero, suc}
use Rattle.std.specs.Prelude.{slice_index_or}
use Rattle.std.proofs.lemmas.Bool.{cases_eq}
use Rattle.chunk_format.specs.declared.chunk.Chunk.{Chunk}
use Rattle.chunk_format.specs.Logs.{Truthful}
use Rattle.epoch_coordinator.specs.declared.tail.Tail.{Tail}
use Rattle.epoch_coordinator.specs.declared.message.Job.{Job}
use Rattle.epoch_coordinator.specs.declared.message.Job.TheVariants.{Write, Cut, Promise, Epoch}
use Rattle.epoch_coordinator.specs.declared.message.Message.{Message}
use Rattle.epoch_coordinator.specs.declared.message.Message.TheVariants as messages
use Rattle.epoch_coordinator.specs.declared.message.Sent.{Sent}
use Rattle.epoch_coordinator.specs.declared.coordinator.Phase.TheVariants.{Electing, Running}
use Rattle.epoch_coordinator.specs.Tails.{tail_of}
use Rattle.epoch_coordinator.specs.Coordinators as coordinators
use Rattle.epoch_coordinator.specs.Coordinators.{CoordinatorState}
use Rattle.epoch_coordinator.specs.Members.{MemberRole, MemberState, Stopped, Follower, Leader}
use Rattle.epoch_coordinator.specs.MemberSteps.{Took, mail, nudged_by, finished, finished_by, asks_by, wrote, cut_at, taken}
use Rattle.replication_laws.specs.Cluster.{Seat, Reign, ClusterState, seat, member, IsMember, last_number, numbered, send, letter_in, marked, RunsWith}
use Rattle.replication_laws.specs.Events.{IsFree, took, comes, begins, performed, to_coordinator, nudges, ClusterStep}
use Rattle.replication_laws.specs.Events as events
use Rattle.replication_laws.specs.Properties.{SoundWith}
use Rattle.replication_laws.specs.Soundness.{Sound, Tree}
use Rattle.replication_laws.proofs.Properties.{event_with}
use Rattle.replication_laws.proofs.Snapshots.{truthful_property}
use Rattle.replication_laws.proofs.Sounds.{count_put}
use Rattle.settling_laws.specs.Settling.{is_up, next_job, Receipt, Fault, Stage, Jobs, Letters, Rest, Turn, bare, turn, SettleStep, Perform, Nudge, Follow_up, Deliver, Forget, last_turn, with_reigns}
use Rattle.settling_laws.specs.Measures.{IsInOrder}
use Rattle.settling_laws.specs.Tokens.{OnItsWay, Behind, HasTokens}
use Rattle.settling_laws.specs.Electing.{Electing_in, Elects_next, HasWords, IsLost}
use Rattle.settling_laws.specs.Clean.{IsPerformed, CleanStep, CleanSteps, HasMost, IsComplete}
use Rattle.settling_laws.proofs.Nexts.{JobOf, Of_coordinator, Of_member, job_of, job_is_up, up_is, free_is, due_is}
use Rattle.settling_laws.proofs.Mails.{way_more, way_behind, way_marked, way_sent, IsOf}
use Rattle.settling_laws.proofs.Evented.{comes_apart, performed_apart, free_with, step_order}
use Rattle.settling_laws.proofs.Ending.{at_rest}
use Rattle.settling_laws.proofs.Heard.{promise_stays}
use Rattle.settling_laws.proofs.Bringing.{member_is, seat_same}
use Rattle.settling_laws.proofs.Working.{CoordinatorTook, Passes, Tells_back, coordinator_took}
use Rattle.settling_laws.proofs.Completing.{Going, Onward, Goes, Ends, onward, runs_of, run_complete}
use Rattle.settling_laws.proofs.Nudging.{nudged_is}
use Rattle.settling_laws.proofs.Electing.{elect_stopped, Elected, Goes_on, Runs, Is_lost, word_comes}

-- ---- words go on where nobody is elected

words_on : (w w' : ClusterState) (e : ℕ) → HasWords w e → w'.coordinator_up ≡ w.coordinator_up → w'.coordinator ≡ w.coordinator
    → ((i : ℕ) → i < length w'.seats → (seat w' (suc i)).up ≡ true → (member w' (suc i)).promise ≡ e
    → ((i < length w.seats) × ((seat w (suc i)).up ≡ true) × ((member w (suc i)).promise ≡ e)) ⊎ ((t : Tail) × OnItsWay (Behind 0) (mail 0 (messages.Stopped e (suc i) t)) w'.mail))
    → ((i : ℕ) (t : Tail) → OnItsWay (Behind 0) (mail 0 (messages.Stopped e (suc i) t)) w.mail → OnItsWay (Behind 0) (mail 0 (messages.Stopped e (suc i) t)) w'.mail) → HasWords w' e
words_on w w' e h up same old way = record {
  elects = record {
    coordinator_up = up ∙ h.elects.coordinator_up;
    phase = ap (λ (c : CoordinatorState). c.phase) same ∙ h.elects.phase;
    epoch_is = ap (λ (c : CoordinatorState). c.epoch) same ∙ h.elects.epoch_is;
    idle = ap (λ (c : CoordinatorState). c.job) same ∙ h.elects.idle;
  };
  each = λ i lt u p. elim (old i lt u p) [
    | inr z ↦ inr z
    | inl z ↦ elim (h.each i z.0 z.1 z.2) [
      | inl t ↦ inl (ap (λ (c : CoordinatorState). coordinators.is_told (slice_index_or c.told i None)) same ∙ t)
      | inr t ↦ inr (t.0, way i t.0 t.1)
    ]
  ];
}

-- one member changes: another is as it was
took_old : (w : ClusterState) (e j : ℕ) (t : Took) → IsMember w j → (seat w j).up ≡ true → (X : ℕ → Type 0) → ((i : ℕ) → suc i ≡ j → t.state.promise ≡ e → (t.state.promise ≡ (member w j).promise) ⊎ X i)
    → (i : ℕ) → i < length (took j t w).seats → (seat (took j t w) (suc i)).up ≡ true → (member (took j t w) (suc i)).promise ≡ e
    → ((i < length w.seats) × ((seat w (suc i)).up ≡ true) × ((member w (suc i)).promise ≡ e)) ⊎ X i
took_old w e j t mk up X here i lt u p =
    let count = count_put j (record { up = true; state = t.state }) w.seats in
    let within : i < length w.seats = omega (arith, lt, count) in
    elim (cases_eq (suc i) j) [
      | inr ne ↦ inl (within, ap (λ (s : Seat). s.up) (sym (seat_same w j (suc i) t ne)) ∙ u, ap (λ (s : Seat). s.state.promise) (sym (seat_same w j (suc i) t ne)) ∙ p)
      | inl eq ↦
          let now : t.state.promise ≡ e = ap (λ (m : MemberState). m.promise) (sym (member_is w j t mk)) ∙ subst (λ (x : ℕ). (member (took j t w) x).promise ≡ e) eq p in
          elim (here i eq now) [
            | inl same ↦ inl (within, ap (λ (x : ℕ). (seat w x).up) eq ∙ up, ap (λ (x : ℕ). (member w x).promise) eq ∙ (sym same ∙ now))
            | inr z ↦ inr z
          ]
    ]

words_delivered : (w : ClusterState) (now n e j : ℕ) (s : Sent) → HasWords w e → IsMember w j → (seat w j).up ≡ true → letter_in n w.mail ≡ Some s → s.to ≡ j
    → HasWords (took j (taken now s.message (member w j)) (record w { mail = marked n w.mail })) e
words_delivered w now n e j s h mk up is to =
    words_on w (took j t w1) e h refl refl
    (took_old w1 e j t mk up (λ i. (u : Tail) × OnItsWay (Behind 0) (mail 0 (messages.Stopped e (suc i) u)) (took j t w1).mail) (λ i eq p. inl (promise_stays now s.message (member w j))))
    (λ i u way. way_more (Behind 0) (mail 0 (messages.Stopped e (suc i) u)) (marked n w.mail) (numbered w.last t.sent)
    (way_marked (Behind 0) n (mail 0 (messages.Stopped e (suc i) u)) s w.mail is (λ at z. (let q : 0 ≡ j = sym (ap (λ (x : Sent). x.to) z) ∙ to in let y = mk.0 in omega (arith, q, y))) way))
  where
    w1 : ClusterState
    w1 = record w { mail = marked n w.mail }

    t : Took
    t = taken now s.message (member w j)

-- a finished job leaves the promise, or it is a promise, which is told
finished_promise : (m : MemberState) → ((finished m).state.promise ≡ m.promise) ⊎ (IsOf (mail 0 (messages.Stopped (finished m).state.promise m.number (tail_of m.log))) (finished m).sent)
finished_promise m = go m.job
  where
    asks : (r : MemberRole) (n : MemberState) → (asks_by r n).state.promise ≡ n.promise
    asks Stopped n = refl
    asks (Follower f) n = refl
    asks (Leader d) n = refl

    go : (j : Option Job) → ((finished_by j m).state.promise ≡ m.promise) ⊎ (IsOf (mail 0 (messages.Stopped (finished_by j m).state.promise m.number (tail_of m.log))) (finished_by j m).sent)
    go None = inl refl
    go (Some (Write c)) = inl (writes m.role c)
      where
        writes : (r : MemberRole) (c : Chunk) → (wrote r c m).state.promise ≡ m.promise
        writes Stopped c = refl
        writes (Follower f) c = refl
        writes (Leader d) c = refl
    go (Some (Cut x)) = inl (asks m.role (record m { log = cut_at x m.log; job = None }))
    go (Some (Promise x)) = inr (inl refl)
    go (Some (Epoch x)) = inl refl

words_done : (g : Tree) (w : ClusterState) (o e j : ℕ) → Sound g o w → HasWords w e → IsMember w j → (seat w j).up ≡ true → (took j (finished (member w j)) w).last < last_number → HasWords (took j (finished (member w j)) w) e
words_done g w o e j so h mk up room =
    words_on w (took j t w) e h refl refl
    (took_old w e j t mk up (λ i. (u : Tail) × OnItsWay (Behind 0) (mail 0 (messages.Stopped e (suc i) u)) (took j t w).mail)
    (λ i eq p. elim (finished_promise m) [
      | inl same ↦ inl same
      | inr of ↦ inr (
        tail_of m.log,
        way_behind (Behind 0) (mail 0 (messages.Stopped e (suc i) (tail_of m.log))) w.mail (numbered w.last t.sent)
            (way_sent (Behind 0) (mail 0 (messages.Stopped e (suc i) (tail_of m.log))) w.last t.sent (λ q z. omega (arith, z)) room
            (subst (λ (x : Sent). IsOf x t.sent) (ap (λ (q : ℕ). mail 0 (messages.Stopped q m.number (tail_of m.log))) p ∙ ap (λ (q : ℕ). mail 0 (messages.Stopped e q (tail_of m.log))) ((so.named j mk).0 ∙ sym eq)) of)),
      )
    ]))
    (λ i u way. way_more (Behind 0) (mail 0 (messages.Stopped e (suc i) u)) w.mail (numbered w.last t.sent) way)
  where
    m : MemberState
    m = member w j

    t : Took
    t = finished m

words_quiet : (w : ClusterState) (n e : ℕ) (s : Sent) → HasWords w e → letter_in n w.mail ≡ Some s → ((k : ℕ) (x : Tail) → s.message ≡ messages.Stopped e k x → ⊥) → HasWords (record w { mail = marked n w.mail }) e
words_quiet w n e s h is other =
    words_on w (record w { mail = marked n w.mail }) e h refl refl (λ i lt u p. inl (lt, u, p))
    (λ i u way. way_marked (Behind 0) n (mail 0 (messages.Stopped e (suc i) u)) s w.mail is (λ at z. other (suc i) u (ap (λ (x : Sent). x.message) z)) way)

-- ---- a leader that is down stays so

lost_took : (w : ClusterState) (e l j : ℕ) (t : Took) → IsLost w e l → (seat w j).up ≡ true → IsLost (took j t w) e l
lost_took w e l j t h up = record {
  coordinator_up = h.coordinator_up;
  phase = h.phase;
  epoch_is = h.epoch_is;
  idle = h.idle;
  is_member = (h.is_member.0, (let c = count_put j (record { up = true; state = t.state }) w.seats in let z = h.is_member.1 in omega (arith, z, c)));
  down = elim (cases_eq l j) [
    | inl eq ↦ absurd (let z : (seat w l).up ≡ true = ap (λ (x : ℕ). (seat w x).up) eq ∙ up in let d = h.down in cc (z, d))
    | inr ne ↦ ap (λ (s : Seat). s.up) (seat_same w j l t ne) ∙ h.down
  ];
}

lost_to : (msg : Message) (w : ClusterState) (e l : ℕ) → IsLost w e l → IsLost (to_coordinator msg w) e l
lost_to (messages.Stopped x from u) w e l h = go (coordinator_took e l x from u w.coordinator h.phase h.epoch_is h.idle)
  where
    go : CoordinatorTook e l w.coordinator x from (coordinators.stopped x from u w.coordinator) → IsLost (to_coordinator (messages.Stopped x from u) w) e l
    go (Passes ph ep jb none) = record { coordinator_up = h.coordinator_up; phase = ph ∙ h.phase; epoch_is = ep ∙ h.epoch_is; idle = jb ∙ h.idle; is_member = h.is_member; down = h.down }
    go (Tells_back ph ep jb of) = record { coordinator_up = h.coordinator_up; phase = ph ∙ h.phase; epoch_is = ep ∙ h.epoch_is; idle = jb ∙ h.idle; is_member = h.is_member; down = h.down }
lost_to (messages.Stop x) w e l h = h
lost_to (messages.Open x) w e l h = h
lost_to (messages.Follow x f) w e l h = h
lost_to (messages.Shape x runs) w e l h = h
lost_to (messages.Ask x from u) w e l h = h
lost_to (messages.Append x u c) w e l h = h

lost_comes : (now n e l : ℕ) (w : ClusterState) (s : Sent) → IsLost w e l → IsFree w s.to → IsLost (comes now s.to s.message (record w { mail = marked n w.mail })) e l
lost_comes now n e l w s h free = go s.to free
  where
    w1 : ClusterState
    w1 = record w { mail = marked n w.mail }

    h1 : IsLost w1 e l
    h1 = record { coordinator_up = h.coordinator_up; phase = h.phase; epoch_is = h.epoch_is; idle = h.idle; is_member = h.is_member; down = h.down }

    go : (k : ℕ) → IsFree w k → IsLost (comes now k s.message w1) e l
    go zero free = lost_to s.message w1 e l h1
    go (suc i) free = lost_took w1 e l (suc i) (taken now s.message (member w (suc i))) h1 free.0.1

lost_works : (k e l : ℕ) (w : ClusterState) → IsLost w e l → next_job w ≡ Some k → IsLost (performed k w) e l
lost_works k e l w h next = go k (job_of w k next)
  where
    go : (k : ℕ) → JobOf w k → IsLost (performed k w) e l
    go k (Of_coordinator epoch is up job) = absurd (let z : Some epoch ≡ None = sym job ∙ h.idle in cc z)
    go k (Of_member i is up some) = subst (λ (x : ℕ). IsLost (performed x w) e l) (sym is) (lost_took w e l (suc i) (finished (member w (suc i))) h up.1)

lost_bare : (w : ClusterState) (e l : ℕ) → IsLost w e l → IsLost (bare w) e l
lost_bare w e l h = record { coordinator_up = h.coordinator_up; phase = h.phase; epoch_is = h.epoch_is; idle = h.idle; is_member = h.is_member; down = h.down }

lost_run : (o e l now : ℕ) (t : Turn) (turns : List Turn) (w' : ClusterState) → IsInOrder t.cluster → t.stage ≢ Jobs → IsLost t.cluster e l → CleanSteps now t turns → last_turn t turns ≡ turn Rest w' → IsLost w' e l
lost_run o e l now t [] w' order s h steps ends = (let z = subst (λ (y : Turn). IsLost y.cluster e l) ends h in record { coordinator_up = z.coordinator_up; phase = z.phase; epoch_is = z.epoch_is; idle = z.idle; is_member = z.is_member; down = z.down })
lost_run o e l now t (x ∷ xs) w' order s h steps ends = go steps.0.step steps.0.performed (λ st lost. lost_run o e l now x xs w' (step_order now t x order steps.0.step) st lost steps.1 ends)
  where
    lost_as : (w : ClusterState) (st : Stage) → x ≡ turn st w → IsLost w e l → IsLost x.cluster e l
    lost_as w st eq lost = subst (λ (y : Turn). IsLost y.cluster e l) (sym eq) (lost_bare w e l lost)

    not_jobs : (st : Stage) (w : ClusterState) → x ≡ turn st w → (st ≡ Jobs → ⊥) → x.stage ≢ Jobs
    not_jobs st w eq ne z = ne (sym (ap (λ (y : Turn). y.stage) eq) ∙ z)

    go : (q : SettleStep now t x) → IsPerformed q → (x.stage ≢ Jobs → IsLost x.cluster e l → IsLost w' e l) → IsLost w' e l
    go (Perform k a st next eq) p on = absurd (s st)
    go (Nudge st next eq) p on = absurd (s st)
    go (Follow_up k Fault st next eq) p on = absurd p
    go (Follow_up k Receipt st next eq) p on = on (not_jobs Letters (performed k t.cluster) eq (λ z. cc z)) (lost_as (performed k t.cluster) Letters eq (lost_works k e l t.cluster h next))
    go (Deliver n q st none next is eq) p on =
        let d = due_is t.cluster 0 t.cluster.mail t.cluster.last n order.rising next in
        let ds : d.sent ≡ q = (let z : Some d.sent ≡ Some q = sym d.is ∙ is in cc z) in
        let free = free_is t.cluster q.to none (up_is t.cluster q.to (ap (λ (y : Sent). is_up t.cluster y.to) (sym ds) ∙ d.up)) in
        on (not_jobs Letters (comes now q.to q.message (record t.cluster { mail = marked n t.cluster.mail })) eq (λ z. cc z))
        (lost_as (comes now q.to q.message (record t.cluster { mail = marked n t.cluster.mail })) Letters eq (lost_comes now n e l t.cluster q h free))
    go (Forget st none next eq) p on =
        on (not_jobs Rest (record t.cluster { mail = []; last = 0 }) eq (λ z. cc z))
        (lost_as (record t.cluster { mail = []; last = 0 }) Rest eq (record { coordinator_up = h.coordinator_up; phase = h.phase; epoch_is = h.epoch_is; idle = h.idle; is_member = h.is_member; down = h.down }))

-- ---- the leader stays

phase_end : (o e l low now : ℕ) (t : Turn) (turns : List Turn) (w' : ClusterState) → Going o e l low t → CleanSteps now t turns → last_turn t turns ≡ turn Rest w' → w'.coordinator.phase ≡ Running l
phase_end o e l low now t [] w' h steps ends = absurd (let z : Letters ≡ Rest = sym h.stage ∙ ap (λ (y : Turn). y.stage) ends in cc z)
phase_end o e l low now t (x ∷ xs) w' h steps ends = go (onward o e l low now t x h steps.0) (λ g. phase_end o e l low now x xs w' g steps.1 ends)
  where
    last_is : (x : Turn) (xs : List Turn) → x.stage ≡ Rest → CleanSteps now x xs → last_turn x xs ≡ x
    last_is x [] r s = refl
    last_is x (y ∷ ys) r s = absurd (at_rest now x y r s.0.step)

    go : Onward o e l low t x → (Going o e l low x → w'.coordinator.phase ≡ Running l) → w'.coordinator.phase ≡ Running l
    go (Goes g) on = on g
    go (Ends none next eq) on =
        let lx : x ≡ turn Rest w' = sym (last_is x xs (ap (λ (y : Turn). y.stage) eq) steps.1) ∙ ends in
        let same : turn Rest (record t.cluster { mail = []; last = 0 }) ≡ turn Rest w' = sym eq ∙ lx in
        ap (λ (y : Turn). y.cluster.coordinator.phase) (sym same) ∙ (runs_of (with_reigns h.reigns t.cluster) e l low h.brought).phase

-- ---- words along the run

pub record Voting (o e : ℕ) (t : Turn) : Type 0 where
  pub stage : t.stage ≡ Letters
  pub order : IsInOrder t.cluster
  pub reigns : List Reign
  pub sound : SoundWith Truthful o (with_reigns reigns t.cluster)
  pub words : HasWords (with_reigns reigns t.cluster) e

pub data Votes (o e : ℕ) (t x : Turn) : Type 0 where
  Still_votes : Voting o e x → Votes o e t x
  Now_runs : (l low : ℕ) → Going o e l low x → Votes o e t x
  Now_lost : (l : ℕ) → IsInOrder x.cluster → x.stage ≢ Jobs → IsLost x.cluster e l → Votes o e t x
  Votes_end : x ≡ turn Rest (record t.cluster { mail = []; last = 0 }) → Votes o e t x

pub votes : (o e now : ℕ) (t x : Turn) → Voting o e t → CleanStep now t x → Votes o e t x
votes o e now t x h c = go c.step c.performed (step_order now t x h.order c.step)
  where
    w : ClusterState
    w = with_reigns h.reigns t.cluster

    not_jobs : x.stage ≡ Letters → x.stage ≢ Jobs
    not_jobs st z = cc (st, z)

    still : (more : List Reign) (w' : ClusterState) → with_reigns (more ++ h.reigns) x.cluster ≡ w' → x.stage ≡ Letters → IsInOrder x.cluster → SoundWith Truthful o w' → Elected w' e → Votes o e t x
    still more w' same st order sound (Goes_on words) =
        Still_votes (record { stage = st; order = order; reigns = more ++ h.reigns; sound = subst (SoundWith Truthful o) (sym same) sound; words = subst (λ (y : ClusterState). HasWords y e) (sym same) words })
    still more w' same st order sound (Runs l low tokens) =
        Now_runs l low (record { stage = st; order = order; reigns = more ++ h.reigns; sound = subst (SoundWith Truthful o) (sym same) sound; brought = inl (subst (λ (y : ClusterState). HasTokens y e l low) (sym same) tokens) })
    still more w' same st order sound (Is_lost l lost) =
        Now_lost l order (not_jobs st) (let z = subst (λ (y : ClusterState). IsLost y e l) (sym same) lost in record { coordinator_up = z.coordinator_up; phase = z.phase; epoch_is = z.epoch_is; idle = z.idle; is_member = z.is_member; down = z.down })

    works : (k : ℕ) → JobOf w k → (performed k w).last < last_number → HasWords (performed k w) e
    works k (Of_coordinator epoch is up job) room = absurd (let z : Some epoch ≡ None = sym job ∙ h.words.elects.idle in cc z)
    works k (Of_member i is up some) room =
        subst (λ (y : ℕ). HasWords (performed y w) e) (sym is)
        (words_done h.sound.tree w o e (suc i) h.sound.sound h.words up.0 up.1 (subst (λ (y : ℕ). (performed y w).last < last_number) is room))

    delivers : (n : ℕ) (s : Sent) → letter_in n w.mail ≡ Some s → (k : ℕ) → s.to ≡ k → IsFree w k → (msg : Message) → s.message ≡ msg → (comes now k msg (record w { mail = marked n w.mail })).last < last_number
        → SoundWith Truthful o (comes now k msg (record w { mail = marked n w.mail })) → Elected (comes now k msg (record w { mail = marked n w.mail })) e
    delivers n s is (suc i) to free msg eq room sound = Goes_on (subst (λ (m : Message). HasWords (took (suc i) (taken now m (member w (suc i))) (record w { mail = marked n w.mail })) e) eq (words_delivered w now n e (suc i) s h.words free.0.0 free.0.1 is to))
    delivers n s is zero to free (messages.Stopped q from u) eq room sound = word_comes h.sound.tree sound.tree w o n e q from u s h.sound.sound h.words is to eq room sound.sound
    delivers n s is zero to free (messages.Stop q) eq room sound = Goes_on (words_quiet w n e s h.words is (λ k y z. (let v = sym eq ∙ z in cc v)))
    delivers n s is zero to free (messages.Open q) eq room sound = Goes_on (words_quiet w n e s h.words is (λ k y z. (let v = sym eq ∙ z in cc v)))
    delivers n s is zero to free (messages.Follow q f) eq room sound = Goes_on (words_quiet w n e s h.words is (λ k y z. (let v = sym eq ∙ z in cc v)))
    delivers n s is zero to free (messages.Shape q runs) eq room sound = Goes_on (words_quiet w n e s h.words is (λ k y z. (let v = sym eq ∙ z in cc v)))
    delivers n s is zero to free (messages.Ask q from u) eq room sound = Goes_on (words_quiet w n e s h.words is (λ k y z. (let v = sym eq ∙ z in cc v)))
    delivers n s is zero to free (messages.Append q u c) eq room sound = Goes_on (words_quiet w n e s h.words is (λ k y z. (let v = sym eq ∙ z in cc v)))

    go : (s : SettleStep now t x) → IsPerformed s → IsInOrder x.cluster → Votes o e t x
    go (Perform k a s next eq) p order = absurd (let z = sym s ∙ h.stage in cc z)
    go (Nudge s next eq) p order = absurd (let z = sym s ∙ h.stage in cc z)
    go (Follow_up k Fault s next eq) p order = absurd p
    go (Follow_up k Receipt s next eq) p order =
        let same : with_reigns ([] ++ h.reigns) x.cluster ≡ performed k w = ap (λ (y : Turn). with_reigns h.reigns y.cluster) eq ∙ sym (performed_apart h.reigns k t.cluster) in
        let room : (performed k w).last < last_number = subst (λ (y : ClusterState). y.last < last_number) same c.room in
        still [] (performed k w) same (ap (λ (y : Turn). y.stage) eq) order (event_with Truthful o now w (performed k w) truthful_property h.sound (events.Done k (job_is_up w k next) refl)) (Goes_on (works k (job_of w k next) room))
    go (Deliver n s st none next is eq) p order =
        let w1 : ClusterState = record w { mail = marked n w.mail } in
        let a = comes_apart h.reigns now s.to s.message (record t.cluster { mail = marked n t.cluster.mail }) in
        let same : with_reigns (a.0 ++ h.reigns) x.cluster ≡ comes now s.to s.message w1 = ap (λ (y : Turn). with_reigns (a.0 ++ h.reigns) y.cluster) eq ∙ sym a.1 in
        let room : (comes now s.to s.message w1).last < last_number = subst (λ (y : ClusterState). y.last < last_number) same c.room in
        let d = due_is t.cluster 0 t.cluster.mail t.cluster.last n h.order.rising next in
        let ds : d.sent ≡ s = (let z : Some d.sent ≡ Some s = sym d.is ∙ is in cc z) in
        let free = free_with h.reigns t.cluster s.to (free_is t.cluster s.to none (up_is t.cluster s.to (ap (λ (y : Sent). is_up t.cluster y.to) (sym ds) ∙ d.up))) in
        let sound = event_with Truthful o now w (comes now s.to s.message w1) truthful_property h.sound (events.Deliver n s is free refl) in
        still a.0 (comes now s.to s.message w1) same (ap (λ (y : Turn). y.stage) eq) order sound (delivers n s is s.to refl free s.message refl room sound)
    go (Forget st none next eq) p order = Votes_end eq

voting_complete : (o e l now : ℕ) (t : Turn) (turns : List Turn) (w' : ClusterState) → Voting o e t → CleanSteps now t turns → last_turn t turns ≡ turn Rest w' → RunsWith w' e l → HasMost w' e → IsComplete w' l
voting_complete o e l now t [] w' h steps ends runs most = absurd (let z : Letters ≡ Rest = sym h.stage ∙ ap (λ (y : Turn). y.stage) ends in cc z)
voting_complete o e l now t (x ∷ xs) w' h steps ends runs most = go (votes o e now t x h steps.0) (λ v. voting_complete o e l now x xs w' v steps.1 ends runs most)
  where
    last_is : (x : Turn) (xs : List Turn) → x.stage ≡ Rest → CleanSteps now x xs → last_turn x xs ≡ x
    last_is x [] r s = refl
    last_is x (y ∷ ys) r s = absurd (at_rest now x y r s.0.step)

    go : Votes o e t x → (Voting o e x → IsComplete w' l) → IsComplete w' l
    go (Still_votes v) on = on v
    go (Now_runs k low g) on =
        let same : k ≡ l = (let z = sym (phase_end o e k low now x xs w' g steps.1 ends) ∙ runs.phase in cc z) in
        subst (IsComplete w') same (run_complete o e k low now x xs w' g steps.1 ends (subst (RunsWith w' e) (sym same) runs) most)
    go (Now_lost k order st lost) on =
        absurd (let z = lost_run o e k now x xs w' order st lost steps.1 ends in
        let same : k ≡ l = (let y = sym z.phase ∙ runs.phase in cc y) in
        let up : (seat w' k).up ≡ true = ap (λ (q : ℕ). (seat w' q).up) same ∙ runs.leader_up in
        let down = z.down in cc (up, down))
    go (Votes_end eq) on =
        absurd (let lx : x ≡ turn Rest w' = sym (last_is x xs (ap (λ (y : Turn). y.stage) eq) steps.1) ∙ ends in
        let same : turn Rest (record t.cluster { mail = []; last = 0 }) ≡ turn Rest w' = sym eq ∙ lx in
        let z : Electing ≡ Running l = sym h.words.elects.phase ∙ (ap (λ (y : Turn). y.cluster.coordinator.phase) same ∙ runs.phase) in cc z)

-- ---- the whole settle

pub record Called (o e : ℕ) (t : Turn) : Type 0 where
  pub stage : t.stage ≡ Jobs
  pub order : IsInOrder t.cluster
  pub reigns : List Reign
  pub sound : SoundWith Truthful o (with_reigns reigns t.cluster)
  pub elects : Elects_next (with_reigns reigns t.cluster) e

pub data Calls (o e : ℕ) (x : Turn) : Type 0 where
  Still_called : Called o e x → Calls o e x
  Now_votes : Voting o e x → Calls o e x

called_works : (w : ClusterState) (e k : ℕ) → Elects_next w e → next_job w ≡ Some k → Elects_next (performed k w) e
called_works w e k h next = go k (job_of w k next) h
  where
    begun : (e : ℕ) → w.coordinator_up ≡ true → w.coordinator.job ≡ Some e → Electing_in (performed 0 w) e
    begun e up job = subst (λ (j : Option ℕ). Electing_in (begins j w) e) (sym job) (record { coordinator_up = up; phase = refl; epoch_is = refl; idle = refl })

    go : (k : ℕ) → JobOf w k → Elects_next w e → Elects_next (performed k w) e
    go k (Of_coordinator epoch is up job) (inl el) = absurd (let z : Some epoch ≡ None = sym job ∙ el.idle in cc z)
    go k (Of_coordinator epoch is up job) (inr p) = subst (λ (x : ℕ). Elects_next (performed x w) e) (sym is) (inl (begun e p.0 p.1))
    go k (Of_member i is up some) (inl el) = subst (λ (x : ℕ). Elects_next (performed x w) e) (sym is) (inl (record { coordinator_up = el.coordinator_up; phase = el.phase; epoch_is = el.epoch_is; idle = el.idle }))
    go k (Of_member i is up some) (inr p) = subst (λ (x : ℕ). Elects_next (performed x w) e) (sym is) (inr p)

-- the nudge makes everyone that promised the epoch tell it
pub nudge_word : (g : Tree) (w : ClusterState) (o e : ℕ) → Sound g o w → Electing_in w e → (send w (nudges w)).last < last_number → (i : ℕ) → i < length w.seats → (seat w (suc i)).up ≡ true → (member w (suc i)).promise ≡ e
    → (t : Tail) × OnItsWay (Behind 0) (mail 0 (messages.Stopped e (suc i) t)) (send w (nudges w)).mail
nudge_word g w o e so el room i lt up p =
    let k = suc i in
    let mk : IsMember w k = (omega arith, omega (arith, lt)) in
    let role = elect_stopped g w o e k so el p in (
      tail_of (member w k).log,
      way_behind (Behind 0) (mail 0 (messages.Stopped e k (tail_of (member w k).log))) w.mail (numbered w.last (nudges w))
          (way_sent (Behind 0) (mail 0 (messages.Stopped e k (tail_of (member w k).log))) w.last (nudges w) (λ q z. omega (arith, z)) room
          (nudged_is w k (mail 0 (messages.Stopped e k (tail_of (member w k).log))) mk up
          (subst (λ (r : MemberRole). IsOf (mail 0 (messages.Stopped e k (tail_of (member w k).log))) (nudged_by r (member w k))) (sym role)
          (inl (ap (λ (q : ℕ). mail 0 (messages.Stopped q (member w k).number (tail_of (member w k).log))) p ∙ ap (λ (q : ℕ). mail 0 (messages.Stopped e q (tail_of (member w k).log))) (so.named k mk).0))))),
    )

nudge_words : (g : Tree) (w : ClusterState) (o e : ℕ) → Sound g o w → Electing_in w e → (send w (nudges w)).last < last_number → HasWords (send w (nudges w)) e
nudge_words g w o e so el room = record {
  elects = record { coordinator_up = el.coordinator_up; phase = el.phase; epoch_is = el.epoch_is; idle = el.idle };
  each = λ i lt up p. inr (nudge_word g w o e so el room i lt up p);
}

pub calls : (o e now : ℕ) (t x : Turn) → Called o e t → CleanStep now t x → Calls o e x
calls o e now t x h c = go c.step c.performed (step_order now t x h.order c.step)
  where
    w : ClusterState
    w = with_reigns h.reigns t.cluster

    elects : next_job w ≡ None → Elects_next w e → Electing_in w e
    elects none (inl el) = el
    elects none (inr p) = absurd (let z : Some e ≡ None = sym p.1 ∙ (free_is w 0 none p.0).1 in cc z)

    go : (s : SettleStep now t x) → IsPerformed s → IsInOrder x.cluster → Calls o e x
    go (Perform k Fault s next eq) p order = absurd p
    go (Perform k Receipt s next eq) p order =
        let same : with_reigns h.reigns x.cluster ≡ performed k w = ap (λ (y : Turn). with_reigns h.reigns y.cluster) eq ∙ sym (performed_apart h.reigns k t.cluster) in
        Still_called (record {
          stage = ap (λ (y : Turn). y.stage) eq;
          order = order;
          reigns = h.reigns;
          sound = subst (SoundWith Truthful o) (sym same) (event_with Truthful o now w (performed k w) truthful_property h.sound (events.Done k (job_is_up w k next) refl));
          elects = subst (λ (y : ClusterState). Elects_next y e) (sym same) (called_works w e k h.elects next);
        })
    go (Nudge s next eq) p order =
        let same : with_reigns h.reigns x.cluster ≡ send w (nudges w) = ap (λ (y : Turn). with_reigns h.reigns y.cluster) eq in
        let room : (send w (nudges w)).last < last_number = subst (λ (y : ClusterState). y.last < last_number) same c.room in
        Now_votes (record {
          stage = ap (λ (y : Turn). y.stage) eq;
          order = order;
          reigns = h.reigns;
          sound = subst (SoundWith Truthful o) (sym same) (event_with Truthful o now w (send w (nudges w)) truthful_property h.sound (events.Nudge refl));
          words = subst (λ (y : ClusterState). HasWords y e) (sym same) (nudge_words h.sound.tree w o e h.sound.sound (elects next h.elects) room);
        })
    go (Follow_up k a s next eq) p order = absurd (let z = sym s ∙ h.stage in cc z)
    go (Deliver n q s none next is eq) p order = absurd (let z = sym s ∙ h.stage in cc z)
    go (Forget s none next eq) p order = absurd (let z = sym s ∙ h.stage in cc z)

called_complete : (o e l now : ℕ) (t : Turn) (turns : List Turn) (w' : ClusterState) → Called o e t → CleanSteps now t turns → last_turn t turns ≡ turn Rest w' → RunsWith w' e l → HasMost w' e → IsComplete w' l
called_complete o e l now t [] w' h steps ends runs most = absurd (let z : Jobs ≡ Rest = sym h.stage ∙ ap (λ (y : Turn). y.stage) ends in cc z)
called_complete o e l now t (x ∷ xs) w' h steps ends runs most = go (calls o e now t x h steps.0) (λ b. called_complete o e l now x xs w' b steps.1 ends runs most)
  where
    go : Calls o e x → (Called o e x → IsComplete w' l) → IsComplete w' l
    go (Still_called b) on = on b
    go (Now_votes v) on = voting_complete o e l now x xs w' v steps.1 ends runs most

pub election_complete : (o e l now : ℕ) (reigns : List Reign) (w w' : ClusterState) → SoundWith Truthful o (with_reigns reigns w) → IsInOrder w → Elects_next w e
    → (turns : List Turn) → CleanSteps now (turn Jobs w) turns → last_turn (turn Jobs w) turns ≡ turn Rest w' → RunsWith w' e l → HasMost w' e → IsComplete w' l
election_complete o e l now reigns w w' sound order el turns steps ends runs most =
    called_complete o e l now (turn Jobs w) turns w' (record {
      stage = refl;
      order = record { rising = order.rising; fits = order.fits };
      reigns = reigns;
      sound = sound;
      elects = go el;
    }) steps ends runs most
  where
    go : Elects_next w e → Elects_next (with_reigns reigns (bare w)) e
    go (inl x) = inl (record { coordinator_up = x.coordinator_up; phase = x.phase; epoch_is = x.epoch_is; idle = x.idle })
    go (inr p) = inr p
