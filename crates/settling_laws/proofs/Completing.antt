-- From the nudge to the rest.
use Rattle.std.proofs.Common.{◌≡◌, ℕ, ◌<◌, ◌≢◌, ◌⊎◌, List, [], ◌∷◌, ◌++◌, refl, sym, ap, ◌∙◌, subst, inl, inr, Option, Some, None, true, zero, suc}
use Rattle.std.proofs.lemmas.Bool.{cases_eq}
use Rattle.chunk_format.specs.Logs.{Truthful}
use Rattle.epoch_coordinator.specs.declared.tail.Tail.{Tail}
use Rattle.epoch_coordinator.specs.declared.message.Message.{Message}
use Rattle.epoch_coordinator.specs.declared.message.Message.TheVariants as messages
use Rattle.epoch_coordinator.specs.declared.message.Job.{Job}
use Rattle.epoch_coordinator.specs.declared.message.Sent.{Sent}
use Rattle.epoch_coordinator.specs.Coordinators as coordinators
use Rattle.epoch_coordinator.specs.Members.{MemberRole, Stopped}
use Rattle.epoch_coordinator.specs.MemberSteps.{mail, finished, taken}
use Rattle.replication_laws.specs.Cluster.{Reign, ClusterState, seat, member, IsMember, last_number, letter_in, marked, RunsWith, is_opened}
use Rattle.replication_laws.specs.Events.{IsUp, IsFree, took, comes, performed, to_coordinator, member_nudges, nudges_by, nudges, ClusterStep}
use Rattle.replication_laws.specs.Events as events
use Rattle.replication_laws.specs.Properties.{SoundWith}
use Rattle.replication_laws.specs.Soundness.{Tree, MessageHolds, Sound, IsSound}
use Rattle.replication_laws.proofs.Sounds.{SentHolds}
use Rattle.replication_laws.proofs.Happenings.{letter_holds}
use Rattle.replication_laws.proofs.Properties.{event_with}
use Rattle.replication_laws.proofs.Snapshots.{truthful_property}
use Rattle.replication_laws.proofs.Joined.{committed_begins}
use Rattle.settling_laws.specs.Settling.{is_up, next_job, next_letter, Receipt, Fault, Letters, Rest, Turn, bare, turn, SettleStep, Perform, Nudge, Follow_up, Deliver, Forget, last_turn, with_reigns}
use Rattle.settling_laws.specs.Measures.{IsInOrder}
use Rattle.settling_laws.specs.Tokens.{Running_by, HasTokens, IsStuck}
use Rattle.settling_laws.specs.Clean.{IsPerformed, CleanStep, CleanSteps, HasMost, IsComplete}
use Rattle.settling_laws.proofs.Nexts.{JobOf, Of_coordinator, Of_member, job_of, job_is_up, up_is, free_is, due_is}
use Rattle.settling_laws.proofs.Mails.{way_least, due_with}
use Rattle.settling_laws.proofs.Evented.{comes_apart, performed_apart, free_with, step_order}
use Rattle.settling_laws.proofs.Ending.{at_rest, is_job}
use Rattle.settling_laws.proofs.Known.{leader_leads, stopped_idle}
use Rattle.settling_laws.proofs.Bringing.{member_delivers, fair_to_leader}
use Rattle.settling_laws.proofs.Leading.{leader_delivers}
use Rattle.settling_laws.proofs.Working.{job_done, quiet_delivers, stopped_delivers, stuck_took, stuck_mail, stuck_heard, CoordinatorTook, Passes, Tells_back, coordinator_took}
use Rattle.settling_laws.proofs.Resting.{up_by, followed, complete}

-- ---- a delivery, to whomever

abbrev pub Brought : ClusterState → ℕ → ℕ → ℕ → Type 0
Brought w e l low = HasTokens w e l low ⊎ IsStuck w e l

pub runs_of : (w : ClusterState) (e l low : ℕ) → Brought w e l low → Running_by w e l
runs_of w e l low (inl h) = h.runs
runs_of w e l low (inr h) = h.runs

pub delivers : (g : Tree) (w : ClusterState) (o now n e l low : ℕ) (s : Sent) → Sound g o w → ((x : ℕ) → Truthful (g.canon x)) → IsInOrder w → next_letter w ≡ Some n → letter_in n w.mail ≡ Some s → IsFree w s.to
    → (comes now s.to s.message (record w { mail = marked n w.mail })).last < last_number → Brought w e l low → Brought (comes now s.to s.message (record w { mail = marked n w.mail })) e l low
delivers g w o now n e l low s so truth order next is free room h = go s.to refl free room
  where
    w1 : ClusterState
    w1 = record w { mail = marked n w.mail }

    runs : Running_by w e l
    runs = runs_of w e l low h

    holds : (k : ℕ) → s.to ≡ k → MessageHolds g w k s.message
    holds k to = subst (λ (x : ℕ). MessageHolds g w x s.message) to (letter_holds (SentHolds g w) n w.mail s so.each_letter is)

    coordinator : (msg : Message) → s.to ≡ 0 → s.message ≡ msg → (to_coordinator msg w1).last < last_number → Brought (to_coordinator msg w1) e l low
    coordinator msg to eq room = by h msg eq room
      where
        not_stopped : (other : Message) → s.message ≡ other → ((k : ℕ) (x : Tail) → other ≡ messages.Stopped e k x → ⊥) → (k : ℕ) (x : Tail) → s.message ≡ messages.Stopped e k x → ⊥
        not_stopped other eq no' k x z = no' k x (sym eq ∙ z)

        by : Brought w e l low → (msg : Message) → s.message ≡ msg → (to_coordinator msg w1).last < last_number → Brought (to_coordinator msg w1) e l low
        by (inl t) (messages.Stopped x from u) eq room = inl (stopped_delivers g w o n e l low x from u s so t is to eq room)
        by (inl t) (messages.Stop x) eq room = inl (quiet_delivers g w o n e l low s t is to (not_stopped (messages.Stop x) eq (λ k y z. cc z)))
        by (inl t) (messages.Open x) eq room = inl (quiet_delivers g w o n e l low s t is to (not_stopped (messages.Open x) eq (λ k y z. cc z)))
        by (inl t) (messages.Follow x f) eq room = inl (quiet_delivers g w o n e l low s t is to (not_stopped (messages.Follow x f) eq (λ k y z. cc z)))
        by (inl t) (messages.Shape x runs) eq room = inl (quiet_delivers g w o n e l low s t is to (not_stopped (messages.Shape x runs) eq (λ k y z. cc z)))
        by (inl t) (messages.Ask x from u) eq room = inl (quiet_delivers g w o n e l low s t is to (not_stopped (messages.Ask x from u) eq (λ k y z. cc z)))
        by (inl t) (messages.Append x u c) eq room = inl (quiet_delivers g w o n e l low s t is to (not_stopped (messages.Append x u c) eq (λ k y z. cc z)))
        by (inr t) (messages.Stopped x from u) eq room = inr (same (coordinator_took e l x from u w.coordinator t.runs.phase t.runs.epoch_is t.runs.idle))
          where
            same : CoordinatorTook e l w.coordinator x from (coordinators.stopped x from u w.coordinator) → IsStuck (to_coordinator (messages.Stopped x from u) w1) e l
            same (Passes ph ep jb none) = stuck_mail w (to_coordinator (messages.Stopped x from u) w1) e l t refl refl ph ep jb
            same (Tells_back ph ep jb of) = stuck_mail w (to_coordinator (messages.Stopped x from u) w1) e l t refl refl ph ep jb
        by (inr t) (messages.Stop x) eq room = inr (stuck_mail w w1 e l t refl refl refl refl refl)
        by (inr t) (messages.Open x) eq room = inr (stuck_mail w w1 e l t refl refl refl refl refl)
        by (inr t) (messages.Follow x f) eq room = inr (stuck_mail w w1 e l t refl refl refl refl refl)
        by (inr t) (messages.Shape x runs) eq room = inr (stuck_mail w w1 e l t refl refl refl refl refl)
        by (inr t) (messages.Ask x from u) eq room = inr (stuck_mail w w1 e l t refl refl refl refl refl)
        by (inr t) (messages.Append x u c) eq room = inr (stuck_mail w w1 e l t refl refl refl refl refl)

    leader : Brought w e l low → (member w l).job ≡ None → s.to ≡ l → (took l (taken now s.message (member w l)) w1).last < last_number → Brought (took l (taken now s.message (member w l)) w1) e l low
    leader (inl t) job to room =
        leader_delivers g w o now n e l low s so truth t job (holds l to) is to
        (λ way. (way_least low w (mail l (messages.Open e)) 0 w.mail w.last n order.rising next leader_due way).0) room
      where
        leader_due : is_up w l ≡ true
        leader_due = up_by w l runs.is_member runs.leader_up
    leader (inr t) job to room =
        inr (stuck_took w1 e l l (taken now s.message (member w l)) (stuck_mail w w1 e l t refl refl refl refl refl) runs.is_member
        (λ z. stuck_heard now e s.message (member w l) (fair_to_leader g w e l s.message runs.epoch_is (leader_leads g w o e l so runs) (holds l to)) runs.promised t.stopped t.cannot))

    other : (i : ℕ) → Brought w e l low → s.to ≡ suc i → suc i ≢ l → IsMember w (suc i) → (seat w (suc i)).up ≡ true → (member w (suc i)).job ≡ None
        → (took (suc i) (taken now s.message (member w (suc i))) w1).last < last_number → Brought (took (suc i) (taken now s.message (member w (suc i))) w1) e l low
    other i (inl t) to ne mk up job room = inl (member_delivers g w o now n e l low (suc i) s so t mk ne job (holds (suc i) to) is to room up)
    other i (inr t) to ne mk up job room =
        inr (stuck_took w1 e l (suc i) (taken now s.message (member w (suc i))) (stuck_mail w w1 e l t refl refl refl refl refl) mk (λ z. absurd (ne z)))

    go : (k : ℕ) → s.to ≡ k → IsFree w k → (comes now k s.message w1).last < last_number → Brought (comes now k s.message w1) e l low
    go zero to free room = coordinator s.message to refl room
    go (suc i) to free room = elim (cases_eq (suc i) l) [
      | inr ne ↦ other i h to ne free.0.0 free.0.1 free.1 room
      | inl eq ↦
          subst (λ (k : ℕ). (member w k).job ≡ None → s.to ≡ k → (took k (taken now s.message (member w k)) w1).last < last_number → Brought (took k (taken now s.message (member w k)) w1) e l low) (sym eq)
          (leader h) free.1 to room
    ]

-- ---- a job, of whomever

pub works : (g : Tree) (w : ClusterState) (o e l low k : ℕ) → Sound g o w → next_job w ≡ Some k → (performed k w).last < last_number → Brought w e l low → Brought (performed k w) e l low
works g w o e l low k so next room h = go k (job_of w k next) room
  where
    runs : Running_by w e l
    runs = runs_of w e l low h

    not_idle : (epoch : ℕ) → w.coordinator.job ≡ Some epoch → ⊥
    not_idle epoch j = let z : Some epoch ≡ None = sym j ∙ runs.idle in cc z

    by : (i : ℕ) → IsMember w (suc i) → (seat w (suc i)).up ≡ true → (j : Job) → (member w (suc i)).job ≡ Some j → (performed (suc i) w).last < last_number → Brought w e l low → Brought (performed (suc i) w) e l low
    by i mk up j jj room (inl t) = inl (job_done g w o e l low (suc i) j so t mk up jj room)
    by i mk up j jj room (inr t) = inr (stuck_took w e l (suc i) (finished (member w (suc i))) t mk (λ eq. absurd (let idle = stopped_idle g w o e l l so runs runs.leader_up runs.promised t.stopped in
        let z : Some j ≡ None = sym jj ∙ (ap (λ (x : ℕ). (member w x).job) eq ∙ idle) in cc z)))

    go : (k : ℕ) → JobOf w k → (performed k w).last < last_number → Brought (performed k w) e l low
    go k (Of_coordinator epoch is up job) room = absurd (not_idle epoch job)
    go k (Of_member i is up some) room =
        let j = is_job (member w (suc i)).job some in
        subst (λ (x : ℕ). Brought (performed x w) e l low) (sym is)
        (by i up.0 up.1 j.0 j.1 (subst (λ (x : ℕ). (performed x w).last < last_number) is room) h)

-- ---- along the run

pub record Going (o e l low : ℕ) (t : Turn) : Type 0 where
  pub stage : t.stage ≡ Letters
  pub order : IsInOrder t.cluster
  pub reigns : List Reign
  pub sound : SoundWith Truthful o (with_reigns reigns t.cluster)
  pub brought : Brought (with_reigns reigns t.cluster) e l low

with_next : (reigns : List Reign) (w : ClusterState) (x : Option ℕ) → next_letter w ≡ x → next_letter (with_reigns reigns w) ≡ x
with_next reigns w x e = due_with reigns w w.mail ∙ e

order_with : (reigns : List Reign) (w : ClusterState) → IsInOrder w → IsInOrder (with_reigns reigns w)
order_with reigns w h = record { rising = h.rising; fits = h.fits }

went : (o e l low now : ℕ) (t x : Turn) (h : Going o e l low t) → SettleStep now t x → x.stage ≡ Letters → (more : List Reign) (w' : ClusterState) → with_reigns (more ++ h.reigns) x.cluster ≡ w'
    → ClusterStep now (with_reigns h.reigns t.cluster) w' → Brought w' e l low → Going o e l low x
went o e l low now t x h step stage more w' same event brought = record {
  stage = stage;
  order = step_order now t x h.order step;
  reigns = more ++ h.reigns;
  sound = subst (SoundWith Truthful o) (sym same) (event_with Truthful o now (with_reigns h.reigns t.cluster) w' truthful_property h.sound event);
  brought = subst (λ (w : ClusterState). Brought w e l low) (sym same) brought;
}

-- one step more, or the rest
pub data Onward (o e l low : ℕ) (t x : Turn) : Type 0 where
  Goes : Going o e l low x → Onward o e l low t x
  Ends : next_job t.cluster ≡ None → next_letter t.cluster ≡ None → x ≡ turn Rest (record t.cluster { mail = []; last = 0 }) → Onward o e l low t x

pub onward : (o e l low now : ℕ) (t x : Turn) → Going o e l low t → CleanStep now t x → Onward o e l low t x
onward o e l low now t x h c = go c.step c.performed
  where
    w : ClusterState
    w = with_reigns h.reigns t.cluster

    go : (s : SettleStep now t x) → IsPerformed s → Onward o e l low t x
    go (Perform k a s next eq) p = absurd (let z = sym s ∙ h.stage in cc z)
    go (Nudge s next eq) p = absurd (let z = sym s ∙ h.stage in cc z)
    go (Follow_up k Fault s next eq) p = absurd p
    go (Follow_up k Receipt s next eq) p =
        let same : with_reigns ([] ++ h.reigns) x.cluster ≡ performed k w = ap (λ (y : Turn). with_reigns h.reigns y.cluster) eq ∙ sym (performed_apart h.reigns k t.cluster) in
        let room : (performed k w).last < last_number = subst (λ (y : ClusterState). y.last < last_number) same c.room in
        Goes (went o e l low now t x h (Follow_up k Receipt s next eq) (ap (λ (y : Turn). y.stage) eq) [] (performed k w) same
        (events.Done k (job_is_up w k next) refl)
        (works h.sound.tree w o e l low k h.sound.sound next room h.brought))
    go (Deliver n s st none next is eq) p =
        let w1 : ClusterState = record w { mail = marked n w.mail } in
        let a = comes_apart h.reigns now s.to s.message (record t.cluster { mail = marked n t.cluster.mail }) in
        let same : with_reigns (a.0 ++ h.reigns) x.cluster ≡ comes now s.to s.message w1 = ap (λ (y : Turn). with_reigns (a.0 ++ h.reigns) y.cluster) eq ∙ sym a.1 in
        let room : (comes now s.to s.message w1).last < last_number = subst (λ (y : ClusterState). y.last < last_number) same c.room in
        let d = due_is t.cluster 0 t.cluster.mail t.cluster.last n h.order.rising next in
        let ds : d.sent ≡ s = (let z : Some d.sent ≡ Some s = sym d.is ∙ is in cc z) in
        let free = free_with h.reigns t.cluster s.to (free_is t.cluster s.to none (up_is t.cluster s.to (ap (λ (y : Sent). is_up t.cluster y.to) (sym ds) ∙ d.up))) in
        Goes (went o e l low now t x h (Deliver n s st none next is eq) (ap (λ (y : Turn). y.stage) eq) a.0 (comes now s.to s.message w1) same
        (events.Deliver n s is free refl)
        (delivers h.sound.tree w o now n e l low s h.sound.sound h.sound.canon (order_with h.reigns t.cluster h.order) (with_next h.reigns t.cluster (Some n) next) is free room h.brought))
    go (Forget st none next eq) p = Ends none next eq

-- what is left at the rest
rest_complete : (o e l low : ℕ) (t : Turn) → Going o e l low t → next_job t.cluster ≡ None → next_letter t.cluster ≡ None → RunsWith t.cluster e l → HasMost t.cluster e → IsComplete t.cluster l
rest_complete o e l low t h none next runs most = go h.brought
  where
    w : ClusterState
    w = with_reigns h.reigns t.cluster

    runs_w : RunsWith w e l
    runs_w = record { coordinated = runs.coordinated; phase = runs.phase; epoch_is = runs.epoch_is; is_member = runs.is_member; leader_up = runs.leader_up; promised = runs.promised; is_open = runs.is_open }

    go : Brought w e l low → IsComplete t.cluster l
    go (inr stuck) = absurd (let z : is_opened Stopped ≡ true = subst (λ (r : MemberRole). is_opened r ≡ true) stuck.stopped runs.is_open in cc z)
    go (inl tokens) =
        let f = followed w e l low tokens none (with_next h.reigns t.cluster None next) in
        let sound : IsSound o w = record { tree = h.sound.tree; sound = h.sound.sound; reached = h.sound.reached } in
        let c = complete h.sound.tree w o e l h.sound.sound h.sound.reached (committed_begins o e l w sound runs_w) tokens.runs f (record { voters = most.voters; most = most.most; each = most.each }) in
        record { committed_all = c.committed_all; no_job = c.no_job; nothing_behind = c.nothing_behind }

pub run_complete : (o e l low now : ℕ) (t : Turn) (turns : List Turn) (w' : ClusterState) → Going o e l low t → CleanSteps now t turns → last_turn t turns ≡ turn Rest w' → RunsWith w' e l → HasMost w' e → IsComplete w' l
run_complete o e l low now t [] w' h steps ends runs most = absurd (let z : Letters ≡ Rest = sym h.stage ∙ ap (λ (y : Turn). y.stage) ends in cc z)
run_complete o e l low now t (x ∷ xs) w' h steps ends runs most = go (onward o e l low now t x h steps.0) (λ g. run_complete o e l low now x xs w' g steps.1 ends runs most)
  where
    last_is : (x : Turn) (xs : List Turn) → x.stage ≡ Rest → CleanSteps now x xs → last_turn x xs ≡ x
    last_is x [] r s = refl
    last_is x (y ∷ ys) r s = absurd (at_rest now x y r s.0.step)

    go : Onward o e l low t x → (Going o e l low x → IsComplete w' l) → IsComplete w' l
    go (Goes g) on = on g
    go (Ends none next eq) on =
        let lx : x ≡ turn Rest w' = sym (last_is x xs (ap (λ (y : Turn). y.stage) eq) steps.1) ∙ ends in
        let same : bare (record t.cluster { mail = []; last = 0 }) ≡ bare w' = ap (λ (y : Turn). y.cluster) (sym eq ∙ lx) in
        let seats : t.cluster.seats ≡ w'.seats = ap (λ (y : ClusterState). y.seats) same in
        let runs_b : RunsWith (bare w') e l = record { coordinated = runs.coordinated; phase = runs.phase; epoch_is = runs.epoch_is; is_member = runs.is_member; leader_up = runs.leader_up; promised = runs.promised; is_open = runs.is_open } in
        let most_b : HasMost (bare w') e = record { voters = most.voters; most = most.most; each = most.each } in
        let r = subst (λ (y : ClusterState). RunsWith y e l) (sym same) runs_b in
        let m = subst (λ (y : ClusterState). HasMost y e) (sym same) most_b in
        let c = rest_complete o e l low t h none next
        (record { coordinated = r.coordinated; phase = r.phase; epoch_is = r.epoch_is; is_member = r.is_member; leader_up = r.leader_up; promised = r.promised; is_open = r.is_open })
        (record { voters = m.voters; most = m.most; each = m.each }) in
        let cb : IsComplete (bare (record t.cluster { mail = []; last = 0 })) l = record { committed_all = c.committed_all; no_job = c.no_job; nothing_behind = c.nothing_behind } in
        let k = subst (λ (y : ClusterState). IsComplete y l) same cb in
        record { committed_all = k.committed_all; no_job = k.no_job; nothing_behind = k.nothing_behind }
