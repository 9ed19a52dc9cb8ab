-- A settle is a list of events.
use Rattle.std.proofs.Common.{◌≡◌, ℕ, List, [], ◌∷◌, ◌++◌, refl, sym, ap, ◌∙◌, subst, Option, Some, None, zero, suc, append_assoc}
use Rattle.chunk_format.specs.declared.chunk.Chunk.{Chunk}
use Rattle.chunk_format.specs.Logs.{GoesOn}
use Rattle.chunk_format.proofs.BeginLaws.{goes_on, goes_same}
use Rattle.epoch_coordinator.specs.declared.message.Message.{Message}
use Rattle.epoch_coordinator.specs.declared.message.Message.TheVariants as messages
use Rattle.epoch_coordinator.specs.declared.coordinator.StoppedDid.{StoppedDid}
use Rattle.epoch_coordinator.specs.declared.coordinator.StoppedDid.TheVariants as did
use Rattle.epoch_coordinator.specs.Coordinators.{CoordinatorState, Hears, stopped}
use Rattle.epoch_coordinator.specs.declared.message.Sent.{Sent}
use Rattle.replication_laws.specs.Cluster.{Reign, ClusterState, marked, send}
use Rattle.replication_laws.specs.Events.{IsUp, IsFree, reigns_after, heard_by, to_coordinator, comes, begins, performed, goes_down, nudges, ClusterStep, AnyStep, Happens, Steps}
use Rattle.replication_laws.specs.Events as events
use Rattle.replication_laws.specs.Soundness.{Kept, IsSound, StaysKept}
use Rattle.replication_laws.proofs.Commits.{kept_order}
use Rattle.replication_laws.proofs.Joined.{step_sound, step_kept, step_grows}
use Rattle.settling_laws.specs.Settling.{Answer, Receipt, Fault, answered, Stage, Turn, bare, turn, SettleStep, Perform, Nudge, Follow_up, Deliver, Forget, Stepping, last_turn, Settling, with_reigns, IsEvent, is_up}
use Rattle.settling_laws.specs.Measures.{IsInOrder, RunsTo, last_state}
use Rattle.settling_laws.proofs.Nexts.{job_is_up, up_is, free_is, due_is}
use Rattle.settling_laws.proofs.Ordered.{event_in_order}

-- ---- reigns stand apart

-- with reigns, what comes is the same, but for the reign that may be added
abbrev Apart : List Reign → ClusterState → ClusterState → Type 0
Apart reigns x w = (more : List Reign) × (x ≡ with_reigns (more ++ reigns) (bare w))

heard_apart : (reigns : List Reign) (state : CoordinatorState) (answer : StoppedDid) (w : ClusterState)
    → Apart reigns (heard_by (record { state = state; answer = answer }) (with_reigns reigns w)) (heard_by (record { state = state; answer = answer }) w)
heard_apart reigns state did.Later w = ([], refl)
heard_apart reigns state did.Nothing w = ([], refl)
heard_apart reigns state (did.Send1 sent) w = ([], refl)
heard_apart reigns state (did.Opened epoch leader electors) w = (reigns_after (did.Opened epoch leader electors) (with_reigns [] w), refl)

hears_apart : (reigns : List Reign) (h : Hears) (w : ClusterState) → Apart reigns (heard_by h (with_reigns reigns w)) (heard_by h w)
hears_apart reigns h w = heard_apart reigns h.state h.answer w

to_apart : (reigns : List Reign) (message : Message) (w : ClusterState) → Apart reigns (to_coordinator message (with_reigns reigns w)) (to_coordinator message w)
to_apart reigns (messages.Stopped epoch from tail) w = hears_apart reigns (stopped epoch from tail w.coordinator) w
to_apart reigns (messages.Stop epoch) w = ([], refl)
to_apart reigns (messages.Open epoch) w = ([], refl)
to_apart reigns (messages.Follow epoch leader) w = ([], refl)
to_apart reigns (messages.Shape epoch runs) w = ([], refl)
to_apart reigns (messages.Ask epoch from tail) w = ([], refl)
to_apart reigns (messages.Append epoch previous chunk) w = ([], refl)

pub comes_apart : (reigns : List Reign) (now k : ℕ) (message : Message) (w : ClusterState) → Apart reigns (comes now k message (with_reigns reigns w)) (comes now k message w)
comes_apart reigns now zero message w = to_apart reigns message w
comes_apart reigns now (suc i) message w = ([], refl)

begins_apart : (reigns : List Reign) (job : Option ℕ) (w : ClusterState) → begins job (with_reigns reigns w) ≡ with_reigns reigns (bare (begins job w))
begins_apart reigns None w = refl
begins_apart reigns (Some epoch) w = refl

pub performed_apart : (reigns : List Reign) (k : ℕ) (w : ClusterState) → performed k (with_reigns reigns w) ≡ with_reigns reigns (bare (performed k w))
performed_apart reigns zero w = begins_apart reigns w.coordinator.job w
performed_apart reigns (suc i) w = refl

down_apart : (reigns : List Reign) (k : ℕ) (w : ClusterState) → goes_down k (with_reigns reigns w) ≡ with_reigns reigns (bare (goes_down k w))
down_apart reigns zero w = refl
down_apart reigns (suc i) w = refl

up_with : (reigns : List Reign) (w : ClusterState) (k : ℕ) → IsUp w k → IsUp (with_reigns reigns w) k
up_with reigns w zero u = u
up_with reigns w (suc i) u = u

pub free_with : (reigns : List Reign) (w : ClusterState) (k : ℕ) → IsFree w k → IsFree (with_reigns reigns w) k
free_with reigns w zero u = u
free_with reigns w (suc i) u = u

-- ---- each step is an event

cluster_is : (old : Turn) (new : Turn) (stage : Stage) (w : ClusterState) → new ≡ turn stage w → new.cluster ≡ bare w
cluster_is old new stage w e = ap (λ (t : Turn). t.cluster) e

answered_event : (now k : ℕ) (a : Answer) (w : ClusterState) → IsUp w k → IsEvent now w (bare (answered a k w))
answered_event now k Receipt w up reigns = ([], events.Done k (up_with reigns w k up) (sym (performed_apart reigns k w)))
answered_event now k Fault w up reigns = ([], events.Stop k (up_with reigns w k up) (sym (down_apart reigns k w)))

to_event : (now : ℕ) (w x x' : ClusterState) → x ≡ x' → IsEvent now w x' → IsEvent now w x
to_event now w x x' e h = subst (IsEvent now w) (sym e) h

pub step_event : (now : ℕ) (old new : Turn) → IsInOrder old.cluster → SettleStep now old new → IsEvent now old.cluster new.cluster
step_event now old new order (Perform k a stage next e) =
    to_event now old.cluster new.cluster _ (ap (λ (t : Turn). t.cluster) e) (answered_event now k a old.cluster (job_is_up old.cluster k next))
step_event now old new order (Nudge stage next e) =
    to_event now old.cluster new.cluster (bare (send old.cluster (nudges old.cluster))) (ap (λ (t : Turn). t.cluster) e) (λ reigns. ([], events.Nudge refl))
step_event now old new order (Follow_up k a stage next e) =
    to_event now old.cluster new.cluster _ (ap (λ (t : Turn). t.cluster) e) (answered_event now k a old.cluster (job_is_up old.cluster k next))
step_event now old new order (Deliver number s stage none next is e) =
    let w = old.cluster in
    let w1 : ClusterState = record w { mail = marked number w.mail } in
    let d = due_is w 0 w.mail w.last number order.rising next in
    let same : d.sent ≡ s = (let x : Some d.sent ≡ Some s = sym d.is ∙ is in cc x) in
    let free = free_is w s.to none (up_is w s.to (ap (λ (x : Sent). is_up w x.to) (sym same) ∙ d.up)) in
    to_event now w new.cluster _ (ap (λ (t : Turn). t.cluster) e)
    (λ reigns. (let x = comes_apart reigns now s.to s.message w1 in (x.0, events.Deliver number s is (free_with reigns w s.to free) (sym x.1))))
step_event now old new order (Forget stage none next e) =
    to_event now old.cluster new.cluster (bare (record old.cluster { mail = []; last = 0 })) (ap (λ (t : Turn). t.cluster) e) (λ reigns. ([], events.Forget refl))

pub step_order : (now : ℕ) (old new : Turn) → IsInOrder old.cluster → SettleStep now old new → IsInOrder new.cluster
step_order now old new order step =
    let e = step_event now old new order step [] in
    let h = event_in_order now (with_reigns [] old.cluster) (with_reigns (e.0 ++ []) new.cluster) (record { rising = order.rising; fits = order.fits }) e.1 in
    record { rising = h.rising; fits = h.fits }

-- ---- a list of events

pub runs_to : (now : ℕ) (reigns : List Reign) (t : Turn) (turns : List Turn) → IsInOrder t.cluster → Stepping now t turns → RunsTo reigns t.cluster (last_turn t turns).cluster
runs_to now reigns t [] order steps = record { more = []; run = []; steps = tt; ends = refl }
runs_to now reigns t (x ∷ xs) order steps =
    let e = step_event now t x order steps.0 reigns in
    let r = runs_to now (e.0 ++ reigns) x xs (step_order now t x order steps.0) steps.1 in
    record {
      more = r.more ++ e.0;
      run = with_reigns (e.0 ++ reigns) x.cluster ∷ r.run;
      steps = (Happens now e.1, r.steps);
      ends = r.ends ∙ ap (λ (rs : List Reign). with_reigns rs (last_turn x xs).cluster) (sym (append_assoc r.more e.0 reigns));
    }

pub settle_runs : (now : ℕ) (reigns : List Reign) (old new : Turn) → IsInOrder old.cluster → Settling now old new → RunsTo reigns old.cluster new.cluster
settle_runs now reigns old new order s = subst (λ (t : Turn). RunsTo reigns old.cluster t.cluster) s.ends (runs_to now reigns old s.turns order s.steps)

pub settle_in_order : (now : ℕ) (old new : Turn) → IsInOrder old.cluster → Settling now old new → IsInOrder new.cluster
settle_in_order now old new order s = subst (λ (t : Turn). IsInOrder t.cluster) s.ends (go old s.turns order s.steps)
  where
    go : (t : Turn) (turns : List Turn) → IsInOrder t.cluster → Stepping now t turns → IsInOrder (last_turn t turns).cluster
    go t [] order steps = order
    go t (x ∷ xs) order steps = go x xs (step_order now t x order steps.0) steps.1

-- ---- what a run leaves

last_sound : (o : ℕ) (w : ClusterState) (run : List ClusterState) → IsSound o w → Steps w run → IsSound o (last_state w run)
last_sound o w [] s steps = s
last_sound o w (x ∷ xs) s steps = last_sound o x xs (step_sound o w x s steps.0) steps.1

last_grows : (o : ℕ) (w : ClusterState) (run : List ClusterState) → IsSound o w → Steps w run → GoesOn w.committed (last_state w run).committed
last_grows o w [] s steps = goes_same w.committed
last_grows o w (x ∷ xs) s steps =
    goes_on w.committed x.committed (last_state x xs).committed (step_grows o w x s steps.0) (last_grows o x xs (step_sound o w x s steps.0) steps.1)

pub run_sound : (o : ℕ) (reigns : List Reign) (w w' : ClusterState) → IsSound o (with_reigns reigns w) → RunsTo reigns w w' → (more : List Reign) × IsSound o (with_reigns (more ++ reigns) w')
run_sound o reigns w w' s r = (r.more, subst (IsSound o) r.ends (last_sound o (with_reigns reigns w) r.run s r.steps))

pub run_grows : (o : ℕ) (reigns : List Reign) (w w' : ClusterState) → IsSound o (with_reigns reigns w) → RunsTo reigns w w' → GoesOn w.committed w'.committed
run_grows o reigns w w' s r = subst (λ (x : ClusterState). GoesOn w.committed x.committed) r.ends (last_grows o (with_reigns reigns w) r.run s r.steps)

last_kept : (o : ℕ) (w : ClusterState) (run : List ClusterState) (list : List Chunk) → IsSound o w → Steps w run → Kept w list → StaysKept list (last_state w run)
last_kept o w [] list s steps h = record { kept = h; order = kept_order s.tree w o list w.committed s.sound h s.sound.committed }
last_kept o w (x ∷ xs) list s steps h = last_kept o x xs list (step_sound o w x s steps.0) steps.1 (step_kept o w x list s steps.0 h).kept

pub settle_sound : (o now : ℕ) (reigns : List Reign) (old new : Turn) → IsSound o (with_reigns reigns old.cluster) → IsInOrder old.cluster → Settling now old new
    → (more : List Reign) × IsSound o (with_reigns (more ++ reigns) new.cluster)
settle_sound o now reigns old new s order h = run_sound o reigns old.cluster new.cluster s (settle_runs now reigns old new order h)

pub settle_grows : (o now : ℕ) (reigns : List Reign) (old new : Turn) → IsSound o (with_reigns reigns old.cluster) → IsInOrder old.cluster → Settling now old new → GoesOn old.cluster.committed new.cluster.committed
settle_grows o now reigns old new s order h = run_grows o reigns old.cluster new.cluster s (settle_runs now reigns old new order h)

pub settle_kept : (o now : ℕ) (reigns : List Reign) (old new : Turn) (list : List Chunk) → IsSound o (with_reigns reigns old.cluster) → IsInOrder old.cluster → Settling now old new
    → Kept (with_reigns reigns old.cluster) list → (more : List Reign) × StaysKept list (with_reigns (more ++ reigns) new.cluster)
settle_kept o now reigns old new list s order h kept =
    let r = settle_runs now reigns old new order h in
    (r.more, subst (StaysKept list) r.ends (last_kept o (with_reigns reigns old.cluster) r.run list s r.steps kept))
