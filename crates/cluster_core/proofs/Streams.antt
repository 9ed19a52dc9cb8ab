-- A stream goes on by the events of the laws, with some reigns.
use Rattle.std.proofs.Common.{◌≡◌, ◌≤◌, ◌<◌, ◌+◌, ℕ, zero, suc, Bool, true, false, cond, not, ◌&&◌, ◌||◌, ◌==◌, List, [], ◌∷◌, ◌++◌, length, length-set, Option, Some, None, is_some, refl, sym, ap, subst, ◌∙◌, inl, inr, ◌⊎◌, arith}
use Rattle.chunk_format.specs.declared.chunk.Chunk.{Chunk}
use Rattle.chunk_format.specs.Logs.{GoesOn, IsLog, Truthful, RisesIn}
use Rattle.epoch_coordinator.specs.declared.message.Message.{Message}
use Rattle.epoch_coordinator.specs.declared.message.Message.TheVariants as messages
use Rattle.epoch_coordinator.specs.declared.message.Sent.{Sent}
use Rattle.epoch_coordinator.specs.declared.coordinator.StoppedDid.{StoppedDid}
use Rattle.epoch_coordinator.specs.declared.coordinator.StoppedDid.TheVariants as did
use Rattle.epoch_coordinator.specs.Coordinators.{CoordinatorState, Hears, stopped}
use Rattle.epoch_coordinator.specs.Scripts.{opened}
use Rattle.replication_laws.specs.Cluster.{ClusterState, Reign, member, letter_in, marked, last_number, seat}
use Rattle.replication_laws.specs.Events.{Elect, Deliver, Lose, Forget, Nudge, Done, Stop, Reopen, Happens, Takes, OfferStep, IsUp, IsFree, MayBegin, comes, to_coordinator, heard_by, reigns_after, performed, begins, goes_down}
use Rattle.replication_laws.specs.Openings.{Start, start_at, start_seats, opened_cluster, CanStart}
use Rattle.replication_laws.specs.Soundness.{Kept, IsSound, StaysKept}
use Rattle.replication_laws.specs.Properties.{SoundWith}
use Rattle.replication_laws.proofs.Joined.{step_kept, step_grows}
use Rattle.replication_laws.proofs.Properties.{event_with, step_with, all_have, with_sound}
use Rattle.replication_laws.proofs.Snapshots.{truthful_property, truthful_offers, rises_property}
use Rattle.replication_laws.proofs.Starts.{start_has}
use Rattle.replication_laws.proofs.Meetings.{majorities}
use Rattle.replication_laws.proofs.Carry.{holds_log}
use Rattle.chunk_format.proofs.BeginLaws.{log_front}
use Rattle.cluster_core.specs.declared.outcome.Outcome.{Outcome}
use Rattle.cluster_core.specs.declared.outcome.Outcome.TheVariants.{Did, Nothing, Later, Last, Differs, Memory}
use Rattle.cluster_core.specs.Up.{is_up, has_job}
use Rattle.cluster_core.specs.States.{ReplicaState, IsStream, Happened, Goes, Gives, IfDid, reigned, elect_due, deliver_by, deliver_due, lose_by, lose_due, done_due, stop_due, begins_by, may_begin, reopen_due, number_at}
use Rattle.cluster_core.specs.Kept.{delivered_by, after_elect, after_deliver, after_lose, after_forget, after_nudge, after_done, after_stop, after_reopen}
use Rattle.cluster_core.proofs.Running.{up_is}

-- ---- what a step keeps

pub keeps : (now : ℕ) (w w' : ClusterState) → IsStream w → length w'.seats ≡ length w.seats → Happened now w w' → IsStream w'
keeps now w w' h same step =
    let s = step h.reigns in
    let some = h.some in
    let few = h.few in
    record {
      some = omega (arith, same, some);
      few = omega (arith, same, few);
      opened = h.opened;
      reigns = s.0 ++ h.reigns;
      sound = event_with Truthful h.opened now (reigned h.reigns w) (reigned (s.0 ++ h.reigns) w') truthful_property h.sound s.1;
    }

pub gives_stream : (due result : Outcome) (old new after : ReplicaState) → Gives due result old new after → IsStream old.cluster → (due ≡ Did → IsStream after.cluster) → IsStream new.cluster
gives_stream due Did old new after g h k = subst (λ (r : ReplicaState). IsStream r.cluster) (sym g.1) (k g.0)
gives_stream due Nothing old new after g h k = subst (λ (r : ReplicaState). IsStream r.cluster) (sym g.1) h
gives_stream due (Later n) old new after g h k = subst (λ (r : ReplicaState). IsStream r.cluster) (sym g.1) h
gives_stream due (Last epoch) old new after g h k = subst (λ (r : ReplicaState). IsStream r.cluster) (sym g.1) h
gives_stream due (Differs a b) old new after g h k = subst (λ (r : ReplicaState). IsStream r.cluster) (sym g.1) h
gives_stream due Memory old new after g h k = subst (λ (r : ReplicaState). IsStream r.cluster) (sym g) h

pub gives_step : (now : ℕ) (due result : Outcome) (old new after : ReplicaState) → Gives due result old new after → (due ≡ Did → Happened now old.cluster after.cluster) → IfDid result (Happened now old.cluster new.cluster)
gives_step now due Did old new after g k = subst (λ (r : ReplicaState). Happened now old.cluster r.cluster) (sym g.1) (k g.0)
gives_step now due Nothing old new after g k = tt
gives_step now due (Later n) old new after g k = tt
gives_step now due (Last epoch) old new after g k = tt
gives_step now due (Differs a b) old new after g k = tt
gives_step now due Memory old new after g k = tt

pub goes_stream : (now : ℕ) (due result : Outcome) (old new after : ReplicaState) → Gives due result old new after → IsStream old.cluster → (due ≡ Did → Goes now old after) → IsStream new.cluster
goes_stream now due result old new after g h k = gives_stream due result old new after g h (λ d. keeps now old.cluster after.cluster h (k d).same (k d).step)

pub goes_step : (now : ℕ) (due result : Outcome) (old new after : ReplicaState) → Gives due result old new after → (due ≡ Did → Goes now old after) → IfDid result (Happened now old.cluster new.cluster)
goes_step now due result old new after g k = gives_step now due result old new after g (λ d. (k d).step)

-- ---- who is up

no_job : {A : Type 0} (j : Option A) → is_some j ≡ false → j ≡ None
no_job None h = refl
no_job (Some j) h = absurd (cc h)

up_reigned : (rs : List Reign) (w : ClusterState) (k : ℕ) → is_up w k ≡ true → IsUp (reigned rs w) k
up_reigned rs w zero u = u
up_reigned rs w (suc i) u = up_is w (suc i) u

free_reigned : (rs : List Reign) (w : ClusterState) (k : ℕ) → is_up w k ≡ true → has_job w k ≡ false → IsFree (reigned rs w) k
free_reigned rs w zero u j = (u, no_job w.coordinator.job j)
free_reigned rs w (suc i) u j = (up_is w (suc i) u, no_job (member w (suc i)).job j)

-- ---- an election

elect_by : (up job last : Bool) (e : ℕ) → cond {A = Outcome} (not up) Nothing (cond {A = Outcome} job (Later 0) (cond {A = Outcome} last (Last e) Did)) ≡ Did → (up ≡ true) × ((job ≡ false) × (last ≡ false))
elect_by true false false e h = (refl, (refl, refl))
elect_by true false true e h = absurd (cc h)
elect_by true true last e h = absurd (cc h)
elect_by false job last e h = absurd (cc h)

below : (a b : ℕ) → a ≤ b → (a == b) ≡ false → a < b
below a b le ne = grind arith

pub elect_goes : (now : ℕ) (r : ReplicaState) → IsStream r.cluster → elect_due r.cluster ≡ Did → Goes now r (after_elect r)
elect_goes now r h d =
    let w = r.cluster in
    let p = elect_by (is_up w 0) (has_job w 0) (w.coordinator.epoch == last_number) w.coordinator.epoch d in
    record {
      same = refl;
      step = λ rs. ([], Elect (p.0, no_job w.coordinator.job p.1.0) (below w.coordinator.epoch last_number h.sound.sound.coordinator.fits p.1.1) refl);
    }

-- ---- messages

was_there : (o : Option Sent) → lose_by o ≡ Did → (s : Sent) × (o ≡ Some s)
was_there None d = absurd (cc d)
was_there (Some s) d = (s, refl)

pub lose_goes : (now number : ℕ) (r : ReplicaState) → lose_due number r.cluster ≡ Did → Goes now r (after_lose number r)
lose_goes now number r d = let s = was_there (letter_in number r.cluster.mail) d in record { same = refl; step = λ rs. ([], Lose number s.0 s.1 refl) }

pub forget_goes : (now : ℕ) (r : ReplicaState) → Goes now r (after_forget r)
forget_goes now r = record { same = refl; step = λ rs. ([], Forget refl) }

pub nudge_goes : (now : ℕ) (r : ReplicaState) → Goes now r (after_nudge r)
nudge_goes now r = record { same = refl; step = λ rs. ([], Nudge refl) }

record Comes (o : Option Sent) (w : ClusterState) : Type 0 where
  s : Sent
  there : o ≡ Some s
  up : is_up w s.to ≡ true
  idle : has_job w s.to ≡ false

free_by : (up job : Bool) (k : ℕ) → cond {A = Outcome} (not up) Nothing (cond {A = Outcome} job (Later k) Did) ≡ Did → (up ≡ true) × (job ≡ false)
free_by true false k d = (refl, refl)
free_by true true k d = absurd (cc d)
free_by false job k d = absurd (cc d)

comes_by : (o : Option Sent) (w : ClusterState) → deliver_by o w ≡ Did → Comes o w
comes_by None w d = absurd (cc d)
comes_by (Some s) w d = let p = free_by (is_up w s.to) (has_job w s.to) s.to d in record { s = s; there = refl; up = p.0; idle = p.1 }

-- the reigns that a message brings are added to any reigns
heard_reigned : (rs : List Reign) (state : CoordinatorState) (answer : StoppedDid) (w : ClusterState) →
    (more : List Reign) × (heard_by (record { state = state; answer = answer }) (reigned rs w) ≡ reigned (more ++ rs) (reigned [] (heard_by (record { state = state; answer = answer }) w)))
heard_reigned rs state did.Later w = ([], refl)
heard_reigned rs state did.Nothing w = ([], refl)
heard_reigned rs state (did.Send1 sent) w = ([], refl)
heard_reigned rs state (did.Opened epoch leader electors) w = (reigns_after (did.Opened epoch leader electors) (reigned [] w), refl)

hears_reigned : (rs : List Reign) (h : Hears) (w : ClusterState) → (more : List Reign) × (heard_by h (reigned rs w) ≡ reigned (more ++ rs) (reigned [] (heard_by h w)))
hears_reigned rs h w = heard_reigned rs h.state h.answer w

to_reigned : (rs : List Reign) (message : Message) (w : ClusterState) → (more : List Reign) × (to_coordinator message (reigned rs w) ≡ reigned (more ++ rs) (reigned [] (to_coordinator message w)))
to_reigned rs (messages.Stopped epoch from tail) w = hears_reigned rs (stopped epoch from tail w.coordinator) w
to_reigned rs (messages.Stop epoch) w = ([], refl)
to_reigned rs (messages.Open epoch) w = ([], refl)
to_reigned rs (messages.Follow epoch leader) w = ([], refl)
to_reigned rs (messages.Shape epoch runs) w = ([], refl)
to_reigned rs (messages.Ask epoch from tail) w = ([], refl)
to_reigned rs (messages.Append epoch previous chunk) w = ([], refl)

comes_reigned : (rs : List Reign) (now k : ℕ) (message : Message) (w : ClusterState) → (more : List Reign) × (comes now k message (reigned rs w) ≡ reigned (more ++ rs) (reigned [] (comes now k message w)))
comes_reigned rs now zero message w = to_reigned rs message w
comes_reigned rs now (suc i) message w = ([], refl)

to_seats : (message : Message) (w : ClusterState) → (to_coordinator message w).seats ≡ w.seats
to_seats (messages.Stopped epoch from tail) w = refl
to_seats (messages.Stop epoch) w = refl
to_seats (messages.Open epoch) w = refl
to_seats (messages.Follow epoch leader) w = refl
to_seats (messages.Shape epoch runs) w = refl
to_seats (messages.Ask epoch from tail) w = refl
to_seats (messages.Append epoch previous chunk) w = refl

comes_seats : (now k : ℕ) (message : Message) (w : ClusterState) → length (comes now k message w).seats ≡ length w.seats
comes_seats now zero message w = ap length (to_seats message w)
comes_seats now (suc i) message w = length-set w.seats i _

pub deliver_goes : (now number : ℕ) (r : ReplicaState) → deliver_due number r.cluster ≡ Did → Goes now r (after_deliver number now r)
deliver_goes now number r d =
    let w = r.cluster in
    let c = comes_by (letter_in number w.mail) w d in
    let at : delivered_by (letter_in number w.mail) number now w ≡ comes now c.s.to c.s.message (record w { mail = marked number w.mail }) = ap (λ (o : Option Sent). delivered_by o number now w) c.there in
    let w1 : ClusterState = record w { mail = marked number w.mail } in
    record {
      same = ap (λ (x : ClusterState). length x.seats) at ∙ comes_seats now c.s.to c.s.message w1;
      step = λ rs. (let x = comes_reigned rs now c.s.to c.s.message w1 in (x.0, Deliver number c.s c.there (free_reigned rs w c.s.to c.up c.idle) (ap (λ (y : ClusterState). reigned (x.0 ++ rs) (reigned [] y)) at ∙ sym x.1)));
    }

-- ---- jobs

all3 : (a b c : Bool) → cond {A = Outcome} (a && b && c) Did Nothing ≡ Did → (a ≡ true) × (b ≡ true)
all3 true true c d = (refl, refl)
all3 true false c d = absurd (cc d)
all3 false b c d = absurd (cc d)

begins_reigned : (rs : List Reign) (job : Option ℕ) (w : ClusterState) → begins job (reigned rs w) ≡ reigned ([] ++ rs) (reigned [] (begins job w))
begins_reigned rs None w = refl
begins_reigned rs (Some epoch) w = refl

performed_reigned : (rs : List Reign) (k : ℕ) (w : ClusterState) → performed k (reigned rs w) ≡ reigned ([] ++ rs) (reigned [] (performed k w))
performed_reigned rs zero w = begins_reigned rs w.coordinator.job w
performed_reigned rs (suc i) w = refl

begins_seats : (job : Option ℕ) (w : ClusterState) → (begins job w).seats ≡ w.seats
begins_seats None w = refl
begins_seats (Some epoch) w = refl

performed_seats : (k : ℕ) (w : ClusterState) → length (performed k w).seats ≡ length w.seats
performed_seats zero w = ap length (begins_seats w.coordinator.job w)
performed_seats (suc i) w = length-set w.seats i _

pub done_goes : (now k number : ℕ) (r : ReplicaState) → done_due k number r ≡ Did → Goes now r (after_done k r)
done_goes now k number r d =
    let w = r.cluster in
    let p = all3 (is_up w k) (has_job w k) (number_at r k == number) d in
    record { same = performed_seats k w; step = λ rs. ([], Done k (up_reigned rs w k p.0) (sym (performed_reigned rs k w))) }

-- ---- stops and comings up

is_did : (b : Bool) → cond {A = Outcome} b Did Nothing ≡ Did → b ≡ true
is_did true d = refl
is_did false d = absurd (cc d)

down_reigned : (rs : List Reign) (k : ℕ) (w : ClusterState) → goes_down k (reigned rs w) ≡ reigned ([] ++ rs) (reigned [] (goes_down k w))
down_reigned rs zero w = refl
down_reigned rs (suc i) w = refl

down_seats : (k : ℕ) (w : ClusterState) → length (goes_down k w).seats ≡ length w.seats
down_seats zero w = refl
down_seats (suc i) w = length-set w.seats i _

pub stop_goes : (now k : ℕ) (r : ReplicaState) → stop_due k r.cluster ≡ Did → Goes now r (after_stop k r)
stop_goes now k r d =
    let w = r.cluster in
    record { same = down_seats k w; step = λ rs. ([], Stop k (up_reigned rs w k (is_did (is_up w k) d)) (sym (down_reigned rs k w))) }

reopens_by : (up may : Bool) (a b : ℕ) → cond {A = Outcome} up Nothing (cond {A = Outcome} may Did (Differs a b)) ≡ Did → (up ≡ false) × (may ≡ true)
reopens_by false true a b d = (refl, refl)
reopens_by false false a b d = absurd (cc d)
reopens_by true may a b d = absurd (cc d)

same_number : (a b : ℕ) → (a == b) ≡ true → a ≡ b
same_number a b h = grind arith

job_begins : (job : Option ℕ) (epoch : ℕ) → begins_by job epoch ≡ true → job ≡ Some epoch
job_begins None epoch h = absurd (cc h)
job_begins (Some next) epoch h = ap Some (same_number next epoch h)

one_of : (a b : Bool) → (a || b) ≡ true → (a ≡ true) ⊎ (b ≡ true)
one_of true b h = inl refl
one_of false b h = inr h

may_by : (c : CoordinatorState) (epoch : ℕ) → (c.epoch == epoch) ≡ true ⊎ begins_by c.job epoch ≡ true → MayBegin c epoch
may_by c epoch (inl h) = inl (sym (same_number c.epoch epoch h))
may_by c epoch (inr h) = inr (job_begins c.job epoch h)

pub reopen_goes : (now epoch : ℕ) (r : ReplicaState) → reopen_due epoch r.cluster ≡ Did → Goes now r (after_reopen epoch r)
reopen_goes now epoch r d =
    let w = r.cluster in
    let p = reopens_by w.coordinator_up (may_begin w.coordinator epoch) w.coordinator.epoch epoch d in
    record { same = refl; step = λ rs. ([], Reopen epoch p.0 (may_by w.coordinator epoch (one_of (w.coordinator.epoch == epoch) (begins_by w.coordinator.job epoch) p.1)) refl) }

-- ---- what the laws say of a stream of which the reigns aren't kept

pub stays_kept : (opened now : ℕ) (reigns : List Reign) (w w' : ClusterState) (list : List Chunk) → IsSound opened (reigned reigns w) → Happened now w w' → Kept (reigned reigns w) list → (more : List Reign) × StaysKept list (reigned (more ++ reigns) w')
stays_kept opened now reigns w w' list sound step kept = (let s = step reigns in (s.0, step_kept opened (reigned reigns w) (reigned (s.0 ++ reigns) w') list sound (Happens now s.1) kept))

pub grows : (now : ℕ) (w w' : ClusterState) → IsStream w → Happened now w w' → GoesOn w.committed w'.committed
grows now w w' h step = (let s = step h.reigns in step_grows h.opened (reigned h.reigns w) (reigned (s.0 ++ h.reigns) w') (with_sound Truthful h.opened (reigned h.reigns w) h.sound) (Happens now s.1))

pub rises : (opened now : ℕ) (reigns : List Reign) (w w' : ClusterState) → SoundWith RisesIn opened (reigned reigns w) → Happened now w w' → (more : List Reign) × SoundWith RisesIn opened (reigned (more ++ reigns) w')
rises opened now reigns w w' sound step = (let s = step reigns in (s.0, event_with RisesIn opened now (reigned reigns w) (reigned (s.0 ++ reigns) w') rises_property sound s.1))

seats_count : (members number : ℕ) (starts : List Start) → length (start_seats members number starts) ≡ length starts
seats_count members number [] = refl
seats_count members number (s ∷ starts) = ap suc (seats_count members (number + 1) starts)

pub opened_stream : (epoch : ℕ) (starts : List Start) → length starts ≤ 7 → CanStart epoch starts → ((i : ℕ) → i < length starts → Truthful (start_at starts i).log) → IsStream (opened_cluster epoch starts)
opened_stream epoch starts few can each =
    let n = seats_count (length starts) 1 starts in
    let some = can.some in
    record {
      some = omega (arith, n, some);
      few = omega (arith, n, few);
      opened = epoch;
      reigns = [];
      sound = start_has Truthful epoch starts truthful_property can each;
    }

pub offer_keeps : (now : ℕ) (w w' : ClusterState) → IsStream w → length w'.seats ≡ length w.seats → ((reigns : List Reign) → OfferStep now (reigned reigns w) (reigned reigns w')) → IsStream w'
offer_keeps now w w' h same step =
    let some = h.some in
    let few = h.few in
    record {
      some = omega (arith, same, some);
      few = omega (arith, same, few);
      opened = h.opened;
      reigns = h.reigns;
      sound = step_with Truthful h.opened (reigned h.reigns w) (reigned h.reigns w') truthful_property truthful_offers h.sound (Takes now (step h.reigns));
    }

pub committed_log : (w : ClusterState) → IsStream w → IsLog w.committed
committed_log w h =
    let s = h.sound.sound in
    let c = s.committed in
    let j = majorities (length w.seats) c.voters c.voters c.most c.most in
    let log = (member w j.0).log in
    log_front w.committed log (c.held j.0 j.1 log (holds_log h.sound.tree (reigned h.reigns w) j.0 (seat w j.0) (s.each_member j.0))) (s.each_member j.0).is_log

pub committed_truthful : (w : ClusterState) → IsStream w → Truthful w.committed
committed_truthful w h = (all_have Truthful h.opened (reigned h.reigns w) truthful_property h.sound).committed
