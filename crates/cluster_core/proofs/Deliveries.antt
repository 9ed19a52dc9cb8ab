-- Messages come to their receivers, and jobs are done.
use Rattle.std.proofs.Common.{◌≡◌, ◌≤◌, ◌<◌, ◌+◌, ℕ, suc, Bool, true, false, cond, not, List, [], ◌++◌, length, Option, Some, None, refl, ap, ◌∙◌, arith}
use Rattle.std.proofs.lemmas.List.{append-nil}
use Rattle.chunk_format.specs.declared.chunk.Chunk.{Chunk}
use Rattle.chunk_format.specs.Logs.{Truthful}
use Rattle.epoch_coordinator.specs.declared.message.Message.{Message}
use Rattle.epoch_coordinator.specs.declared.message.Message.TheVariants as messages
use Rattle.epoch_coordinator.specs.declared.message.Sent.{Sent}
use Rattle.epoch_coordinator.specs.MemberSteps.{taken, finished, commit_end}
use Rattle.epoch_coordinator.specs.Coordinators.{CoordinatorState, stopped}
use Rattle.replication_laws.specs.Cluster.{ClusterState, Seat, Letter, member, numbered, letter_in}
use Rattle.replication_laws.specs.Events.{took, to_coordinator}
use Rattle.replication_laws.specs.Soundness.{IsSound}
use Rattle.replication_laws.proofs.Properties.{with_sound}
use Rattle.cluster_core.specs.declared.mail.Numbered.{Numbered}
use Rattle.cluster_core.specs.declared.outcome.Outcome.{Outcome}
use Rattle.cluster_core.specs.declared.outcome.Outcome.TheVariants.{Did, Nothing, Later}
use Rattle.cluster_core.specs.Parts.{lettered}
use Rattle.cluster_core.specs.Up.{is_up, has_job}
use Rattle.cluster_core.specs.States.{IsStream, cluster_of, reigned, told_by, deliver_by, deliver_due}
use Rattle.cluster_core.specs.Kept.{took_ahead, hears_by}
use Rattle.cluster_core.proofs.Sending.{electors_told}
use Rattle.cluster_core.proofs.Running.{member_of_up}
use Rattle.cluster_core.proofs.Begins.{taken_commits, finished_commits}
use Rattle.cluster_core.proofs.Moves.{taking_zero, finishing_zero, shared_enough, took_is}

-- ---- the coordinator

unheard : (seats : List Seat) (c : CoordinatorState) (before mail : List Numbered) (last : ℕ) (committed : List Chunk)
    → record (cluster_of seats true c before last committed) { mail = lettered mail ++ []; last = last + 0 } ≡ reigned [] (record (cluster_of seats true c before last committed) { mail = lettered mail })
unheard seats c before mail last committed =
    let none : last + 0 ≡ last = omega arith in
    ap (λ (m : List Letter). record (cluster_of seats true c before last committed) { mail = m; last = last + 0 }) (append-nil (lettered mail))
    ∙ ap (λ (n : ℕ). record (cluster_of seats true c before last committed) { mail = lettered mail; last = n }) none

pub hears_is : (message : Message) (seats : List Seat) (c : CoordinatorState) (before mail : List Numbered) (last : ℕ) (committed : List Chunk) → length c.told ≡ c.members
    → hears_by c.members (told_by message c) true mail (cluster_of seats true c before last committed) ≡ reigned [] (to_coordinator message (record (cluster_of seats true c before last committed) { mail = lettered mail }))
hears_is (messages.Stopped epoch from tail) seats c before mail last committed e =
    let h = stopped epoch from tail c in
    ap (λ (s : List Sent). record (cluster_of seats true h.state before last committed) { mail = lettered mail ++ numbered last s; last = last + length (numbered last s) }) (electors_told epoch from tail c e)
hears_is (messages.Stop epoch) seats c before mail last committed e = unheard seats c before mail last committed
hears_is (messages.Open epoch) seats c before mail last committed e = unheard seats c before mail last committed
hears_is (messages.Follow epoch leader) seats c before mail last committed e = unheard seats c before mail last committed
hears_is (messages.Shape epoch runs) seats c before mail last committed e = unheard seats c before mail last committed
hears_is (messages.Ask epoch from tail) seats c before mail last committed e = unheard seats c before mail last committed
hears_is (messages.Append epoch previous chunk) seats c before mail last committed e = unheard seats c before mail last committed

-- ---- members

sound_of : (w : ClusterState) (h : IsStream w) → IsSound h.opened (reigned h.reigns w)
sound_of w h = with_sound Truthful h.opened (reigned h.reigns w) h.sound

there_of : (w : ClusterState) (i : ℕ) → is_up w (suc i) ≡ true → i < length w.seats
there_of w i up = let m = member_of_up w (suc i) (omega arith) up in let z = m.0.1 in omega (arith, z)

pub taken_is : (now number i : ℕ) (w : ClusterState) (s : Sent) (mail : List Letter) → IsStream w → is_up w (suc i) ≡ true → has_job w (suc i) ≡ false → letter_in number w.mail ≡ Some s → s.to ≡ suc i
    → took_ahead (suc i) (taken now s.message (member w (suc i))) (record w { mail = mail }) ≡ took (suc i) (taken now s.message (member w (suc i))) (record w { mail = mail })
taken_is now number i w s mail h up idle there to =
    let m = member w (suc i) in
    let t = taken now s.message m in
    let commits = taken_commits h.opened now number (suc i) (reigned h.reigns w) s (sound_of w h) (omega arith) up idle there to in
    took_is i t (record w { mail = mail }) (there_of w i up) (shared_enough w.committed (length w.committed) (commit_end t.state) m (taking_zero now s.message m) ∙ commits)

pub finished_is : (i : ℕ) (w : ClusterState) → IsStream w → is_up w (suc i) ≡ true → took_ahead (suc i) (finished (member w (suc i))) w ≡ took (suc i) (finished (member w (suc i))) w
finished_is i w h up =
    let m = member w (suc i) in
    let t = finished m in
    let commits = finished_commits h.opened (suc i) (reigned h.reigns w) (sound_of w h) (omega arith) up in
    took_is i t w (there_of w i up) (shared_enough w.committed (length w.committed) (commit_end t.state) m (finishing_zero m) ∙ commits)

-- a member of at most seven
pub few_of_stream : (i : ℕ) (w : ClusterState) → IsStream w → is_up w (suc i) ≡ true → (member w (suc i)).members ≤ 7
few_of_stream i w h up =
    let m = (member_of_up w (suc i) (omega arith) up).0 in
    let n = (h.sound.sound.named (suc i) m).1 in
    let few = h.few in
    omega (arith, n, few)

-- ---- what is due

pub due_none : (number : ℕ) (w : ClusterState) → letter_in number w.mail ≡ None → deliver_due number w ≡ Nothing
due_none number w e = ap (λ (o : Option Sent). deliver_by o w) e

down_by : (up job : Bool) (k : ℕ) → up ≡ false → cond {A = Outcome} (not up) Nothing (cond {A = Outcome} job (Later k) Did) ≡ Nothing
down_by false job k e = refl
down_by true job k e = absurd (cc e)

busy_by : (up job : Bool) (k : ℕ) → up ≡ true → job ≡ true → cond {A = Outcome} (not up) Nothing (cond {A = Outcome} job (Later k) Did) ≡ Later k
busy_by true true k e j = refl
busy_by true false k e j = absurd (cc j)
busy_by false job k e j = absurd (cc e)

free_by : (up job : Bool) (k : ℕ) → up ≡ true → job ≡ false → cond {A = Outcome} (not up) Nothing (cond {A = Outcome} job (Later k) Did) ≡ Did
free_by true false k e j = refl
free_by true true k e j = absurd (cc j)
free_by false job k e j = absurd (cc e)

pub due_down : (number : ℕ) (w : ClusterState) (s : Sent) → letter_in number w.mail ≡ Some s → is_up w s.to ≡ false → deliver_due number w ≡ Nothing
due_down number w s e up = ap (λ (o : Option Sent). deliver_by o w) e ∙ down_by (is_up w s.to) (has_job w s.to) s.to up

pub due_busy : (number : ℕ) (w : ClusterState) (s : Sent) → letter_in number w.mail ≡ Some s → is_up w s.to ≡ true → has_job w s.to ≡ true → deliver_due number w ≡ Later s.to
due_busy number w s e up job = ap (λ (o : Option Sent). deliver_by o w) e ∙ busy_by (is_up w s.to) (has_job w s.to) s.to up job

pub due_free : (number : ℕ) (w : ClusterState) (s : Sent) → letter_in number w.mail ≡ Some s → is_up w s.to ≡ true → has_job w s.to ≡ false → deliver_due number w ≡ Did
due_free number w s e up job = ap (λ (o : Option Sent). deliver_by o w) e ∙ free_by (is_up w s.to) (has_job w s.to) s.to up job
