-- What is committed stands ahead of the committed list, in a sound stream.
use Rattle.std.proofs.Common.{◌≡◌, ◌≤◌, ℕ, zero, suc, true, false, List, length, length-set, is_some, Option, Some, None, refl, sym, ap, subst, arith}
use Rattle.std.proofs.lemmas.List.{get_or-set_same}
use Rattle.chunk_format.specs.declared.chunk.Chunk.{Chunk}
use Rattle.chunk_format.specs.Logs.{GoesOn, IsLog, end_of}
use Rattle.epoch_coordinator.specs.declared.message.Sent.{Sent}
use Rattle.epoch_coordinator.specs.declared.message.Job.{Job}
use Rattle.epoch_coordinator.specs.Members.{MemberRole, MemberState, Stopped, Follower, Leader}
use Rattle.epoch_coordinator.specs.MemberSteps.{taken, finished, commit_end}
use Rattle.replication_laws.specs.Cluster.{ClusterState, Seat, member, nobody, IsMember, put, send, letter_in, marked}
use Rattle.replication_laws.specs.Events.{committed_by, IsFree}
use Rattle.replication_laws.specs.Soundness.{IsSound, LineHolds}
use Rattle.replication_laws.proofs.Joined.{commit_extends, taken_before, finished_before}
use Rattle.cluster_core.specs.Up.{is_up, has_job}
use Rattle.cluster_core.specs.Parts.{ahead_of, extended}
use Rattle.cluster_core.proofs.Running.{member_of_up}
use Rattle.cluster_core.proofs.Ahead.{WritesBy, taken_log, extended_is, taken_ahead, finished_ahead}

-- what was put at a member's place is there
put_there : (w : ClusterState) (k : ℕ) (s : Seat) → IsMember w k → member (put w k s) k ≡ s.state
put_there w zero s lt = absurd (let z = lt.0 in omega (arith, z))
put_there w (suc i) s lt = ap (λ (x : Seat). x.state) (get_or-set_same w.seats i s nobody (let z = lt.1 in omega (arith, z)))

still_member : (w : ClusterState) (k : ℕ) (s : Seat) → IsMember w k → IsMember (put w k s) k
still_member w zero s lt = absurd (let z = lt.0 in omega (arith, z))
still_member w (suc i) s lt = (lt.0, let z = lt.1 in let e = length-set w.seats i s in omega (arith, z, e))

idle_of : (w : ClusterState) (k : ℕ) → 1 ≤ k → has_job w k ≡ false → is_some (member w k).job ≡ false
idle_of w zero some h = absurd (omega (arith, some))
idle_of w (suc i) some h = h

no_job : (j : Option Job) → is_some j ≡ false → j ≡ None
no_job None h = refl
no_job (Some j) h = absurd (cc h)

free_of : (w : ClusterState) (k : ℕ) → 1 ≤ k → is_up w k ≡ true → has_job w k ≡ false → IsFree w k
free_of w zero some up idle = absurd (omega (arith, some))
free_of w (suc i) some up idle = (member_of_up w (suc i) some up, no_job (member w (suc i)).job idle)

-- a member takes a message
pub taken_commits : (o now number k : ℕ) (w : ClusterState) (s : Sent) → IsSound o w → 1 ≤ k → is_up w k ≡ true → has_job w k ≡ false → letter_in number w.mail ≡ Some s → s.to ≡ k
    → extended w.committed (ahead_of (length w.committed) (member w k)) (commit_end (taken now s.message (member w k)).state) ≡ committed_by w.committed (taken now s.message (member w k)).state
taken_commits o now number k w s so some up idle there to =
    let m = (member_of_up w k some up).0 in
    let t = taken now s.message (member w k) in
    let new : Seat = record { up = true; state = t.state } in
    let w1 : ClusterState = record w { mail = marked number w.mail } in
    let before = taken_before o now number k w s so there to m (free_of w k some up idle) in
    let goes : GoesOn w.committed (committed_by w.committed t.state) =
    subst (λ (x : MemberState). GoesOn w.committed (committed_by w.committed x)) (put_there w1 k new m) (commit_extends o k (send (put w1 k new) t.sent) before (still_member w1 k new m)) in
    let log : IsLog t.state.log = subst IsLog (sym (taken_log now s.message (member w k))) (so.sound.each_member k).is_log in
    extended_is w.committed (ahead_of (length w.committed) (member w k)) t.state log goes (λ h. taken_ahead now (length w.committed) s.message (member w k) (idle_of w k some idle))

writes_by : (promise : ℕ) (log : List Chunk) (job : Option Job) (r : MemberRole) → LineHolds promise log job r → WritesBy r job
writes_by promise log job Stopped h = tt
writes_by promise log job (Follower leader) h = tt
writes_by promise log job (Leader l) h = h.writes

-- its job is done
pub finished_commits : (o k : ℕ) (w : ClusterState) → IsSound o w → 1 ≤ k → is_up w k ≡ true
    → extended w.committed (ahead_of (length w.committed) (member w k)) (commit_end (finished (member w k)).state) ≡ committed_by w.committed (finished (member w k)).state
finished_commits o k w so some up =
    let m = member_of_up w k some up in
    let me = member w k in
    let t = finished me in
    let new : Seat = record { up = true; state = t.state } in
    let before = finished_before o k w so m.0 m.1 in
    let there = put_there w k new m.0 in
    let goes : GoesOn w.committed (committed_by w.committed t.state) =
    subst (λ (x : MemberState). GoesOn w.committed (committed_by w.committed x)) there (commit_extends o k (send (put w k new) t.sent) before (still_member w k new m.0)) in
    let log : IsLog t.state.log = subst (λ (x : MemberState). IsLog x.log) there (before.sound.each_member k).is_log in
    let writes = writes_by me.promise me.log me.job me.role ((so.sound.each_member k).line m.1) in
    extended_is w.committed (ahead_of (length w.committed) me) t.state log goes (λ h. finished_ahead (length w.committed) (end_of w.committed) me me.job writes h)
