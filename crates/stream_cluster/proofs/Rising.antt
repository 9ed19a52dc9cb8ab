-- A member comes up with what its disk may have.
use Rattle.std.proofs.Common.{◌≡◌, ◌≤◌, ◌+◌, ℕ, suc, Bool, true, List, length, slice_set, add-one, inl, inr, sym, ap, subst, ◌∙◌, arith}
use Rattle.chunk_format.specs.declared.chunk.Chunk.{Chunk}
use Rattle.chunk_format.specs.Logs.{Truthful, last_epoch}
use Rattle.epoch_coordinator.specs.Members.{MemberState}
use Rattle.epoch_coordinator.specs.MemberSteps.{restarted}
use Rattle.epoch_coordinator.specs.Coordinators.{CoordinatorState}
use Rattle.replication_laws.specs.Cluster.{ClusterState, Seat, member, MayPromise}
use Rattle.replication_laws.specs.Soundness.{JobHolds}
use Rattle.replication_laws.proofs.Consequences.{bounded}
use Rattle.replication_laws.proofs.Properties.{with_sound, all_have}
use Rattle.replication_laws.proofs.Snapshots.{truthful_property}
use Rattle.cluster_core.specs.declared.mail.Numbered.{Numbered}
use Rattle.cluster_core.specs.States.{ReplicaState, IsStream, seat_of, state_of, reigned, counted_on}
use Rattle.stream_cluster.specs.Restarts.{MayHave, after_restart}
use Rattle.stream_cluster.specs.Opens.{IsSoundLog}

promised_by : (w : ClusterState) (k promise : ℕ) (log : List Chunk) → IsStream w → last_epoch log ≤ (member w k).promise → MayPromise (member w k) promise → last_epoch log ≤ promise
promised_by w k promise log h low (inl e) = omega (arith, low, e)
promised_by w k promise log h low (inr e) =
    let m = member w k in
    let j = subst (JobHolds h.sound.tree (reigned h.reigns w) k m.promise m.log) e (h.sound.sound.each_member k).job in
    let above = j.0 in
    omega (arith, low, above)

-- what its disk may have is a log within its promise, with truthful snapshots
pub rises : (w : ClusterState) (k promise : ℕ) (found chunks : List Chunk) → IsStream w → MayHave (member w k) promise found → chunks ≡ found → IsSoundLog chunks promise
rises w k promise found chunks h may e =
    let s = with_sound Truthful h.opened (reigned h.reigns w) h.sound in
    let b = (bounded h.opened (reigned h.reigns w) s).holdings k found may.log_is in
    let whole : IsSoundLog found promise = record {
      is_log = b.0;
      truthful = (all_have Truthful h.opened (reigned h.reigns w) truthful_property h.sound).held k found may.log_is;
      promised = promised_by w k promise found h b.1 may.promise_is;
    } in
    subst (λ (l : List Chunk). IsSoundLog l promise) (sym e) whole

abbrev risen : List Seat → Bool → CoordinatorState → List Numbered → ℕ → List Chunk → List ℕ → ℕ → MemberState → ReplicaState
risen seats up c mail last committed numbers place m = state_of (slice_set seats place (seat_of true m)) up c mail last committed numbers

pub risen_there : (seats : List Seat) (up : Bool) (c : CoordinatorState) (mail : List Numbered) (last : ℕ) (committed : List Chunk) (numbers numbers' : List ℕ) (place promise members : ℕ) (chunks found : List Chunk) (m : MemberState) (r : ReplicaState)
    → state_of seats up c mail last committed numbers ≡ r → m ≡ restarted members (place + 1) promise chunks → members ≡ length seats → chunks ≡ found → numbers' ≡ counted_on (place + 1) numbers
    → state_of (slice_set seats place (seat_of true m)) up c mail last committed numbers' ≡ after_restart (suc place) promise found r
risen_there seats up c mail last committed numbers numbers' place promise members chunks found m r view m_is members_are chunks_are numbers_are =
    let m_so : m ≡ restarted (length seats) (suc place) promise found =
    m_is ∙ ap (λ (n : ℕ). restarted n (place + 1) promise chunks) members_are ∙ ap (λ (n : ℕ). restarted (length seats) n promise chunks) (add-one place) ∙ ap (restarted (length seats) (suc place) promise) chunks_are in
    ap (risen seats up c mail last committed numbers' place) m_so
    ∙ ap (λ (n : List ℕ). risen seats up c mail last committed n place (restarted (length seats) (suc place) promise found)) (numbers_are ∙ ap (λ (k : ℕ). counted_on k numbers) (add-one place))
    ∙ ap (after_restart (suc place) promise found) view
