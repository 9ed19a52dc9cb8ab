-- A stream is opened over what disks have.
use Rattle.std.proofs.Common.{◌≡◌, ℕ, zero, suc, ◌+◌, ◌<◌, ◌≤◌, List, length, refl, sym, ap, subst, arith}
use Rattle.disk_calls.specs.declared.file_id.FileId.{FileId}
use Rattle.disk_calls.specs.Disk.{DiskState}
use Rattle.gated_words.specs.Backing.{KeepsPairs}
use Rattle.epoch_coordinator.specs.Members.{MemberState}
use Rattle.epoch_coordinator.specs.MemberSteps.{restarted}
use Rattle.epoch_coordinator.specs.Coordinators.{opened_with}
use Rattle.replication_laws.specs.Cluster.{Seat, ClusterState, member, Holds, MayPromise}
use Rattle.replication_laws.specs.Openings.{Start, no_start, start_at, opened_cluster, start_seats, IsRecovered}
use Rattle.replication_laws.proofs.Starts.{start_count, start_there}
use Rattle.segment_store.specs.Recoverable.{NoFiles}
use Rattle.segment_store.specs.Words.{epochs_file, EachWord}
use Rattle.segment_store.specs.Stores.{StoreInHand, EachHolds, KeepsStore}
use Rattle.backed_streams.specs.Backing.{BackedMember, IsInHand, Backed, AllInHand}
use Rattle.backed_streams.proofs.OneDisk.{none_holds, restarted_backed, recovered_may, epoch_is, epoch_found}

-- the member of a start comes up with it
abbrev started : List Start → ℕ → MemberState
started starts i = restarted (length starts) (1 + i) (start_at starts i).promise (start_at starts i).log

member_there : (epoch : ℕ) (starts : List Start) (i : ℕ) → i < length starts → member (opened_cluster epoch starts) (suc i) ≡ started starts i
member_there epoch starts i lt = ap (λ (s : Seat). s.state) (start_there epoch starts i lt)

-- the images of each disk have the start of its member
abbrev pub EachStart : ℕ → List Start → (ℕ → DiskState) → Type 0
EachStart stream starts disks = (i : ℕ) → i < length starts → EachHolds stream (start_at starts i).log (start_at starts i).promise (disks (i + 1))

at_suc : (i : ℕ) → i + 1 ≡ suc i
at_suc i = omega arith

pub opened_backed : (stream epoch : ℕ) (starts : List Start) (disks : ℕ → DiskState) → EachStart stream starts disks → EachWord epochs_file stream (λ word. word ≡ epoch) (disks 0) → Backed stream (opened_cluster epoch starts) disks
opened_backed stream epoch starts disks each only = record { members = at; epoch = epoch_is stream epoch (opened_with (length starts) epoch) (disks 0) refl only }
  where
    at : (k : ℕ) → 0 < k → k ≤ length (start_seats (length starts) 1 starts) → BackedMember stream (member (opened_cluster epoch starts) k) (disks k)
    at zero low high = absurd (omega (arith, low))
    at (suc i) low high =
        let lt : i < length starts = (let c = start_count (length starts) 1 starts in omega (arith, c, high)) in
        let only_here : EachHolds stream (start_at starts i).log (start_at starts i).promise (disks (suc i)) = subst (λ (k : ℕ). EachHolds stream (start_at starts i).log (start_at starts i).promise (disks k)) (at_suc i) (each i lt) in
        subst (λ (m : MemberState). BackedMember stream m (disks (suc i))) (sym (member_there epoch starts i lt)) (restarted_backed stream (length starts) (1 + i) (start_at starts i).promise (start_at starts i).log (disks (suc i)) only_here)

pub opened_in_hand : (stream epoch : ℕ) (starts : List Start) (stores : ℕ → StoreInHand) (disks : ℕ → DiskState) → ((i : ℕ) → i < length starts → IsInHand stream (restarted (length starts) (i + 1) (start_at starts i).promise (start_at starts i).log) (stores (i + 1)) (disks (i + 1)))
    → AllInHand stream (opened_cluster epoch starts) stores disks
opened_in_hand stream epoch starts stores disks each zero there up = absurd (omega (arith, there.0))
opened_in_hand stream epoch starts stores disks each (suc i) there up =
    let lt : i < length starts = (let c = start_count (length starts) 1 starts in let high = there.1 in omega (arith, c, high)) in
    let here : IsInHand stream (restarted (length starts) (suc i) (start_at starts i).promise (start_at starts i).log) (stores (suc i)) (disks (suc i)) =
    subst (λ (k : ℕ). IsInHand stream (restarted (length starts) k (start_at starts i).promise (start_at starts i).log) (stores k) (disks k)) (at_suc i) (each i lt) in
    let same : suc i ≡ 1 + i = omega arith in
    subst (λ (m : MemberState). IsInHand stream m (stores (suc i)) (disks (suc i))) (sym (member_there epoch starts i lt))
    (subst (λ (k : ℕ). IsInHand stream (restarted (length starts) k (start_at starts i).promise (start_at starts i).log) (stores (suc i)) (disks (suc i))) same here)

-- disks without files
pub new_backed : (stream : ℕ) (starts : List Start) (disks : ℕ → DiskState) → ((i : ℕ) → start_at starts i ≡ no_start) → ((k : ℕ) → 0 < k → k ≤ length starts → NoFiles stream (disks k)) → EachWord epochs_file stream (λ word. word ≡ 0) (disks 0) → Backed stream (opened_cluster 0 starts) disks
new_backed stream starts disks none empty first =
    opened_backed stream 0 starts disks
    (λ i lt. subst (λ (s : Start). EachHolds stream s.log s.promise (disks (i + 1))) (sym (none i)) (none_holds stream (disks (i + 1)) (empty (i + 1) (omega arith) (omega (arith, lt))))) first

-- what was recovered of a stream's disks
pub recovered_starts : (stream epoch : ℕ) (w : ClusterState) (starts : List Start) (old new : ℕ → DiskState) → ((k : ℕ) (f : FileId) → (new k).images f ((new k).seen f)) → length starts ≡ length w.seats → ((k : ℕ) → KeepsStore stream (old k) (new k)) → KeepsPairs epochs_file (old 0) (new 0)
    → EachStart stream starts new → EachWord epochs_file stream (λ word. word ≡ epoch) (new 0) → Backed stream w old → IsRecovered w starts epoch
recovered_starts stream epoch w starts old new reads count keeps pairs each only b = record {
  count = count;
  begins = epoch_found stream epoch w.coordinator (old 0) (new 0) (reads 0) pairs only b.epoch;
  held = λ i lt. (may i lt).0;
  promises = λ i lt. (may i lt).1;
}
  where
    may : (i : ℕ) → i < length starts → Holds (member w (i + 1)) (start_at starts i).log × MayPromise (member w (i + 1)) (start_at starts i).promise
    may i lt = recovered_may stream (start_at starts i).promise (start_at starts i).log (member w (i + 1)) (old (i + 1)) (new (i + 1)) (reads (i + 1)) (keeps (i + 1)) (each i lt) (b.members (i + 1) (omega arith) (omega (arith, lt, count)))
