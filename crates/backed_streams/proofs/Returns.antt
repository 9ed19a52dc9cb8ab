-- A member comes up again with what recovery gave, or the coordinator.
use Rattle.std.proofs.Common.{◌≡◌, inl, inr, ℕ, ◌<◌, Bool, true, false, cond, ◌||◌, ◌==◌, List, length, Option, Some, None, refl, sym, arith}
use Rattle.disk_calls.specs.declared.file_id.FileId.{FileId}
use Rattle.disk_calls.specs.Disk.{DiskState}
use Rattle.chunk_format.specs.declared.chunk.Chunk.{Chunk}
use Rattle.gated_words.specs.Backing.{KeepsPairs}
use Rattle.epoch_coordinator.specs.MemberSteps.{restarted}
use Rattle.epoch_coordinator.specs.Coordinators.{CoordinatorState, opened_with}
use Rattle.replication_laws.specs.Cluster.{ClusterState, seat, member, IsMember, Holds, MayPromise}
use Rattle.replication_laws.specs.Events.{MayBegin, comes_up, reopens, ClusterStep, Restart}
use Rattle.cluster_core.specs.declared.outcome.Outcome.{Outcome}
use Rattle.cluster_core.specs.declared.outcome.Outcome.TheVariants.{Did, Nothing, Differs}
use Rattle.cluster_core.specs.States.{ReplicaState, Gives, begins_by, may_begin, reopen_due}
use Rattle.cluster_core.specs.Kept.{after_reopen}
use Rattle.segment_store.specs.Words.{epochs_file, EachWord}
use Rattle.segment_store.specs.Stores.{StoreInHand, EachHolds, KeepsStore}
use Rattle.backed_streams.specs.Backing.{IsInHand, Backed, AllInHand, OthersStay}
use Rattle.backed_streams.proofs.OneDisk.{words_keep, member_keeps, recovered_may, restarted_backed, epoch_is, epoch_found}
use Rattle.backed_streams.proofs.Disks.{states, backed_put, backed_first, backed_at, in_hand_put}
use Rattle.backed_streams.proofs.Happening.{by_gives}

-- ---- a member

pub recovery_left : {D : Type 0} (state : D → DiskState) (stream k : ℕ) (w : ClusterState) (old new : ℕ → D) → 0 < k → OthersStay k old new → KeepsStore stream (state (old k)) (state (new k)) → Backed stream w (states state old) → Backed stream w (states state new)
recovery_left state stream k w old new some stay keeps b = backed_at state stream k w old new stay (λ there. member_keeps stream (member w k) (state (old k)) (state (new k)) keeps (b.members k there.0 there.1)) (λ e. absurd (omega (arith, e, some))) b

pub recovery_may : {D : Type 0} (state : D → DiskState) (stream k promise : ℕ) (chunks : List Chunk) (w : ClusterState) (old : ℕ → D) (t : DiskState) → ((f : FileId) → t.images f (t.seen f)) → IsMember w k → KeepsStore stream (state (old k)) t → EachHolds stream chunks promise t
    → Backed stream w (states state old) → Holds (member w k) chunks × MayPromise (member w k) promise
recovery_may state stream k promise chunks w old t reads there keeps only b = recovered_may stream promise chunks (member w k) (state (old k)) t reads keeps only (b.members k there.0 there.1)

pub recovery_step : {D : Type 0} (state : D → DiskState) (now stream k promise : ℕ) (chunks : List Chunk) (w : ClusterState) (old : ℕ → D) (t : DiskState) → ((f : FileId) → t.images f (t.seen f)) → IsMember w k → (seat w k).up ≡ false → KeepsStore stream (state (old k)) t → EachHolds stream chunks promise t
    → Backed stream w (states state old) → ClusterStep now w (comes_up k promise chunks w)
recovery_step state now stream k promise chunks w old t reads there down keeps only b =
    let may = recovery_may state stream k promise chunks w old t reads there keeps only b in
    Restart k promise chunks there down may.0 may.1 refl

pub returned_backed : {D : Type 0} (state : D → DiskState) (stream k promise : ℕ) (chunks : List Chunk) (w : ClusterState) (old new : ℕ → D) → 0 < k → OthersStay k old new → EachHolds stream chunks promise (state (new k)) → Backed stream w (states state old) → Backed stream (comes_up k promise chunks w) (states state new)
returned_backed state stream k promise chunks w old new some stay only b =
    let m = restarted (length w.seats) k promise chunks in
    backed_put state stream k w (record { up = true; state = m }) old new some stay (λ there. restarted_backed stream (length w.seats) k promise chunks (state (new k)) only) b

pub returned_in_hand : {D : Type 0} (state : D → DiskState) (stream k promise : ℕ) (chunks : List Chunk) (w : ClusterState) (stores now : ℕ → StoreInHand) (old new : ℕ → D) → OthersStay k stores now → OthersStay k old new
    → IsInHand stream (restarted (length w.seats) k promise chunks) (now k) (state (new k)) → AllInHand stream w stores (states state old) → AllInHand stream (comes_up k promise chunks w) now (states state new)
returned_in_hand state stream k promise chunks w stores now old new same stay hand all =
    in_hand_put state stream k w (record { up = true; state = restarted (length w.seats) k promise chunks }) stores now old new stay same (λ there up. hand) (λ j ne. all j)

-- ---- the coordinator

pub reopening_left : {D : Type 0} (state : D → DiskState) (stream : ℕ) (w : ClusterState) (old new : ℕ → D) → OthersStay 0 old new → KeepsPairs epochs_file (state (old 0)) (state (new 0)) → Backed stream w (states state old) → Backed stream w (states state new)
reopening_left state stream w old new stay keeps b = backed_first state stream w w.coordinator old new stay (words_keep epochs_file stream (MayBegin w.coordinator) (state (old 0)) (state (new 0)) keeps b.epoch) b

pub reopening_may : {D : Type 0} (state : D → DiskState) (stream epoch : ℕ) (w : ClusterState) (old : ℕ → D) (t : DiskState) → ((f : FileId) → t.images f (t.seen f)) → KeepsPairs epochs_file (state (old 0)) t → EachWord epochs_file stream (λ word. word ≡ epoch) t → Backed stream w (states state old) → MayBegin w.coordinator epoch
reopening_may state stream epoch w old t reads keeps only b = epoch_found stream epoch w.coordinator (state (old 0)) t reads keeps only b.epoch

eq_made : (a b : ℕ) → a ≡ b → (a == b) ≡ true
eq_made a b h = grind arith

or_first : (a b : Bool) → a ≡ true → (a || b) ≡ true
or_first true b h = refl
or_first false b h = absurd (cc h)

or_second : (a b : Bool) → b ≡ true → (a || b) ≡ true
or_second true b h = refl
or_second false b h = h

begins_job : (job : Option ℕ) (epoch : ℕ) → job ≡ Some epoch → begins_by job epoch ≡ true
begins_job None epoch is = absurd (cc is)
begins_job (Some next) epoch is = eq_made next epoch (cc is)

may_is : (c : CoordinatorState) (epoch : ℕ) → MayBegin c epoch → may_begin c epoch ≡ true
may_is c epoch (inl is) = or_first (c.epoch == epoch) (begins_by c.job epoch) (eq_made c.epoch epoch (sym is))
may_is c epoch (inr is) = or_second (c.epoch == epoch) (begins_by c.job epoch) (begins_job c.job epoch is)

due_by : (up may : Bool) (a b : ℕ) → up ≡ false → may ≡ true → cond {A = Outcome} up Nothing (cond {A = Outcome} may Did (Differs a b)) ≡ Did
due_by true may a b down is = absurd (cc down)
due_by false true a b down is = refl
due_by false false a b down is = absurd (cc is)

pub reopening_due : (w : ClusterState) (epoch : ℕ) → w.coordinator_up ≡ false → MayBegin w.coordinator epoch → reopen_due epoch w ≡ Did
reopening_due w epoch down may = due_by w.coordinator_up (may_begin w.coordinator epoch) w.coordinator.epoch epoch down (may_is w.coordinator epoch may)

pub reopening_backed : {D : Type 0} (state : D → DiskState) (stream epoch : ℕ) (w : ClusterState) (old new : ℕ → D) → OthersStay 0 old new → EachWord epochs_file stream (λ word. word ≡ epoch) (state (new 0)) → Backed stream w (states state old) → Backed stream (reopens epoch w) (states state new)
reopening_backed state stream epoch w old new stay only b =
    let c = opened_with w.coordinator.members epoch in
    let r = backed_first state stream w c old new stay (epoch_is stream epoch c (state (new 0)) refl only) b in
    record { members = r.members; epoch = r.epoch }

pub reopening_then : {D : Type 0} (state : D → DiskState) (stream epoch : ℕ) (due came : Outcome) (r r' : ReplicaState) (old new : ℕ → D) → OthersStay 0 old new → KeepsPairs epochs_file (state (old 0)) (state (new 0)) → EachWord epochs_file stream (λ word. word ≡ epoch) (state (new 0))
    → Gives due came r r' (after_reopen epoch r) → Backed stream r.cluster (states state old) → Backed stream r'.cluster (states state new)
reopening_then state stream epoch due came r r' old new stay keeps only then b =
    by_gives (λ (y : ReplicaState). Backed stream y.cluster (states state new)) due came r r' (after_reopen epoch r) then (reopening_left state stream r.cluster old new stay keeps b) (λ _. reopening_backed state stream epoch r.cluster old new stay only b)
