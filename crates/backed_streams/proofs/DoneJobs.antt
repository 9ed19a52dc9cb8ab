-- A job of a stream is done on a disk, and then comes to the stream, or who did it stops.
use Rattle.std.proofs.Common.{◌≡◌, ◌≢◌, inl, inr, ℕ, zero, suc, ◌<◌, ◌==◌, ◌&&◌, Bool, true, false, cond, nat_lt, [], length, is_some, Option, Some, None, Result, Ok, Err, refl, sym, ap, subst, ◌∙◌, arith}
use Rattle.std.proofs.lemmas.Bool.{cases_eq}
use Rattle.disk_calls.specs.Disk.{DiskState, LeftByCrash}
use Rattle.disk_calls.specs.Frames.{OtherStreams}
use Rattle.gated_words.specs.InHand.{InHand}
use Rattle.chunk_format.specs.Logs.{IsLog}
use Rattle.epoch_coordinator.specs.declared.message.Job.{Job}
use Rattle.epoch_coordinator.specs.Members.{MemberState}
use Rattle.epoch_coordinator.specs.MemberSteps.{finished}
use Rattle.epoch_coordinator.specs.Coordinators.{begun}
use Rattle.replication_laws.specs.Cluster.{ClusterState, seat, member, IsMember, Holds, MayPromise}
use Rattle.replication_laws.specs.Events.{MayBegin, begins, performed}
use Rattle.replication_laws.specs.Soundness.{MemberHolds}
use Rattle.replication_laws.proofs.Carry.{holds_log}
use Rattle.cluster_core.specs.declared.outcome.Outcome.{Outcome}
use Rattle.cluster_core.specs.declared.outcome.Outcome.TheVariants.{Did, Nothing}
use Rattle.cluster_core.specs.States.{ReplicaState, IsStream, Gives, reigned, number_at, done_due}
use Rattle.cluster_core.specs.Up.{is_up, has_job}
use Rattle.cluster_core.specs.Kept.{after_done, after_stop}
use Rattle.segment_store.specs.declared.fault.StoreFault.{StoreFault}
use Rattle.segment_store.specs.Receipts.{JobDone}
use Rattle.segment_store.specs.Words.{epochs_file}
use Rattle.segment_store.specs.Stores.{StoreInHand, Continues, ContinuesLog, promise_file}
use Rattle.segment_store.proofs.Lasting.{ImagesOf, continues_store, keeps_streams, backed_streams, crash_images}
use Rattle.backed_streams.specs.Backing.{BackedMember, IsInHand, Backed, AllInHand, OthersStay}
use Rattle.backed_streams.specs.Doing.{EpochTold, MemberDoes, CoordinatorDoes, DoneOrStop}
use Rattle.backed_streams.proofs.OneDisk.{member_keeps, words_images}
use Rattle.backed_streams.proofs.Doings.{job_left, job_in_hand, job_done, pending_continues, epoch_job_left, epoch_job_done, epoch_job_apart}
use Rattle.backed_streams.proofs.Disks.{states, backed_put, backed_first, backed_at, in_hand_put, in_hand_first}
use Rattle.backed_streams.proofs.Happening.{by_gives, down_backed, down_in_hand}

-- ---- what a sound stream says of its jobs

abbrev holds_at : (w : ClusterState) (k : ℕ) (x : IsStream w) → MemberHolds x.sound.tree (reigned x.reigns w) k (seat w k)
holds_at w k x = x.sound.sound.each_member k

pub job_continues : (w : ClusterState) (k : ℕ) (job : Job) → IsStream w → (member w k).job ≡ Some job → ContinuesLog (member w k).log job
job_continues w k job x is = pending_continues x.sound.tree (reigned x.reigns w) k (seat w k) job (holds_at w k x) is

log_whole : (w : ClusterState) (k : ℕ) → IsStream w → IsLog (member w k).log
log_whole w k x = (holds_at w k x).is_log

pub own_log : (w : ClusterState) (k : ℕ) → IsStream w → Holds (member w k) (member w k).log
own_log w k x = holds_log x.sound.tree (reigned x.reigns w) k (seat w k) (holds_at w k x)

pub store_continues : (stream k : ℕ) (w : ClusterState) (job : Job) (store : StoreInHand) (s : DiskState) → IsStream w → (member w k).job ≡ Some job → IsInHand stream (member w k) store s → Continues store job
store_continues stream k w job store s x is h = continues_store store (member w k).log s job h.backed (job_continues w k job x is)

-- ---- a member's job

abbrev Does : {D : Type 0} (state : D → DiskState) (stream k : ℕ) (w : ClusterState) (job : Job) (number : ℕ) (result : Result JobDone StoreFault) (stores now : ℕ → StoreInHand) (old new : ℕ → D) → Type 0
Does {D} state stream k w job number result stores now old new = MemberDoes D state stream k w job number result stores now old new

pub member_left : {D : Type 0} (state : D → DiskState) (stream k : ℕ) (w : ClusterState) (job : Job) (number : ℕ) (result : Result JobDone StoreFault) (stores now : ℕ → StoreInHand) (old new : ℕ → D) → IsStream w → Does state stream k w job number result stores now old new → Backed stream w (states state old) → Backed stream w (states state new)
member_left state stream k w job number result stores now old new x does b =
    backed_at state stream k w old new does.disks_stay (λ there. job_left stream (member w k) job number (stores k) (now k) result (state (old k)) (state (new k)) (log_whole w k x) (job_continues w k job x does.is_job) does.is_job does.in_hand does.told)
    (λ e. let some = does.is_member.0 in absurd (omega (arith, e, some))) b

performed_backed : {D : Type 0} (state : D → DiskState) (stream k : ℕ) (w : ClusterState) (job : Job) (number : ℕ) (receipt : JobDone) (stores now : ℕ → StoreInHand) (old new : ℕ → D) → IsStream w → Does state stream k w job number (Ok receipt) stores now old new → Backed stream w (states state old) → Backed stream (reigned [] (performed k w)) (states state new)
performed_backed state stream zero w job number receipt stores now old new x does b = let some = does.is_member.0 in absurd (omega (arith, some))
performed_backed state stream (suc i) w job number receipt stores now old new x does b =
    let m = member w (suc i) in
    backed_put state stream (suc i) w (record { up = true; state = (finished m).state }) old new (omega arith) does.disks_stay
    (λ there. job_done stream m job number (stores (suc i)) (now (suc i)) receipt (state (old (suc i))) (state (new (suc i))) (job_continues w (suc i) job x does.is_job) does.is_job does.in_hand does.told) b

performed_in_hand : {D : Type 0} (state : D → DiskState) (stream k : ℕ) (w : ClusterState) (job : Job) (number : ℕ) (receipt : JobDone) (stores now : ℕ → StoreInHand) (old new : ℕ → D) → IsStream w → Does state stream k w job number (Ok receipt) stores now old new → AllInHand stream w stores (states state old) → AllInHand stream (reigned [] (performed k w)) now (states state new)
performed_in_hand state stream zero w job number receipt stores now old new x does all = let some = does.is_member.0 in absurd (omega (arith, some))
performed_in_hand state stream (suc i) w job number receipt stores now old new x does all =
    let m = member w (suc i) in
    in_hand_put state stream (suc i) w (record { up = true; state = (finished m).state }) stores now old new does.disks_stay does.stores_stay
    (λ there up. job_in_hand stream m job number (stores (suc i)) (now (suc i)) receipt (state (old (suc i))) (state (new (suc i))) (job_continues w (suc i) job x does.is_job) does.is_job does.in_hand does.told) (λ j ne. all j)

-- the receipt is of this member
receipt_member : {D : Type 0} (state : D → DiskState) (stream k : ℕ) (w : ClusterState) (job : Job) (number : ℕ) (receipt : JobDone) (stores now : ℕ → StoreInHand) (old new : ℕ → D) → IsStream w → Does state stream k w job number (Ok receipt) stores now old new → receipt.member ≡ k
receipt_member state stream k w job number receipt stores now old new x does = does.told.receipt.1 ∙ (does.in_hand.member_is ∙ (x.sound.sound.named k does.is_member).0)

-- what came of it, said of who did it
done_of : (k l : ℕ) (due came : Outcome) (r r' : ReplicaState) → l ≡ k → Gives due came r r' (after_done l r) → Gives due came r r' (after_done k r)
done_of k l due came r r' is g = subst (λ (n : ℕ). Gives due came r r' (after_done n r)) is g

pub member_then : {D : Type 0} (state : D → DiskState) (stream k : ℕ) (due came : Outcome) (r r' : ReplicaState) (job : Job) (number : ℕ) (result : Result JobDone StoreFault) (stores now : ℕ → StoreInHand) (old new : ℕ → D) → IsStream r.cluster → Does state stream k r.cluster job number result stores now old new
    → DoneOrStop result k due came r r' → Backed stream r.cluster (states state old) → Backed stream r'.cluster (states state new)
member_then state stream k due came r r' job number (Ok receipt) stores now old new x does then b =
    by_gives (λ (y : ReplicaState). Backed stream y.cluster (states state new)) due came r r' (after_done k r) (done_of k receipt.member due came r r' (receipt_member state stream k r.cluster job number receipt stores now old new x does) then) (member_left state stream k r.cluster job number (Ok receipt) stores now old new x does b) (λ _. performed_backed state stream k r.cluster job number receipt stores now old new x does b)
member_then state stream k due came r r' job number (Err fault) stores now old new x does then b =
    let left = member_left state stream k r.cluster job number (Err fault) stores now old new x does b in
    by_gives (λ (y : ReplicaState). Backed stream y.cluster (states state new)) due came r r' (after_stop k r) then left (λ _. down_backed state stream k r.cluster new left)

-- the stores of the others, over the disks as they are now
others_now : {D : Type 0} (state : D → DiskState) (stream k : ℕ) (w : ClusterState) (stores now : ℕ → StoreInHand) (old new : ℕ → D) → OthersStay k stores now → OthersStay k old new → AllInHand stream w stores (states state old)
    → (j : ℕ) → j ≢ k → IsMember w j → (seat w j).up ≡ true → IsInHand stream (member w j) (now j) (state (new j))
others_now {D} state stream k w stores now old new same stay all j ne lt up =
    subst (λ (d : D). IsInHand stream (member w j) (now j) (state d)) (sym (stay j ne)) (subst (λ (store : StoreInHand). IsInHand stream (member w j) store (state (old j))) (sym (same j ne)) (all j lt up))

pub member_in_hand : {D : Type 0} (state : D → DiskState) (stream k : ℕ) (due : Outcome) (r r' : ReplicaState) (job : Job) (number : ℕ) (result : Result JobDone StoreFault) (stores now : ℕ → StoreInHand) (old new : ℕ → D) → IsStream r.cluster → Does state stream k r.cluster job number result stores now old new
    → DoneOrStop result k due Did r r' → AllInHand stream r.cluster stores (states state old) → AllInHand stream r'.cluster now (states state new)
member_in_hand state stream k due r r' job number (Ok receipt) stores now old new x does then all =
    let is = done_of k receipt.member due Did r r' (receipt_member state stream k r.cluster job number receipt stores now old new x does) then in
    subst (λ (y : ReplicaState). AllInHand stream y.cluster now (states state new)) (sym is.1) (performed_in_hand state stream k r.cluster job number receipt stores now old new x does all)
member_in_hand state stream k due r r' job number (Err fault) stores now old new x does then all =
    subst (λ (y : ReplicaState). AllInHand stream y.cluster now (states state new)) (sym then.1) (down_in_hand state stream k r.cluster now new (others_now state stream k r.cluster stores now old new does.stores_stay does.disks_stay all))

-- ---- the coordinator's job

abbrev DoesEpoch : {D : Type 0} (state : D → DiskState) (stream : ℕ) (w : ClusterState) (epoch number : ℕ) (result : Result JobDone StoreFault) (hand now : InHand) (old new : ℕ → D) → Type 0
DoesEpoch {D} state stream w epoch number result hand now old new = CoordinatorDoes D state stream w epoch number result hand now old new

pub epoch_left_all : {D : Type 0} (state : D → DiskState) (stream : ℕ) (w : ClusterState) (epoch number : ℕ) (result : Result JobDone StoreFault) (hand now : InHand) (old new : ℕ → D) → DoesEpoch state stream w epoch number result hand now old new → Backed stream w (states state old) → Backed stream w (states state new)
epoch_left_all state stream w epoch number result hand now old new does b =
    backed_first state stream w w.coordinator old new does.disks_stay (epoch_job_left stream epoch number w.coordinator hand now result (state (old 0)) (state (new 0)) does.id_is does.is_job does.told b.epoch) b

begun_backed : {D : Type 0} (state : D → DiskState) (stream : ℕ) (w : ClusterState) (epoch number : ℕ) (receipt : JobDone) (hand now : InHand) (old new : ℕ → D) → DoesEpoch state stream w epoch number (Ok receipt) hand now old new → Backed stream w (states state old) → Backed stream (reigned [] (performed 0 w)) (states state new)
begun_backed state stream w epoch number receipt hand now old new does b =
    subst (λ (j : Option ℕ). Backed stream (reigned [] (begins j w)) (states state new)) (sym does.is_job)
    (backed_first state stream w (begun epoch w.coordinator) old new does.disks_stay (epoch_job_done stream epoch number w.coordinator hand now receipt (state (old 0)) (state (new 0)) does.id_is does.told) b)

begins_in_hand : {D : Type 0} (state : D → DiskState) (stream : ℕ) (job : Option ℕ) (w : ClusterState) (stores : ℕ → StoreInHand) (disks : ℕ → D) → AllInHand stream w stores (states state disks) → AllInHand stream (reigned [] (begins job w)) stores (states state disks)
begins_in_hand state stream None w stores disks all = all
begins_in_hand state stream (Some epoch) w stores disks all = all

pub epoch_then : {D : Type 0} (state : D → DiskState) (stream : ℕ) (due came : Outcome) (r r' : ReplicaState) (epoch number : ℕ) (result : Result JobDone StoreFault) (hand now : InHand) (old new : ℕ → D) → DoesEpoch state stream r.cluster epoch number result hand now old new
    → DoneOrStop result 0 due came r r' → Backed stream r.cluster (states state old) → Backed stream r'.cluster (states state new)
epoch_then state stream due came r r' epoch number (Ok receipt) hand now old new does then b =
    by_gives (λ (y : ReplicaState). Backed stream y.cluster (states state new)) due came r r' (after_done 0 r) (done_of 0 receipt.member due came r r' does.told.receipt.1 then) (epoch_left_all state stream r.cluster epoch number (Ok receipt) hand now old new does b) (λ _. begun_backed state stream r.cluster epoch number receipt hand now old new does b)
epoch_then state stream due came r r' epoch number (Err fault) hand now old new does then b =
    let left = epoch_left_all state stream r.cluster epoch number (Err fault) hand now old new does b in
    by_gives (λ (y : ReplicaState). Backed stream y.cluster (states state new)) due came r r' (after_stop 0 r) then left (λ _. down_backed state stream 0 r.cluster new left)

pub epoch_in_hand : {D : Type 0} (state : D → DiskState) (stream : ℕ) (due came : Outcome) (r r' : ReplicaState) (epoch number : ℕ) (result : Result JobDone StoreFault) (hand now : InHand) (stores : ℕ → StoreInHand) (old new : ℕ → D) → DoesEpoch state stream r.cluster epoch number result hand now old new
    → DoneOrStop result 0 due came r r' → AllInHand stream r.cluster stores (states state old) → AllInHand stream r'.cluster stores (states state new)
epoch_in_hand state stream due came r r' epoch number (Ok receipt) hand now stores old new does then all =
    let there = in_hand_first state stream r.cluster stores old new does.disks_stay all in
    by_gives (λ (y : ReplicaState). AllInHand stream y.cluster stores (states state new)) due came r r' (after_done 0 r) (done_of 0 receipt.member due came r r' does.told.receipt.1 then) there (λ _. begins_in_hand state stream r.cluster.coordinator.job r.cluster stores new there)
epoch_in_hand state stream due came r r' epoch number (Err fault) hand now stores old new does then all =
    let there = in_hand_first state stream r.cluster stores old new does.disks_stay all in
    by_gives (λ (y : ReplicaState). AllInHand stream y.cluster stores (states state new)) due came r r' (after_stop 0 r) then there (λ _. there)

-- ---- a receipt is due

three_are : (a b c : Bool) → a ≡ true → b ≡ true → c ≡ true → cond {A = Outcome} (a && b && c) Did Nothing ≡ Did
three_are true true true p q s = refl
three_are true true false p q s = absurd (cc s)
three_are true false c p q s = absurd (cc q)
three_are false b c p q s = absurd (cc p)

eq_made : (a b : ℕ) → a ≡ b → (a == b) ≡ true
eq_made a b h = grind arith

lt_made : (a b : ℕ) → a < b → nat_lt a b ≡ true
lt_made a b h = grind arith

both_made : (a b : Bool) → a ≡ true → b ≡ true → (a && b) ≡ true
both_made true b p q = q
both_made false b p q = absurd (cc p)

up_made : (w : ClusterState) (k : ℕ) → IsMember w k → (seat w k).up ≡ true → is_up w k ≡ true
up_made w zero there up = absurd (omega (arith, there.0))
up_made w (suc i) there up = both_made (nat_lt i (length w.seats)) (seat w (suc i)).up (lt_made i (length w.seats) (omega (arith, there.1))) up

job_made : (w : ClusterState) (k : ℕ) (job : Job) → IsMember w k → (member w k).job ≡ Some job → has_job w k ≡ true
job_made w zero job there is = absurd (omega (arith, there.0))
job_made w (suc i) job there is = ap (λ (j : Option Job). is_some j) is

due_of : (k l number n : ℕ) (r : ReplicaState) → l ≡ k → n ≡ number → is_up r.cluster k ≡ true → has_job r.cluster k ≡ true → number ≡ number_at r k → done_due l n r ≡ Did
due_of k l number n r is same up job at =
    subst (λ (j : ℕ). done_due j n r ≡ Did) (sym is) (three_are (is_up r.cluster k) (has_job r.cluster k) (number_at r k == n) up job (eq_made (number_at r k) n (sym at ∙ sym same)))

pub member_due : {D : Type 0} (state : D → DiskState) (stream k : ℕ) (r : ReplicaState) (job : Job) (number : ℕ) (receipt : JobDone) (stores now : ℕ → StoreInHand) (old new : ℕ → D) → IsStream r.cluster → Does state stream k r.cluster job number (Ok receipt) stores now old new
    → (seat r.cluster k).up ≡ true → number ≡ number_at r k → (receipt.stream ≡ stream) × (done_due receipt.member receipt.number r ≡ Did)
member_due state stream k r job number receipt stores now old new x does up at = (
  does.told.receipt.0 ∙ does.in_hand.stream_is,
  due_of k receipt.member number receipt.number r (receipt_member state stream k r.cluster job number receipt stores now old new x does) does.told.receipt.2 (up_made r.cluster k does.is_member up) (job_made r.cluster k job does.is_member does.is_job) at,
)

pub epoch_due : {D : Type 0} (state : D → DiskState) (stream : ℕ) (r : ReplicaState) (epoch number : ℕ) (receipt : JobDone) (hand now : InHand) (old new : ℕ → D) → DoesEpoch state stream r.cluster epoch number (Ok receipt) hand now old new
    → r.cluster.coordinator_up ≡ true → number ≡ number_at r 0 → (receipt.stream ≡ stream) × (done_due receipt.member receipt.number r ≡ Did)
epoch_due state stream r epoch number receipt hand now old new does up at = (
  does.told.receipt.0,
  due_of 0 receipt.member number receipt.number r does.told.receipt.1 does.told.receipt.2 up (ap (λ (j : Option ℕ). is_some j) does.is_job) at,
)

-- ---- jobs of other streams

pub member_apart : {D : Type 0} (state : D → DiskState) (stream of k : ℕ) (w : ClusterState) (old new : ℕ → D) → ((d : D) (f : _) → (state d).images f ((state d).seen f)) → 0 < k → stream ≢ of → OthersStay k old new → OtherStreams of (state (old k)) (state (new k)) → Backed stream w (states state old) → Backed stream w (states state new)
member_apart state stream of k w old new reads some ne stay others b =
    backed_at state stream k w old new stay (λ there. member_keeps stream (member w k) (state (old k)) (state (new k)) (keeps_streams stream of (state (old k)) (state (new k)) (reads (old k)) ne others) (b.members k there.0 there.1)) (λ e. absurd (omega (arith, e, some))) b

pub hands_apart : {D : Type 0} (state : D → DiskState) (stream of k : ℕ) (w : ClusterState) (stores : ℕ → StoreInHand) (old new : ℕ → D) → stream ≢ of → OthersStay k old new → OtherStreams of (state (old k)) (state (new k)) → AllInHand stream w stores (states state old) → AllInHand stream w stores (states state new)
hands_apart {D} state stream of k w stores old new ne stay others all j lt up = elim (cases_eq j k) [
  | inl eq ↦ subst (λ (i : ℕ). IsInHand stream (member w i) (stores i) (state (new i))) (sym eq) (here (subst (λ (i : ℕ). IsInHand stream (member w i) (stores i) (state (old i))) eq (all j lt up)))
  | inr apart ↦ subst (λ (d : D). IsInHand stream (member w j) (stores j) (state d)) (sym (stay j apart)) (all j lt up)
]
  where
    here : IsInHand stream (member w k) (stores k) (state (old k)) → IsInHand stream (member w k) (stores k) (state (new k))
    here h = record {
      stream_is = h.stream_is;
      member_is = h.member_is;
      backed = backed_streams (stores k) (member w k).log of (state (old k)) (state (new k)) (λ e. ne (sym h.stream_is ∙ e)) others h.backed;
      promised = h.promised;
    }

pub epoch_apart_all : {D : Type 0} (state : D → DiskState) (stream other epoch number : ℕ) (w : ClusterState) (result : Result JobDone StoreFault) (hand now : InHand) (old new : ℕ → D) → hand.id ≡ epochs_file → stream ≢ other → EpochTold stream epoch number hand now result (state (old 0)) (state (new 0)) → OthersStay 0 old new
    → Backed other w (states state old) → Backed other w (states state new)
epoch_apart_all state stream other epoch number w result hand now old new id ne told stay b =
    backed_first state other w w.coordinator old new stay (epoch_job_apart stream other epoch number w.coordinator hand now result (state (old 0)) (state (new 0)) id ne told b.epoch) b

-- ---- crashes

images_member : (stream : ℕ) (m : MemberState) (s t : DiskState) → ImagesOf s t → BackedMember stream m s → BackedMember stream m t
images_member stream m s t back b = record { log = λ F pick picks. b.log F pick (λ f. back f (pick f) (picks f)); promise = words_images (promise_file stream) stream (MayPromise m) s t back b.promise }

pub images_backed : (stream : ℕ) (w : ClusterState) (old new : ℕ → DiskState) → ((k : ℕ) → ImagesOf (old k) (new k)) → Backed stream w old → Backed stream w new
images_backed stream w old new back b = record {
  members = λ k low high. images_member stream (member w k) (old k) (new k) (back k) (b.members k low high);
  epoch = words_images epochs_file stream (MayBegin w.coordinator) (old 0) (new 0) (back 0) b.epoch;
}

-- one disk's images only go
pub images_at : {D : Type 0} (state : D → DiskState) (stream k : ℕ) (w : ClusterState) (old new : ℕ → D) → OthersStay k old new → ImagesOf (state (old k)) (state (new k)) → Backed stream w (states state old) → Backed stream w (states state new)
images_at {D} state stream k w old new stay back b = images_backed stream w (states state old) (states state new) each b
  where
    each : (j : ℕ) → ImagesOf (state (old j)) (state (new j))
    each j = elim (cases_eq j k) [
      | inl eq ↦ subst (λ (i : ℕ). ImagesOf (state (old i)) (state (new i))) (sym eq) back
      | inr ne ↦ subst (λ (d : D). ImagesOf (state (old j)) (state d)) (sym (stay j ne)) (λ f c left. left)
    ]

pub crash_backed : {D : Type 0} (state : D → DiskState) (stream of k : ℕ) (w : ClusterState) (old new : ℕ → D) → OthersStay k old new → LeftByCrash of (state (old k)) (state (new k)) → Backed stream w (states state old) → Backed stream w (states state new)
crash_backed state stream of k w old new stay crash b = images_at state stream k w old new stay (crash_images of (state (old k)) (state (new k)) crash) b

pub crash_stops : {D : Type 0} (state : D → DiskState) (stream of k : ℕ) (due came : Outcome) (r r' : ReplicaState) (old new : ℕ → D) → OthersStay k old new → LeftByCrash of (state (old k)) (state (new k)) → Gives due came r r' (after_stop k r) → Backed stream r.cluster (states state old) → Backed stream r'.cluster (states state new)
crash_stops state stream of k due came r r' old new stay crash then b =
    let left = crash_backed state stream of k r.cluster old new stay crash b in
    by_gives (λ (y : ReplicaState). Backed stream y.cluster (states state new)) due came r r' (after_stop k r) then left (λ _. down_backed state stream k r.cluster new left)

pub stops_in_hand : {D : Type 0} (state : D → DiskState) (stream k : ℕ) (due : Outcome) (r r' : ReplicaState) (stores now : ℕ → StoreInHand) (old new : ℕ → D) → OthersStay k stores now → OthersStay k old new
    → ((j : ℕ) → j ≢ k → IsMember r.cluster j → (seat r.cluster j).up ≡ true → IsInHand stream (member r.cluster j) (stores j) (state (old j))) → Gives due Did r r' (after_stop k r) → AllInHand stream r'.cluster now (states state new)
stops_in_hand {D} state stream k due r r' stores now old new same stay rest then =
    subst (λ (y : ReplicaState). AllInHand stream y.cluster now (states state new)) (sym then.1)
    (down_in_hand state stream k r.cluster now new (λ j ne lt up. subst (λ (d : D). IsInHand stream (member r.cluster j) (now j) (state d)) (sym (stay j ne)) (subst (λ (store : StoreInHand). IsInHand stream (member r.cluster j) store (state (old j))) (sym (same j ne)) (rest j ne lt up))))
