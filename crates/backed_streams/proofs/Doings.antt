-- A job of one member.
use Rattle.std.proofs.Common.{◌≡◌, ◌≢◌, inl, inr, ℕ, ◌≤◌, List, [], ◌∷◌, ◌++◌, Option, Some, None, refl, sym, ap, subst, ◌∙◌, arith}
use Rattle.std.specs.Prelude.{Result, Ok}
use Rattle.disk_calls.specs.declared.file_id.FileId.{FileId}
use Rattle.disk_calls.specs.Disk.{DiskState}
use Rattle.chunk_format.specs.declared.chunk.Chunk.{Chunk}
use Rattle.chunk_format.specs.Logs.{GoesOn, end_of, IsLog}
use Rattle.chunk_format.proofs.BeginLaws.{log_front}
use Rattle.gated_words.specs.Files.{PairsOf}
use Rattle.gated_words.specs.InHand.{InHand}
use Rattle.gated_words.specs.Backing.{MayAdd}
use Rattle.segment_pairs.specs.Log.{LogOf}
use Rattle.segment_pairs.specs.Held.{files_of, EachLog}
use Rattle.epoch_coordinator.specs.declared.message.Job.{Job}
use Rattle.epoch_coordinator.specs.declared.message.Job.TheVariants.{Write, Cut, Promise, Epoch}
use Rattle.epoch_coordinator.specs.Members.{MemberRole, MemberState, Stopped, Follower, Leader}
use Rattle.epoch_coordinator.specs.MemberSteps.{next_job, wrote, asks_by, finished_by, finished, cut_at}
use Rattle.epoch_coordinator.specs.Coordinators.{CoordinatorState, begun}
use Rattle.replication_laws.specs.Events.{MayBegin}
use Rattle.replication_laws.specs.Cluster.{ClusterState, Seat, HoldsBy, Holds, MayPromise}
use Rattle.replication_laws.specs.Soundness.{Tree, MemberHolds, JobHolds}
use Rattle.replication_laws.proofs.Logs.{front_end}
use Rattle.replication_laws.proofs.Walks.{cut_front}
use Rattle.segment_store.specs.declared.fault.StoreFault.{StoreFault}
use Rattle.segment_store.specs.Receipts.{JobDone}
use Rattle.segment_store.specs.Jobs.{Between}
use Rattle.segment_store.specs.Words.{word_of, epochs_file, EachWord}
use Rattle.segment_store.specs.Stores.{StoreInHand, BackedStore, EachPromise, ContinuesLog, LogBetween, PromiseBetween, log_after, promise_after, promise_of}
use Rattle.backed_streams.specs.Backing.{BackedMember, BackedEpoch, IsInHand}
use Rattle.backed_streams.specs.Doing.{JobTold, EpochTold}
use Rattle.backed_streams.proofs.OneDisk.{in_hand_backed, epoch_left, epoch_apart, epoch_is}

-- ---- what a job leaves

cut_held : (end : ℕ) (log held : List Chunk) → IsLog log → ((front : List Chunk) × GoesOn front log × (end_of front ≡ end)) → Between end log held → end ≤ end_of held
cut_held end log held whole (front, goes, is) b =
    let cut : cut_at end log ≡ front = subst (λ (n : ℕ). cut_at n log ≡ front) is (cut_front front log goes whole) in
    let le = front_end front held (subst (λ (l : List Chunk). GoesOn l held) cut b.cut) (log_front held log b.front whole) in
    omega (arith, le, is)

between_held : (log held : List Chunk) (job : Job) → IsLog log → ContinuesLog log job → LogBetween job log held → HoldsBy (Some job) log held
between_held log held (Write c) whole go b = b
between_held log held (Cut end) whole go b = (b.front, cut_held end log held whole go b)
between_held log held (Promise epoch) whole go b = b
between_held log held (Epoch epoch) whole go b = b

between_may : (m : MemberState) (job : Job) (word : ℕ) → m.job ≡ Some job → PromiseBetween job m.promise word → MayPromise m word
between_may m (Write c) word is b = inl b
between_may m (Cut end) word is b = inl b
between_may m (Promise epoch) word is (inl b) = inl b
between_may m (Promise epoch) word is (inr b) = inr (is ∙ ap (λ (e : ℕ). Some (Promise e)) (sym b))
between_may m (Epoch epoch) word is b = inl b

pub job_left : (stream : ℕ) (m : MemberState) (job : Job) (number : ℕ) (store new : StoreInHand) (result : Result JobDone StoreFault) (s t : DiskState) → IsLog m.log → ContinuesLog m.log job → m.job ≡ Some job → IsInHand stream m store s → JobTold job number m.log store new result t → BackedMember stream m t
job_left stream m job number store new result s t whole go is h told = record {
  log = λ F pick picks. held (LogOf F (files_of stream pick)) (logs F pick picks);
  promise = λ files left. between_may m job (word_of stream (PairsOf files)) is (words files left);
}
  where
    held : (log : List Chunk) → LogBetween job m.log log → Holds m log
    held log b = subst (λ (j : Option Job). HoldsBy j m.log log) (sym is) (between_held m.log log job whole go b)

    logs : EachLog stream (LogBetween job m.log) t
    logs = subst (λ (n : ℕ). EachLog n (LogBetween job m.log) t) h.stream_is told.log_left

    words : EachPromise stream (PromiseBetween job m.promise) t
    words = subst (λ (p : ℕ). EachPromise stream (PromiseBetween job p) t) h.promised (subst (λ (n : ℕ). EachPromise n (PromiseBetween job (promise_of store)) t) h.stream_is told.promise_left)

-- ---- a job that is done

-- the member after a job that is done
pub record FinishedAs (m : MemberState) (job : Job) (n : MemberState) : Type 0 where
  pub number_is : n.number ≡ m.number
  pub log_is : n.log ≡ log_after job m.log
  pub promise_is : n.promise ≡ promise_after job m.promise
  pub own : Holds n n.log

next_holds : (queue log : List Chunk) → HoldsBy (next_job queue) log log
next_holds [] log = refl
next_holds (c ∷ queue) log = inl refl

wrote_as : (r : MemberRole) (c : Chunk) (m : MemberState) → FinishedAs m (Write c) (wrote r c m).state
wrote_as Stopped c m = record { number_is = refl; log_is = refl; promise_is = refl; own = refl }
wrote_as (Follower leader) c m = record { number_is = refl; log_is = refl; promise_is = refl; own = refl }
wrote_as (Leader l) c m = record { number_is = refl; log_is = refl; promise_is = refl; own = next_holds l.queue (m.log ++ c ∷ []) }

cut_as : (r : MemberRole) (end : ℕ) (m n : MemberState) → n.number ≡ m.number → n.log ≡ cut_at end m.log → n.promise ≡ m.promise → Holds n n.log → FinishedAs m (Cut end) (asks_by r n).state
cut_as Stopped end m n number log promise own = record { number_is = number; log_is = log; promise_is = promise; own = own }
cut_as (Follower leader) end m n number log promise own = record { number_is = number; log_is = log; promise_is = promise; own = own }
cut_as (Leader l) end m n number log promise own = record { number_is = number; log_is = log; promise_is = promise; own = own }

done_as : (m : MemberState) (job : Job) → ContinuesLog m.log job → FinishedAs m job (finished_by (Some job) m).state
done_as m (Write c) go = wrote_as m.role c m
done_as m (Cut end) go = cut_as m.role end m (record m { log = cut_at end m.log; job = None }) refl refl refl refl
done_as m (Promise epoch) go = record { number_is = refl; log_is = refl; promise_is = refl; own = refl }
done_as m (Epoch epoch) go = absurd go

pub finished_as : (m : MemberState) (job : Job) → ContinuesLog m.log job → m.job ≡ Some job → FinishedAs m job (finished m).state
finished_as m job go is = subst (λ (j : Option Job). FinishedAs m job (finished_by j m).state) (sym is) (done_as m job go)

pub job_in_hand : (stream : ℕ) (m : MemberState) (job : Job) (number : ℕ) (store new : StoreInHand) (receipt : JobDone) (s t : DiskState) → ContinuesLog m.log job → m.job ≡ Some job → IsInHand stream m store s → JobTold job number m.log store new (Ok receipt) t → IsInHand stream (finished m).state new t
job_in_hand stream m job number store new receipt s t go is h told =
    let f = finished_as m job go is in
    record {
      stream_is = told.keeper.stream ∙ h.stream_is;
      member_is = told.keeper.member ∙ (h.member_is ∙ sym f.number_is);
      backed = subst (λ (l : List Chunk). BackedStore new l t) (sym f.log_is) told.done;
      promised = told.promised ∙ (ap (promise_after job) h.promised ∙ sym f.promise_is);
    }

pub job_done : (stream : ℕ) (m : MemberState) (job : Job) (number : ℕ) (store new : StoreInHand) (receipt : JobDone) (s t : DiskState) → ContinuesLog m.log job → m.job ≡ Some job → IsInHand stream m store s → JobTold job number m.log store new (Ok receipt) t → BackedMember stream (finished m).state t
job_done stream m job number store new receipt s t go is h told = in_hand_backed stream (finished m).state new t (finished_as m job go is).own (job_in_hand stream m job number store new receipt s t go is h told)

-- ---- a pending job continues the log

continues_by : (g : Tree) (w : ClusterState) (k promise : ℕ) (log : List Chunk) (job : Job) → JobHolds g w k promise log (Some job) → ContinuesLog log job
continues_by g w k promise log (Write c) h = h.0.begins
continues_by g w k promise log (Cut end) h = h.2
continues_by g w k promise log (Promise epoch) h = tt
continues_by g w k promise log (Epoch epoch) h = absurd h

pub pending_continues : (g : Tree) (w : ClusterState) (k : ℕ) (s : Seat) (job : Job) → MemberHolds g w k s → s.state.job ≡ Some job → ContinuesLog s.state.log job
pending_continues g w k s job h is = continues_by g w k s.state.promise s.state.log job (subst (λ (j : Option Job). JobHolds g w k s.state.promise s.state.log j) is h.job)

-- ---- the coordinator's job

pub epoch_job_left : (stream epoch number : ℕ) (c : CoordinatorState) (hand new : InHand) (result : Result JobDone StoreFault) (s t : DiskState) → hand.id ≡ epochs_file → c.job ≡ Some epoch → EpochTold stream epoch number hand new result s t → BackedEpoch stream c s → BackedEpoch stream c t
epoch_job_left stream epoch number c hand new result s t id is told b = epoch_left stream epoch c s t is (subst (λ (f : FileId). MayAdd f (stream, epoch) s t) id told.images) b

pub epoch_job_apart : (stream other epoch number : ℕ) (c : CoordinatorState) (hand new : InHand) (result : Result JobDone StoreFault) (s t : DiskState) → hand.id ≡ epochs_file → stream ≢ other → EpochTold stream epoch number hand new result s t → BackedEpoch other c s → BackedEpoch other c t
epoch_job_apart stream other epoch number c hand new result s t id ne told b = epoch_apart stream other epoch (MayBegin c) s t ne (subst (λ (f : FileId). MayAdd f (stream, epoch) s t) id told.images) b

pub epoch_job_done : (stream epoch number : ℕ) (c : CoordinatorState) (hand new : InHand) (receipt : JobDone) (s t : DiskState) → hand.id ≡ epochs_file → EpochTold stream epoch number hand new (Ok receipt) s t → BackedEpoch stream (begun epoch c) t
epoch_job_done stream epoch number c hand new receipt s t id told =
    let only : EachWord epochs_file stream (λ word. word ≡ word_of stream new.pairs) t = subst (λ (f : FileId). EachWord f stream (λ word. word ≡ word_of stream new.pairs) t) id (told.only stream) in
    epoch_is stream (word_of stream new.pairs) (begun epoch c) t told.given only
