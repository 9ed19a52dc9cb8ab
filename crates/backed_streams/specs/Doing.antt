-- What a store tells of a job on its answer, and what then happens to the stream.
use Rattle.std.specs.Prelude.{◌≡◌, ℕ, List, IfOk, OnOk, Some, Result, Ok, Err}
use Rattle.disk_calls.specs.Disk.{DiskState}
use Rattle.chunk_format.specs.declared.chunk.Chunk.{Chunk}
use Rattle.gated_words.specs.InHand.{InHand}
use Rattle.gated_words.specs.Backing.{Backs, MayAdd}
use Rattle.segment_pairs.specs.Held.{EachLog}
use Rattle.epoch_coordinator.specs.declared.message.Job.{Job}
use Rattle.replication_laws.specs.Cluster.{ClusterState, member, IsMember}
use Rattle.cluster_core.specs.declared.outcome.Outcome.{Outcome}
use Rattle.cluster_core.specs.declared.outcome.Outcome.TheVariants.{Did}
use Rattle.cluster_core.specs.States.{ReplicaState, Gives, elect_due, deliver_due, lose_due, stop_due}
use Rattle.cluster_core.specs.Kept.{after_elect, after_deliver, after_lose, after_forget, after_nudge, after_done, after_stop}
use Rattle.segment_store.specs.declared.fault.StoreFault.{StoreFault}
use Rattle.segment_store.specs.Receipts.{JobDone}
use Rattle.segment_store.specs.Words.{epochs_file, word_of, EachWord}
use Rattle.segment_store.specs.Stores.{StoreInHand, BackedStore, EachPromise, LogBetween, PromiseBetween, SameKeeper, log_after, promise_after, promise_of}
use Rattle.backed_streams.specs.Backing.{IsInHand, OthersStay}

-- a member's store, of a job over a disk with a log: what each image has on every answer, and what stands once the job is done
pub record JobTold (job : Job) (number : ℕ) (log : List Chunk) (old new : StoreInHand) (result : Result JobDone StoreFault) (s : DiskState) : Type 0 where
  pub log_left : EachLog old.stream (LogBetween job log) s
  pub promise_left : EachPromise old.stream (PromiseBetween job (promise_of old)) s
  pub keeper : SameKeeper old new
  pub done : OnOk result (BackedStore new (log_after job log) s)
  pub promised : OnOk result (promise_of new ≡ promise_after job (promise_of old))
  pub receipt : IfOk result (λ r. (r.stream ≡ old.stream) × (r.member ≡ old.member) × (r.number ≡ number))

-- the same of the store of epochs, which gives a stream an epoch
pub record EpochTold (stream epoch number : ℕ) (old new : InHand) (result : Result JobDone StoreFault) (s t : DiskState) : Type 0 where
  pub images : MayAdd old.id (stream, epoch) s t
  pub backs : Backs new t
  pub id_is : new.id ≡ old.id
  pub given : OnOk result (word_of stream new.pairs ≡ epoch)
  pub only : (other : ℕ) → OnOk result (EachWord old.id other (λ word. word ≡ word_of other new.pairs) t)
  pub receipt : IfOk result (λ r. (r.stream ≡ stream) × (r.member ≡ 0) × (r.number ≡ number))

-- A member's store does the member's pending job over its disk, whatever came of it; the other stores and disks stay.
pub record MemberDoes (D : Type 0) (state : D → DiskState) (stream k : ℕ) (w : ClusterState) (job : Job) (number : ℕ) (result : Result JobDone StoreFault) (stores now : ℕ → StoreInHand) (old new : ℕ → D) : Type 0 where
  pub is_member : IsMember w k
  pub is_job : (member w k).job ≡ Some job
  pub in_hand : IsInHand stream (member w k) (stores k) (state (old k))
  pub told : JobTold job number (member w k).log (stores k) (now k) result (state (new k))
  pub stores_stay : OthersStay k stores now
  pub disks_stay : OthersStay k old new

-- the same of the store of epochs and the coordinator's pending job, over disk 0
pub record CoordinatorDoes (D : Type 0) (state : D → DiskState) (stream : ℕ) (w : ClusterState) (epoch number : ℕ) (result : Result JobDone StoreFault) (hand now : InHand) (old new : ℕ → D) : Type 0 where
  pub is_job : w.coordinator.job ≡ Some epoch
  pub id_is : hand.id ≡ epochs_file
  pub told : EpochTold stream epoch number hand now result (state (old 0)) (state (new 0))
  pub disks_stay : OthersStay 0 old new

-- behind a job that was done its receipt comes to the stream, behind one that failed a stop of who did it; whatever is due, and whatever came
abbrev pub DoneOrStop : Result JobDone StoreFault → ℕ → Outcome → Outcome → ReplicaState → ReplicaState → Type 0
DoneOrStop (Ok receipt) k due came old new = Gives due came old new (after_done receipt.member old)
DoneOrStop (Err fault) k due came old new = Gives due came old new (after_stop k old)

-- an event that touches no disk, at a moment, whatever came of it
pub data QuietEvent (now : ℕ) (old new : ReplicaState) : Type 0 where
  Elects : (came : Outcome) → Gives (elect_due old.cluster) came old new (after_elect old) → QuietEvent now old new
  Delivers : (number : ℕ) (came : Outcome) → Gives (deliver_due number old.cluster) came old new (after_deliver number now old) → QuietEvent now old new
  Loses : (number : ℕ) (came : Outcome) → Gives (lose_due number old.cluster) came old new (after_lose number old) → QuietEvent now old new
  Forgets : (came : Outcome) → Gives Did came old new (after_forget old) → QuietEvent now old new
  Nudges : (came : Outcome) → Gives Did came old new (after_nudge old) → QuietEvent now old new
  Stops : (k : ℕ) (came : Outcome) → Gives (stop_due k old.cluster) came old new (after_stop k old) → QuietEvent now old new
