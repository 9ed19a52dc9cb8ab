-- What comes of a member's job.
use Rattle.std.specs.Prelude.{◌≡◌, ◌⊎◌, ℕ, false, List, Option, Some, None, Result, Ok, Err}
use Rattle.disk_calls.specs.Disk.{DiskState}
use Rattle.chunk_format.specs.declared.chunk.Chunk.{Chunk}
use Rattle.epoch_coordinator.specs.declared.message.Job.{Job}
use Rattle.segment_pairs.specs.Held.{EachLog}
use Rattle.segment_store.specs.declared.fault.StoreFault.TheVariants.{Disk, Damaged, DamagedWords, Memory}
use Rattle.segment_store.specs.Receipts.{JobDone}
use Rattle.segment_store.specs.Recoverable.{Recoverable}
use Rattle.segment_store.specs.Stores.{StoreInHand, BackedStore, Continues, EachPromise, LogBetween, PromiseBetween, SameKeeper, log_after, promise_after, promise_of}
use Rattle.member_stores.specs.declared.fault.WorkFault.{WorkFault}
use Rattle.member_stores.specs.declared.fault.WorkFault.TheVariants.{NoStore, Apart, Store}
use Rattle.member_stores.specs.declared.shelf.Shelf.{Shelf}
use Rattle.member_stores.specs.Shelves.{has_done}

-- a job of a member of a stream, by its number
pub record Asked : Type 0 where
  pub stream : ℕ
  pub member : ℕ
  pub number : ℕ
  pub job : Job

abbrev pub asked : ℕ → ℕ → ℕ → Job → Asked
asked stream member number job = record { stream = stream; member = member; number = number; job = job }

abbrev pub receipt_of : Asked → JobDone
receipt_of a = record { stream = a.stream; member = a.member; number = a.number }

-- no receipt of it is kept
abbrev pub IsUndone : Asked → Shelf → Type 0
IsUndone a on = has_done a.stream a.member a.number on ≡ false

-- it is to be done by a store that is there
pub record IsToDo (a : Asked) (shelf : Option Shelf) (on : Shelf) : Type 0 where
  pub there : shelf ≡ Some on
  pub undone : IsUndone a on

-- the store is of this member of this stream, and the job continues its log
pub record Suits (a : Asked) (store : StoreInHand) : Type 0 where
  pub stream : store.stream ≡ a.stream
  pub member : store.member ≡ a.member
  pub continues : Continues store a.job

-- ---- what becomes of a shelf

-- the receipt that was kept is handed out
pub record HandsOut (receipt : JobDone) (old new : Shelf) : Type 0 where
  pub kept : old.kept ≡ Some receipt
  pub store : new.store ≡ old.store
  pub none : new.kept ≡ None

-- the store is given the job, and what is kept stays
pub record Works (a : Asked) (old new : Shelf) : Type 0 where
  pub undone : IsUndone a old
  pub suits : Suits a old.store
  pub keeper : SameKeeper old.store new.store
  pub kept : new.kept ≡ old.kept

-- A receipt is of this job: it was kept, or the store did the job. Else the job is not for this store, or the store did not do it.
abbrev pub ShelfGives : Asked → Result JobDone WorkFault → Shelf → Shelf → Type 0
ShelfGives a (Ok receipt) old new = (receipt ≡ receipt_of a) × (HandsOut receipt old new ⊎ Works a old new)
ShelfGives a (Err NoStore) old new = ⊥
ShelfGives a (Err Apart) old new = IsUndone a old × (new ≡ old)
ShelfGives a (Err (Store fault)) old new = Works a old new

-- the same of a shelf that may not be there
abbrev pub WorkGives : Asked → Result JobDone WorkFault → Option Shelf → Option Shelf → Type 0
WorkGives a result None new = (result ≡ Err NoStore) × (new ≡ None)
WorkGives a result (Some old) new = (on : Shelf) × (new ≡ Some on) × ShelfGives a result old on

-- unless the disk or the store is at fault
abbrev pub UnlessBroken : Result JobDone WorkFault → Type 0 → Type 0
UnlessBroken (Ok receipt) P = P
UnlessBroken (Err NoStore) P = P
UnlessBroken (Err Apart) P = P
UnlessBroken (Err (Store Memory)) P = P
UnlessBroken (Err (Store Disk)) P = Unit {0}
UnlessBroken (Err (Store (Damaged segment at))) P = Unit {0}
UnlessBroken (Err (Store (DamagedWords place))) P = Unit {0}

-- ---- what stands on the disk

-- on every answer of the store, what each image has
pub record JobLeft (job : Job) (store : StoreInHand) (chunks : List Chunk) (s : DiskState) : Type 0 where
  pub log : EachLog store.stream (LogBetween job chunks) s
  pub promise : EachPromise store.stream (PromiseBetween job (promise_of store)) s
  pub recoverable : Recoverable store.stream s

-- the job is done: what is in hand, and what each image has
pub record JobStands (job : Job) (old new : StoreInHand) (chunks : List Chunk) (s : DiskState) : Type 0 where
  pub backed : BackedStore new (log_after job chunks) s
  pub log : EachLog old.stream (λ log. log ≡ log_after job chunks) s
  pub promise : EachPromise old.stream (λ word. word ≡ promise_after job (promise_of old)) s
  pub promised : promise_of new ≡ promise_after job (promise_of old)
