-- What a program has in hand of a member's files, and what a job does to them.
use Rattle.std.specs.Prelude.{◌≡◌, ◌⊎◌, ℕ, ◌<◌, ◌≤◌, List, ◌∷◌, [], ◌++◌, length, IsTrue}
use Rattle.std.specs.List.{AllWithin}
use Rattle.std.specs.List.Sorted.{IsNonDecreasingBy}
use Rattle.disk_calls.specs.declared.file_id.FileId.{FileId}
use Rattle.disk_calls.specs.declared.file_id.FileName.TheVariants as name
use Rattle.disk_calls.specs.Disk.{DiskState}
use Rattle.chunk_format.specs.declared.chunk.Chunk.{Chunk}
use Rattle.chunk_format.specs.Logs.{GoesOn, end_of}
use Rattle.gated_words.specs.InHand.{InHand}
use Rattle.gated_words.specs.Backing.{Backs, KeepsPairs}
use Rattle.segment_pairs.specs.Held.{Segment, EachLog, KeepsLog, OldOrNew, all_chunks}
use Rattle.epoch_coordinator.specs.declared.message.Job.{Job}
use Rattle.epoch_coordinator.specs.declared.message.Job.TheVariants.{Write, Cut, Promise, Epoch}
use Rattle.epoch_coordinator.specs.MemberSteps.{cut_at}
use Rattle.segment_store.specs.declared.rows.ChunkAt.{ChunkAt}
use Rattle.segment_store.specs.Rows.{grown}
use Rattle.segment_store.specs.Words.{word_of, EachWord}
use Rattle.segment_store.specs.Jobs.{Between}
use Rattle.segment_store.specs.Logs.{LogInHand, Standing, LogEnds, EndsChunk}

-- the file of a member's promises to a stream, the first of two
abbrev pub promise_file : ℕ → FileId
promise_file stream = record { stream = stream; file = name.Promise }

-- the stream and the member, where each chunk of the log stands, and the pairs of promises
pub record StoreInHand : Type 0 where
  pub stream : ℕ
  pub member : ℕ
  pub log : LogInHand
  pub promises : InHand

-- the epoch that was promised last, 0 where none was
abbrev pub promise_of : StoreInHand → ℕ
promise_of store = word_of store.stream store.promises.pairs

-- a store is of the stream of its parts
pub record IsOf (store : StoreInHand) : Type 0 where
  pub log : store.log.stream ≡ store.stream
  pub promises : store.promises.id ≡ promise_file store.stream

-- ---- what stands on the disk

-- the files of the stream are these segments, and the pairs in hand are sure
pub record StoreStands (store : StoreInHand) (segments : List Segment) (s : DiskState) : Type 0 where
  pub of : IsOf store
  pub log : Standing store.log segments s
  pub promises : Backs store.promises s
  pub sure : IsTrue store.promises.sure

-- the disk is what is in hand of a store, and these chunks are its log
pub record BackedStore (store : StoreInHand) (chunks : List Chunk) (s : DiskState) : Type 0 where
  pub segments : List Segment
  pub stands : StoreStands store segments s
  pub are : all_chunks segments ≡ chunks

-- this holds of the promise to a stream in each image
abbrev pub EachPromise : ℕ → (ℕ → Type 0) → DiskState → Type 0
EachPromise stream P s = EachWord (promise_file stream) stream P s

-- each image has this log and this promise
pub record EachHolds (stream : ℕ) (chunks : List Chunk) (promised : ℕ) (s : DiskState) : Type 0 where
  pub log : EachLog stream (λ log. log ≡ chunks) s
  pub promise : EachPromise stream (λ word. word ≡ promised) s

-- each image has the log of one from before, and the promises of one from before
pub record KeepsStore (stream : ℕ) (old new : DiskState) : Type 0 where
  pub log : KeepsLog stream old new
  pub promises : KeepsPairs (promise_file stream) old new

-- ---- jobs

-- the job continues what is in hand: a chunk that begins where the log ends, a cut where some chunk ends or at 0, a promise
abbrev pub Continues : StoreInHand → Job → Type 0
Continues store (Write c) = LogEnds store.log c.first
Continues store (Cut end) = EndsChunk store.log end
Continues store (Promise epoch) = Unit {0}
Continues store (Epoch epoch) = ⊥

-- the same of these chunks
abbrev pub ContinuesLog : List Chunk → Job → Type 0
ContinuesLog chunks (Write c) = c.first ≡ end_of chunks
ContinuesLog chunks (Cut end) = (front : List Chunk) × GoesOn front chunks × (end_of front ≡ end)
ContinuesLog chunks (Promise epoch) = Unit {0}
ContinuesLog chunks (Epoch epoch) = ⊥

-- the log once the job is done
abbrev pub log_after : Job → List Chunk → List Chunk
log_after (Write c) log = log ++ c ∷ []
log_after (Cut end) log = cut_at end log
log_after (Promise epoch) log = log
log_after (Epoch epoch) log = log

-- and the promise
abbrev pub promise_after : Job → ℕ → ℕ
promise_after (Write c) word = word
promise_after (Cut end) word = word
promise_after (Promise epoch) word = epoch
promise_after (Epoch epoch) word = word

-- what a crash in the job may leave of a log: that before or after it; of a cut a beginning between the two
abbrev pub LogBetween : Job → List Chunk → List Chunk → Type 0
LogBetween (Write c) old log = OldOrNew old c log
LogBetween (Cut end) old log = Between end old log
LogBetween (Promise epoch) old log = log ≡ old
LogBetween (Epoch epoch) old log = log ≡ old

-- and of a promise
abbrev pub PromiseBetween : Job → ℕ → ℕ → Type 0
PromiseBetween (Write c) old word = word ≡ old
PromiseBetween (Cut end) old word = word ≡ old
PromiseBetween (Promise epoch) old word = (word ≡ old) ⊎ (word ≡ epoch)
PromiseBetween (Epoch epoch) old word = word ≡ old

-- what each image has on every answer of the job
pub record JobLeaves (job : Job) (store : StoreInHand) (segments : List Segment) (s : DiskState) : Type 0 where
  pub log : EachLog store.stream (LogBetween job (all_chunks segments)) s
  pub promise : EachPromise store.stream (PromiseBetween job (promise_of store)) s

-- what stands once the job is done
abbrev pub StandsAfter : Job → List Segment → StoreInHand → DiskState → Type 0
StandsAfter (Write c) segments store s = StoreStands store (grown segments c) s
StandsAfter (Cut end) segments store s = (now : List Segment) × StoreStands store now s × (all_chunks now ≡ cut_at end (all_chunks segments))
StandsAfter (Promise epoch) segments store s = StoreStands store segments s
StandsAfter (Epoch epoch) segments store s = StoreStands store segments s

-- the stream and the member stay
pub record SameKeeper (old new : StoreInHand) : Type 0 where
  pub stream : new.stream ≡ old.stream
  pub member : new.member ≡ old.member

-- ---- a search by halves

-- chunks end one behind the other
abbrev pub EndsRise : List ChunkAt → Type 0
EndsRise rows = IsNonDecreasingBy (λ row. row.end) rows

-- the first so many chunks end before an offset, and no other does
abbrev pub NoneBefore : ℕ → List ChunkAt → ℕ → Type 0
NoneBefore end rows n = AllWithin (λ row. row.end < end) rows 0 n × AllWithin (λ row. end ≤ row.end) rows n (length rows)
