-- What the jobs of a store leave.
use Rattle.std.proofs.Common.{◌≡◌, ℕ, List, [], ◌∷◌, ◌++◌, length, Bool, true, false, leb, if◌then◌else◌, append_assoc, Result, Ok, Err, refl, sym, ◌∙◌, ap, subst}
use Rattle.std.specs.Prelude.{IsTrue, OnOk}
use Rattle.disk_calls.specs.declared.file_id.FileId.{FileId}
use Rattle.disk_calls.specs.Disk.{DiskState}
use Rattle.disk_calls.specs.Frames.{Besides}
use Rattle.chunk_format.specs.declared.chunk.Chunk.{Chunk}
use Rattle.gated_words.specs.Files.{second_file}
use Rattle.gated_words.specs.InHand.{InHand}
use Rattle.gated_words.specs.Backing.{Backs, MayAdd}
use Rattle.segment_pairs.specs.Held.{Segment, EachLog, OldOrNew, OutsideLog, all_chunks}
use Rattle.epoch_coordinator.specs.declared.message.Job.{Job}
use Rattle.epoch_coordinator.specs.declared.message.Job.TheVariants.{Write, Cut, Promise, Epoch}
use Rattle.segment_store.specs.declared.fault.StoreFault.{StoreFault}
use Rattle.segment_store.specs.Rows.{grown, IsFilled}
use Rattle.segment_pairs.specs.Log.{segment_of}
use Rattle.epoch_coordinator.specs.MemberSteps.{cut_at}
use Rattle.segment_store.proofs.Lasting.{backed_holds}
use Rattle.segment_store.specs.Jobs.{Between}
use Rattle.segment_store.specs.Logs.{LogInHand, Standing}
use Rattle.segment_store.specs.Stores.{StoreInHand, StoreStands, IsOf, BackedStore, JobLeaves, EachPromise, StandsAfter, log_after, promise_file, promise_of}
use Rattle.segment_store.proofs.Storing.{promises_left, promise_each, promise_between, log_left, put_leaves, held_each, LogStays}

-- the promise while the log changes
pub promise_stays : (store : StoreInHand) (segments : List Segment) (s t : DiskState) → StoreStands store segments s → OutsideLog store.log.stream s t → Backs store.promises t × EachPromise store.stream (λ word. word ≡ promise_of store) t
promise_stays store segments s t stands outside =
    let here : OutsideLog store.stream s t = subst (λ (n : ℕ). OutsideLog n s t) stands.of.log outside in
    let backs = promises_left store.stream store.promises s t here stands.of.promises stands.promises in
    (backs, promise_each store.stream store.promises t stands.of.promises backs stands.sure)

log_of : (store : StoreInHand) (P : List Chunk → Type 0) (t : DiskState) → IsOf store → EachLog store.log.stream P t → EachLog store.stream P t
log_of store P t of each = subst (λ (n : ℕ). EachLog n P t) of.log each

-- while the log changes: a store is its parts, which are what it was
pub write_leaves : (was store : StoreInHand) → was ≡ store → (segments : List Segment) (c : Chunk) (s t : DiskState) → StoreStands store segments s → OutsideLog was.log.stream s t → (StoreStands was segments s → EachLog was.log.stream (OldOrNew (all_chunks segments) c) t) → JobLeaves (Write c) store segments t
write_leaves was store same segments c s t stands outside each =
    let here : StoreStands was segments s = subst (λ (v : StoreInHand). StoreStands v segments s) (sym same) stands in
    subst (λ (v : StoreInHand). JobLeaves (Write c) v segments t) same (record {
      log = log_of was (OldOrNew (all_chunks segments) c) t here.of (each here);
      promise = (promise_stays was segments s t here outside).1;
    })

pub cut_leaves : (was store : StoreInHand) → was ≡ store → (segments : List Segment) (end : ℕ) (s t : DiskState) → StoreStands store segments s → OutsideLog was.log.stream s t → (StoreStands was segments s → EachLog was.log.stream (Between end (all_chunks segments)) t) → JobLeaves (Cut end) store segments t
cut_leaves was store same segments end s t stands outside each =
    let here : StoreStands was segments s = subst (λ (v : StoreInHand). StoreStands v segments s) (sym same) stands in
    subst (λ (v : StoreInHand). JobLeaves (Cut end) v segments t) same (record {
      log = log_of was (Between end (all_chunks segments)) t here.of (each here);
      promise = (promise_stays was segments s t here outside).1;
    })

-- what stands with the log that is now in hand
abbrev pub with_log : StoreInHand → LogInHand → StoreInHand
with_log store log = record { stream = store.stream; member = store.member; log = log; promises = store.promises }

pub log_stands : (store : StoreInHand) (log : LogInHand) (segments now : List Segment) (s t : DiskState) → StoreStands store segments s → log.stream ≡ store.log.stream → OutsideLog store.log.stream s t → Standing log now t → StoreStands (with_log store log) now t
log_stands store log segments now s t stands same outside there = record {
  of = record { log = same ∙ stands.of.log; promises = stands.of.promises };
  log = there;
  promises = (promise_stays store segments s t stands outside).0;
  sure = stands.sure;
}

pub write_stands : (was store : StoreInHand) → was ≡ store → (log : LogInHand) (segments : List Segment) (c : Chunk) (s t : DiskState) (result : Result (Unit {0}) StoreFault) → StoreStands store segments s → log.stream ≡ was.log.stream → OutsideLog was.log.stream s t
    → (StoreStands was segments s → OnOk result (Standing log (grown segments c) t)) → OnOk result (StoreStands (with_log was log) (grown segments c) t)
write_stands was store same log segments c s t (Ok u) stands stream outside done =
    let here : StoreStands was segments s = subst (λ (v : StoreInHand). StoreStands v segments s) (sym same) stands in
    log_stands was log segments (grown segments c) s t here stream outside (done here)
write_stands was store same log segments c s t (Err e) stands stream outside done = done (subst (λ (v : StoreInHand). StoreStands v segments s) (sym same) stands)

pub cut_stands : (was store : StoreInHand) → was ≡ store → (log : LogInHand) (segments : List Segment) (all : List Chunk) (s t : DiskState) → StoreStands store segments s → log.stream ≡ was.log.stream → OutsideLog was.log.stream s t
    → (StoreStands was segments s → (now : List Segment) × Standing log now t × (all_chunks now ≡ all)) → (now : List Segment) × StoreStands (with_log was log) now t × (all_chunks now ≡ all)
cut_stands was store same log segments all s t stands stream outside done =
    let here : StoreStands was segments s = subst (λ (v : StoreInHand). StoreStands v segments s) (sym same) stands in
    let (now, there, are) = done here in
    (now, log_stands was log segments now s t here stream outside there, are)

-- the log while the promises change
besides_of : (store : StoreInHand) (s t : DiskState) → IsOf store → Besides store.promises.id (second_file store.promises.id) s t → Besides (promise_file store.stream) (second_file (promise_file store.stream)) s t
besides_of store s t of besides = subst (λ (f : FileId). Besides f (second_file f) s t) of.promises besides

pub log_stays : (store : StoreInHand) (segments : List Segment) (s t : DiskState) → StoreStands store segments s → Besides store.promises.id (second_file store.promises.id) s t → Standing store.log segments t
log_stays store segments s t stands besides =
    log_left store.log.stream store.log.rows segments s t (subst (λ (n : ℕ). (LogStays n s t)) (sym stands.of.log) (put_leaves store.stream s t (besides_of store s t stands.of besides))) stands.log

pub put_between : (was store : StoreInHand) → was ≡ store → (segments : List Segment) (epoch : ℕ) (s t : DiskState) → StoreStands store segments s → Besides was.promises.id (second_file was.promises.id) s t → MayAdd was.promises.id (was.stream, epoch) s t → JobLeaves (Promise epoch) store segments t
put_between was store same segments epoch s t stands besides may =
    let here : StoreStands was segments s = subst (λ (v : StoreInHand). StoreStands v segments s) (sym same) stands in
    let there = log_stays was segments s t here besides in
    subst (λ (v : StoreInHand). JobLeaves (Promise epoch) v segments t) same (record {
      log = log_of was (λ log. log ≡ all_chunks segments) t here.of (held_each was.log.stream segments (all_chunks segments) t there.held refl);
      promise = promise_between was.stream epoch was.promises s t here.of.promises here.promises here.sure may;
    })

abbrev pub with_promises : StoreInHand → InHand → StoreInHand
with_promises store hand = record { stream = store.stream; member = store.member; log = store.log; promises = hand }

pub put_stands : (was store : StoreInHand) → was ≡ store → (hand : InHand) (segments : List Segment) (s t : DiskState) → StoreStands store segments s → hand.id ≡ was.promises.id → Besides was.promises.id (second_file was.promises.id) s t → Backs hand t → IsTrue hand.sure → StoreStands (with_promises was hand) segments t
put_stands was store same hand segments s t stands id besides backs sure =
    let here : StoreStands was segments s = subst (λ (v : StoreInHand). StoreStands v segments s) (sym same) stands in
    record {
      of = record { log = here.of.log; promises = id ∙ here.of.promises };
      log = log_stays was segments s t here besides;
      promises = backs;
      sure = sure;
    }

-- ---- the store once the job is done

grown_all : (segments : List Segment) (c : Chunk) → IsFilled segments → all_chunks (grown segments c) ≡ all_chunks segments ++ c ∷ []
grown_all [] c filled = absurd filled
grown_all (x ∷ older) c filled = by (leb 262144 (length (segment_of x.chunks)))
  where
    by : (b : Bool) → all_chunks (if b then record { number = c.first; chunks = c ∷ [] } ∷ x ∷ older else record { number = x.number; chunks = x.chunks ++ c ∷ [] } ∷ older) ≡ (all_chunks older ++ x.chunks) ++ c ∷ []
    by true = refl
    by false = sym (append_assoc (all_chunks older) x.chunks (c ∷ []))

pub after_backed : (job : Job) (store now : StoreInHand) (chunks : List Chunk) (s t : DiskState) (backed : BackedStore store chunks s) → StandsAfter job backed.segments now t → BackedStore now (log_after job chunks) t
after_backed (Write c) store now chunks s t backed after = record {
  segments = grown backed.segments c;
  stands = after;
  are = grown_all backed.segments c backed.stands.log.filled ∙ ap (λ (l : List Chunk). l ++ c ∷ []) backed.are;
}
after_backed (Cut end) store now chunks s t backed after = record {
  segments = after.0;
  stands = after.1;
  are = after.2 ∙ ap (λ (l : List Chunk). cut_at end l) backed.are;
}
after_backed (Promise epoch) store now chunks s t backed after = record { segments = backed.segments; stands = after; are = backed.are }
after_backed (Epoch epoch) store now chunks s t backed after = record { segments = backed.segments; stands = after; are = backed.are }

pub after_log : (store : StoreInHand) (stream : ℕ) (chunks : List Chunk) (t : DiskState) → store.stream ≡ stream → BackedStore store chunks t → EachLog stream (λ log. log ≡ chunks) t
after_log store stream chunks t same backed = subst (λ (n : ℕ). EachLog n (λ log. log ≡ chunks) t) same (backed_holds store chunks t backed).log

pub after_promise : (store : StoreInHand) (stream promised : ℕ) (chunks : List Chunk) (t : DiskState) → store.stream ≡ stream → promise_of store ≡ promised → BackedStore store chunks t → EachPromise stream (λ word. word ≡ promised) t
after_promise store stream promised chunks t same is backed = subst (λ (n : ℕ). EachPromise n (λ word. word ≡ promised) t) same (λ files left. (backed_holds store chunks t backed).promise files left ∙ is)
