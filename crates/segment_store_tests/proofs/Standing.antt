-- A store over a disk in memory whose settings change, and files that are missing there.
use Rattle.std.proofs.Common.{◌≡◌, ◌≢◌, inl, inr, ℕ, List, [], ◌∷◌, ◌++◌, take, Option, Some, None, Result, Ok, Err, refl, sym, ◌∙◌, ap, subst}
use Rattle.std.proofs.lemmas.Bool.{cases_eq}
use Rattle.std.specs.Prelude.{OnOk, OnErr, IfOk}
use Rattle.std.specs.BTreeMap.{BTreeMap}
use Rattle.std.specs.declared.alloc.AllocError.{AllocError}
use Rattle.disk_calls.specs.declared.file_id.FileId.{FileId}
use Rattle.disk_calls.specs.declared.file_id.FileName.{FileName}
use Rattle.disk_calls.specs.Disk.{DiskState, Image, Looks, bytes_of, over}
use Rattle.disk_calls.specs.Frames.{FileStays}
use Rattle.chunk_format.specs.declared.chunk.Chunk.{Chunk}
use Rattle.member_disk.specs.declared.memory_stream.MemoryStream.{MemoryStream}
use Rattle.memory_file.specs.Memory.{Held, ImageOf, TearsAll, all_done, seen_of}
use Rattle.memory_file.specs.declared.file.Call.{Call}
use Rattle.memory_file.specs.declared.file.Call.TheVariants as call
use Rattle.member_disk.specs.Streams.{Stream, Stays}
use Rattle.member_disk.specs.MemoryDisks.{OnStream, files_in, held_in, state_of}
use Rattle.gated_words.specs.InHand.{InHand}
use Rattle.gated_words.specs.Files.{second_file}
use Rattle.gated_words.specs.Backing.{Backs}
use Rattle.gated_words.proofs.Hands.{stays_backs}
use Rattle.epoch_coordinator.specs.declared.message.Job.{Job}
use Rattle.segment_pairs.specs.Held.{index_file}
use Rattle.segment_store.specs.Recovery.{NoneReturns}
use Rattle.segment_store.specs.Stores.{BackedStore, StoreInHand, log_after}
use Rattle.segment_store_tests.specs.Backed.{IsBacked}

-- ---- settings

held_same : (n : ℕ) (old new : BTreeMap ℕ MemoryStream) → ((f : FileName) → (files_in new n).held f ≡ (files_in old n).held f) → ((k : ℕ) → k ≢ n → files_in new k ≡ files_in old k) → (f : FileId) → held_in new f ≡ held_in old f
held_same n old new own elsewhere f = elim (cases_eq f.stream n) [
  | inl same ↦ ap (λ (k : ℕ). (files_in new k).held f.file) same ∙ own f.file ∙ sym (ap (λ (k : ℕ). (files_in old k).held f.file) same)
  | inr other ↦ ap (λ (s : Stream). s.held f.file) (elsewhere f.stream other)
]

same_looks : (old new : BTreeMap ℕ MemoryStream) (before after : ℕ) → ((f : FileId) → held_in new f ≡ held_in old f) → Looks (state_of old before) (state_of new after)
same_looks old new before after same = record {
  seen = λ f. ap seen_of (same f);
  images = λ f c left. subst (λ (h : Held). ImageOf h c) (same f) left;
}

-- a setting leaves the files, whether there was memory for it or not
pub set_looks : (n : ℕ) (settings : Stream → List ℕ) (old new : BTreeMap ℕ MemoryStream) (before after : ℕ) (result : Result (Unit {0}) AllocError)
    → OnOk result (OnStream n (λ s t. Stays (record { held = s.held; order = s.order; settings = settings s }) t) old new) → OnErr result (OnStream n Stays old new) → Looks (state_of old before) (state_of new after)
set_looks n settings old new before after (Ok u) ok err = same_looks old new before after (held_same n old new ok.own.held ok.elsewhere)
set_looks n settings old new before after (Err e) ok err = same_looks old new before after (held_same n old new err.own.held err.elsewhere)

file_stays : (s t : DiskState) → Looks s t → (f : FileId) → FileStays f s t
file_stays s t looks f = record { seen = looks.seen f; images = looks.images f }

pub looks_backs : (hand : InHand) (s t : DiskState) → Looks s t → Backs hand s → Backs hand t
looks_backs hand s t looks backs = stays_backs hand s t (file_stays s t looks hand.id) (file_stays s t looks (second_file hand.id)) backs

pub looks_backed : (store : StoreInHand) (s t : DiskState) → ((chunks : List Chunk) → BackedStore store chunks s → BackedStore store chunks t) → IsBacked store s → IsBacked store t
looks_backed store s t stays (chunks, backed) = (chunks, stays chunks backed)

-- ---- what a job and recovery leave

pub found_backed : {R : Type 0} {E : Type 0} (result : Result R E) (store : R → StoreInHand) (chunks : R → List Chunk) (s : DiskState) → IfOk result (λ r. BackedStore (store r) (chunks r) s) → IfOk result (λ r. IsBacked (store r) s)
found_backed (Ok r) store chunks s backed = (chunks r, backed)
found_backed (Err e) store chunks s backed = backed

pub done_backed : {R : Type 0} {E : Type 0} (result : Result R E) (store : StoreInHand) (chunks : List Chunk) (s : DiskState) → OnOk result (BackedStore store chunks s) → OnOk result (IsBacked store s)
done_backed (Ok r) store chunks s backed = (chunks, backed)
done_backed (Err e) store chunks s backed = backed

-- ---- files that are missing

there_stays : (calls : List Call) (bytes : List ℕ) → all_done calls (Some bytes) ≡ None → ⊥
there_stays [] bytes e = absurd cc
there_stays (call.Write at v ∷ calls) bytes e = there_stays calls (over bytes at v) e
there_stays (call.Cut n ∷ calls) bytes e = there_stays calls (take n bytes) e

-- a file in memory that a read shows as missing has no other image
missing_only : (calls : List Call) (base : Image) → all_done calls base ≡ None → (c : Image) → TearsAll calls base c → c ≡ None
missing_only [] base none c is = is ∙ none
missing_only (call.Write at v ∷ calls) base none c torn = absurd (there_stays calls (over (bytes_of base) at v) none)
missing_only (call.Cut n ∷ calls) (Some bytes) none c torn = absurd (there_stays calls (take n bytes) none)
missing_only (call.Cut n ∷ calls) None none c (None, torn, rest) = missing_only calls None none c rest
missing_only (call.Cut n ∷ calls) None none c (Some bytes, torn, rest) = absurd torn

pub memory_returns : (stream : ℕ) (streams : BTreeMap ℕ MemoryStream) (faults : ℕ) → NoneReturns stream (state_of streams faults)
memory_returns stream streams faults n under segment_none index_none c left =
    let held = held_in streams (index_file stream n) in
    missing_only held.calls held.base index_none c left
