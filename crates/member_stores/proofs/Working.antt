-- A store is given a job.
use Rattle.std.proofs.Common.{◌≡◌, inl, inr, ℕ, List, Bool, true, false, Option, Some, None, Result, Ok, Err, OnOk, IfSome, refl, sym, ap, ◌∙◌, subst}
use Rattle.disk_calls.specs.Disk.{DiskState}
use Rattle.disk_calls.specs.Frames.{OtherStreams}
use Rattle.chunk_format.specs.declared.chunk.Chunk.{Chunk}
use Rattle.epoch_coordinator.specs.declared.message.Job.{Job}
use Rattle.segment_store.specs.Receipts.{JobDone}
use Rattle.segment_store.specs.Stores.{StoreInHand, BackedStore, EndsRise, SameKeeper}
use Rattle.segment_store.proofs.Lasting.{backed_rise}
use Rattle.segment_store.specs.declared.fault.StoreFault.TheVariants as faults
use Rattle.member_stores.specs.declared.fault.WorkFault.{WorkFault}
use Rattle.member_stores.specs.declared.fault.WorkFault.TheVariants.{NoStore, Apart, Store}
use Rattle.member_stores.specs.declared.shelf.Shelf.{Shelf}
use Rattle.member_stores.specs.Works.{Asked, asked, receipt_of, IsUndone, IsToDo, Suits, Works, HandsOut, ShelfGives, UnlessBroken, JobStands}

pub clash : (b : Bool) → b ≡ true → b ≡ false → ⊥
clash true t f = cc f
clash false t f = cc t

-- over a disk that is what is in hand a job that suits is found to
pub found_apart : (a : Asked) (store : StoreInHand) (chunks : List Chunk) (s : DiskState) (found : Bool) → (EndsRise store.log.rows → Suits a store → found ≡ true) → found ≡ false → BackedStore store chunks s → Suits a store → ⊥
found_apart a store chunks s found all is backed suits = clash found (all (backed_rise store chunks s backed) suits) is

pub receipt_is : (a : Asked) (r : JobDone) (store : StoreInHand) → Suits a store → r.stream ≡ store.stream → r.member ≡ store.member → r.number ≡ a.number → r ≡ receipt_of a
receipt_is a r store suits stream member number =
    ap (λ (n : ℕ). record { stream = n; member = r.member; number = r.number }) (stream ∙ suits.stream)
    ∙ ap (λ (n : ℕ). record { stream = a.stream; member = n; number = r.number }) (member ∙ suits.member)
    ∙ ap (λ (n : ℕ). record { stream = a.stream; member = a.member; number = n }) number

-- the store of a shelf becomes another, and what is kept stays
abbrev with_store : StoreInHand → Shelf → Shelf
with_store store on = record { store = store; kept = on.kept }

pub works : (a : Asked) (old : Shelf) (store : StoreInHand) → IsUndone a old → Suits a old.store → SameKeeper old.store store → Works a old (with_store store old)
works a old store undone suits keeper = record { undone = undone; suits = suits; keeper = keeper; kept = refl }

pub streams_are : (stream : ℕ) (a : Asked) (store : StoreInHand) (s t : DiskState) → Suits a store → OtherStreams store.stream s t → OtherStreams a.stream s t
streams_are stream a store s t suits others = subst (λ (n : ℕ). OtherStreams n s t) suits.stream others

-- unless it is broken, the disk is what is in hand of the store
pub stays_backed : {D : Type 0} (state : D → DiskState) (a : Asked) (r : Result JobDone WorkFault) (old new : Shelf) (d e : D)
    → (chunks : List Chunk) → BackedStore old.store chunks (state d)
    → ((chunks : List Chunk) → BackedStore old.store chunks (state d) → OnOk r (JobStands a.job old.store new.store chunks (state e)))
    → (r ≡ Err Apart → e ≡ d) → (r ≡ Err (Store faults.Memory) → (new ≡ old) × (e ≡ d)) → ShelfGives a r old new
    → UnlessBroken r ((chunks : List Chunk) × BackedStore new.store chunks (state e))
stays_backed state a (Ok receipt) old new d e chunks backed stands apart memory gives = (_, (stands chunks backed).backed)
stays_backed state a (Err NoStore) old new d e chunks backed stands apart memory gives = absurd gives
stays_backed {D} state a (Err Apart) old new d e chunks backed stands apart memory gives =
    (chunks, subst (λ (x : D). BackedStore new.store chunks (state x)) (sym (apart refl)) (subst (λ (x : Shelf). BackedStore x.store chunks (state d)) (sym gives.1) backed))
stays_backed {D} state a (Err (Store faults.Memory)) old new d e chunks backed stands apart memory gives =
    (chunks, subst (λ (x : D). BackedStore new.store chunks (state x)) (sym (memory refl).1) (subst (λ (x : Shelf). BackedStore x.store chunks (state d)) (sym (memory refl).0) backed))
stays_backed state a (Err (Store faults.Disk)) old new d e chunks backed stands apart memory gives = tt
stays_backed state a (Err (Store (faults.Damaged segment at))) old new d e chunks backed stands apart memory gives = tt
stays_backed state a (Err (Store (faults.DamagedWords place))) old new d e chunks backed stands apart memory gives = tt

-- what holds of one that is there holds of the other
pub for_it : (P : Shelf → Type 0) (o : Option Shelf) (x y : Shelf) → o ≡ Some x → o ≡ Some y → P x → P y
for_it P o x y is at p = subst P (cc (is, at)) p

pub on_new : (P : Shelf → Type 0) (r : Result JobDone WorkFault) (o o' : Option Shelf) → o' ≡ o → OnOk r (IfSome o P) → OnOk r (IfSome o' P)
on_new P r o o' is h = subst (λ (x : Option Shelf). OnOk r (IfSome x P)) (sym is) h
