-- Files that stay as they are on the disk while others change.
use Rattle.std.proofs.Common.{◌≡◌, ◌≢◌, ℕ, List, ◌++◌, length, Some, refl, ◌∙◌, ap}
use Rattle.disk_calls.specs.Disk.{DiskState, Image, bytes_of, over, Changes, Looks, Only, Settled}
use Rattle.disk_calls.specs.declared.file_id.FileId.{FileId}
use Rattle.disk_calls.specs.declared.disk.DiskDid.{DiskDid}
use Rattle.disk_calls.specs.declared.disk.DiskDid.TheVariants as did
use Rattle.disk_calls.proofs.Chain.{settled_length, over_end, synced}

pub did_done : (d : DiskDid) → d ≢ did.Failed → d ≡ did.Done
did_done did.Done ne = refl
did_done did.Failed ne = absurd (ne refl)

pub place_of : (id : FileId) (s : DiskState) (place : ℕ) (a : List ℕ) → (base : List ℕ) × Settled id base s × (place ≡ length base) → Settled id a s → place ≡ length a
place_of id s place a (base, settled, is) other = is ∙ settled_length id s base a settled other

pub kept : (f id : FileId) (step : Image → Image → Type 0) (s t : DiskState) (a : List ℕ) → f ≢ id → Changes id step s t → Settled f a s → Settled f a t
kept f id step s t a ne changes settled = record {
  seen = changes.others.seen f ne ∙ settled.seen;
  only = λ c left. settled.only c (changes.others.images f ne c left);
}

pub kept_looks : (f : FileId) (s t : DiskState) (a : List ℕ) → Looks s t → Settled f a s → Settled f a t
kept_looks f s t a looks settled = record {
  seen = looks.seen f ∙ settled.seen;
  only = λ c left. settled.only c (looks.images f c left);
}

-- a write at the end of a file, and a sync, that were done
pub sure_after : (id : FileId) (s t u : DiskState) (a bytes : List ℕ) (place : ℕ) → Settled id a s → place ≡ length a → t.seen id ≡ Some (over (bytes_of (s.seen id)) place bytes) → Looks t u → Only (u.seen id) (u.images id) → Settled id (a ++ bytes) u
sure_after id s t u a bytes place settled end written looks only =
    let now : t.seen id ≡ Some (a ++ bytes) =
    written
    ∙ ap (λ (file : Image). Some (over (bytes_of file) place bytes)) settled.seen
    ∙ ap (λ (l : List ℕ). Some l) (over_end a bytes place end) in
    synced id s t u (a ++ bytes) now looks only
