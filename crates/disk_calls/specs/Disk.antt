-- What the calls of a disk do to its files, and what a crash may leave of them.
use Rattle.std.specs.Prelude.{◌≡◌, ◌≢◌, ℕ, ◌+◌, ◌-◌, ◌^◌, ◌≤◌, min, max, List, [], ◌++◌, length, take, drop, Option, Some, None, Result, Ok, Err}
use Rattle.std.specs.List.{slice_get}
use Rattle.std.specs.declared.alloc.AllocError.{AllocError}
pub use Rattle.byte_pieces.specs.Over.{over}
use Rattle.disk_calls.specs.declared.file_id.FileId.{FileId}
use Rattle.disk_calls.specs.declared.disk.DiskSize.{DiskSize}
use Rattle.disk_calls.specs.declared.disk.DiskSize.TheVariants as size
use Rattle.disk_calls.specs.declared.disk.DiskNames.{DiskNames}
use Rattle.disk_calls.specs.declared.disk.DiskNames.TheVariants as names

-- a file, or none
abbrev pub Image : Type 0
Image = Option (List ℕ)

-- the bytes of a file, none where it is missing
abbrev pub bytes_of : Image → List ℕ
bytes_of None = []
bytes_of (Some bytes) = bytes

abbrev pub IsThere : Image → Type 0
IsThere None = ⊥
IsThere (Some bytes) = Unit {0}

-- what a read gives of each file, the images that a crash may leave of it, and the count of faults
pub record DiskState : Type 1 where
  pub seen : FileId → Image
  pub images : FileId → Image → Type 0
  pub faults : ℕ

-- the count rose, or stands at its end
abbrev pub Rose : ℕ → ℕ → Type 0
Rose before now = min (before + 1) (2 ^ 64 - 1) ≤ now

-- the count of faults never falls, and it rose where the call failed
pub record HasCause (Failed : Type 0) (old new : DiskState) : Type 0 where
  pub later : old.faults ≤ new.faults
  pub failed : Failed → Rose old.faults new.faults

-- nothing that a read gives changes, and no image comes
pub record Looks (old new : DiskState) : Type 0 where
  pub seen : (f : FileId) → new.seen f ≡ old.seen f
  pub images : (f : FileId) (c : Image) → new.images f c → old.images f c

-- the files but this one stay
pub record Elsewhere (id : FileId) (old new : DiskState) : Type 0 where
  pub seen : (f : FileId) → f ≢ id → new.seen f ≡ old.seen f
  pub images : (f : FileId) → f ≢ id → (c : Image) → new.images f c → old.images f c

-- each image of this file is one from before after a step, and the other files stay
pub record Changes (id : FileId) (step : Image → Image → Type 0) (old new : DiskState) : Type 0 where
  pub own : (c : Image) → new.images id c → (d : Image) × old.images id d × step d c
  pub others : Elsewhere id old new

-- a crash leaves this and nothing else
abbrev pub Only : Image → (Image → Type 0) → Type 0
Only file images = (c : Image) → images c → c ≡ file

-- a write of n bytes at a place that a crash cuts short: any bytes in the range and past the old end up to the range's end, and any end there; the others stay
pub record Torn (at n : ℕ) (old new : List ℕ) : Type 0 where
  pub before : take (min at (length old)) new ≡ take at old
  pub after : drop (at + n) new ≡ drop (at + n) old
  pub no_shorter : length old ≤ length new
  pub no_longer : length new ≤ max (length old) (at + n)

-- the same of a file that may be missing, and may still be so
abbrev pub TornFile : ℕ → ℕ → Image → Image → Type 0
TornFile at n old (Some new) = Torn at n (bytes_of old) new
TornFile at n None None = Unit {0}
TornFile at n (Some old) None = ⊥

-- a cut to a size: the old bytes to a size between
pub record CutShort (size : ℕ) (old new : List ℕ) : Type 0 where
  pub no_shorter : min size (length old) ≤ length new
  pub front : new ≡ take (length new) old

abbrev pub CutFile : ℕ → Image → Image → Type 0
CutFile size (Some old) (Some new) = CutShort size old new
CutFile size None None = Unit {0}
CutFile size old new = ⊥

-- a removal, which has happened or not
abbrev pub RemovedFile : Image → Image → Type 0
RemovedFile old None = Unit {0}
RemovedFile old (Some new) = old ≡ Some new

-- the size that is told of a file
abbrev pub Sizes : Image → DiskSize → Type 0
Sizes file (size.Size n) = (bytes : List ℕ) × (file ≡ Some bytes) × (n ≡ length bytes)
Sizes file size.Missing = file ≡ None
Sizes file size.Failed = Unit {0}

-- the files of a stream that are there, each once, and no others
pub record AreNames (stream : ℕ) (seen : FileId → Image) (found : List FileId) : Type 0 where
  pub each : (f : FileId) → f.stream ≡ stream → IsThere (seen f) → (i : ℕ) × (slice_get found i ≡ Some f)
  pub only : (i : ℕ) (f : FileId) → slice_get found i ≡ Some f → (f.stream ≡ stream) × IsThere (seen f)
  pub once : (i j : ℕ) (f : FileId) → slice_get found i ≡ Some f → slice_get found j ≡ Some f → i ≡ j

abbrev pub Names : ℕ → (FileId → Image) → Result DiskNames AllocError → Type 0
Names stream seen (Ok (names.Names found)) = AreNames stream seen found
Names stream seen (Ok names.Failed) = Unit {0}
Names stream seen (Err none) = Unit {0}

-- A crash took one image of each file of a stream: what a read then gives was one of the images, and is the one that is left. The other streams stay.
pub record LeftByCrash (stream : ℕ) (old new : DiskState) : Type 0 where
  pub own : (f : FileId) → f.stream ≡ stream → old.images f (new.seen f) × Only (new.seen f) (new.images f)
  pub others : (f : FileId) → f.stream ≢ stream → (new.seen f ≡ old.seen f) × ((c : Image) → new.images f c → old.images f c)
  pub faults : new.faults ≡ old.faults

-- the file is there with these bytes, all of it on the disk
pub record Settled (id : FileId) (bytes : List ℕ) (s : DiskState) : Type 0 where
  pub seen : s.seen id ≡ Some bytes
  pub only : Only (Some bytes) (s.images id)

-- these bytes and at most n more
abbrev pub Longer : List ℕ → ℕ → Image → Type 0
Longer bytes n c = (e : List ℕ) × (c ≡ Some (bytes ++ e)) × (length e ≤ n)

-- these bytes to a size from n on
abbrev pub Shorter : List ℕ → ℕ → Image → Type 0
Shorter bytes n c = (k : ℕ) × (c ≡ Some (take k bytes)) × (n ≤ k)
