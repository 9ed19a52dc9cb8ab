-- Which files stay, and files of which every image is known.
use Rattle.std.specs.Prelude.{◌≡◌, ◌≢◌, ℕ, ◌≤◌, List, ◌++◌, length, None}
use Rattle.disk_calls.specs.declared.file_id.FileId.{FileId}
use Rattle.disk_calls.specs.Disk.{DiskState, Image, Only, bytes_of}

-- the files but these two stay
pub record Besides (one two : FileId) (old new : DiskState) : Type 0 where
  pub seen : (f : FileId) → f ≢ one → f ≢ two → new.seen f ≡ old.seen f
  pub images : (f : FileId) → f ≢ one → f ≢ two → (c : Image) → new.images f c → old.images f c

-- the files of the other streams stay
pub record OtherStreams (stream : ℕ) (old new : DiskState) : Type 0 where
  pub seen : (f : FileId) → f.stream ≢ stream → new.seen f ≡ old.seen f
  pub images : (f : FileId) → f.stream ≢ stream → (c : Image) → new.images f c → old.images f c

-- a file stays: a read gives what it gave, and no image comes
pub record FileStays (id : FileId) (old new : DiskState) : Type 0 where
  pub seen : new.seen id ≡ old.seen id
  pub images : (c : Image) → new.images id c → old.images id c

-- this holds of each image that a crash may leave of a file
abbrev pub EachImage : FileId → (Image → Type 0) → DiskState → Type 0
EachImage id P s = (c : Image) → s.images id c → P c

-- a file that is missing, or has at most so many bytes
abbrev pub AtMost : ℕ → Image → Type 0
AtMost most c = length (bytes_of c) ≤ most

-- a file that a read shows as missing has no image of more than 8 bytes, which is a header
abbrev pub NoneLost : FileId → DiskState → Type 0
NoneLost id s = s.seen id ≡ None → EachImage id (AtMost 8) s

-- the file is missing, and no crash brings it back
pub record Gone (id : FileId) (s : DiskState) : Type 0 where
  pub seen : s.seen id ≡ None
  pub only : Only None (s.images id)

-- the file has these bytes, all of them on the disk; one of no bytes may be missing
pub record Holds (id : FileId) (bytes : List ℕ) (s : DiskState) : Type 0 where
  pub seen : bytes_of (s.seen id) ≡ bytes
  pub each : EachImage id (λ c. bytes_of c ≡ bytes) s

-- a file of these bytes and at most n more; one of no bytes may be missing
abbrev pub LongerBytes : List ℕ → ℕ → Image → Type 0
LongerBytes bytes n c = (e : List ℕ) × (bytes_of c ≡ bytes ++ e) × (length e ≤ n)
