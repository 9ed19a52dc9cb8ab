-- The files of a disk in memory, and which image of each a crash takes.
use Rattle.std.specs.Prelude.{◌≡◌, ℕ, ◌/◌, ◌^◌, ◌<◌, ◌≤◌, Bool, true, false, cond, List, [], ◌∷◌, ◌++◌, length, take, replicate, Option, Some, None}
use Rattle.disk_calls.specs.Disk.{Image, bytes_of, TornFile, CutFile, over}
use Rattle.memory_file.specs.declared.file.Call.{Call}
use Rattle.memory_file.specs.declared.file.Call.TheVariants as call

-- what a call that is done makes of a file
abbrev pub done : Call → Image → Image
done (call.Write place bytes) old = Some (over (bytes_of old) place bytes)
done (call.Cut size) None = None
done (call.Cut size) (Some bytes) = Some (take size bytes)

-- what calls that are done one after the other make of a file
abbrev pub all_done : List Call → Image → Image
all_done [] old = old
all_done (c ∷ calls) old = all_done calls (done c old)

-- what a crash may make of a call that no sync has followed
abbrev pub Tears : Call → Image → Image → Type 0
Tears (call.Write place bytes) old new = TornFile place (length bytes) old new
Tears (call.Cut size) old new = CutFile size old new

-- what a crash may make of calls, one after the other
abbrev pub TearsAll : List Call → Image → Image → Type 0
TearsAll [] old new = new ≡ old
TearsAll (c ∷ calls) old new = (mid : Image) × Tears c old mid × TearsAll calls mid new

-- a file: what the last sync left of it, and the calls since, in order
pub record Held : Type 0 where
  pub base : Image
  pub calls : List Call

-- what a read gives
abbrev pub seen_of : Held → Image
seen_of h = all_done h.calls h.base

-- what a crash may leave
abbrev pub ImageOf : Held → Image → Type 0
ImageOf h c = TearsAll h.calls h.base c

abbrev pub IsSizeOf : Image → Option ℕ → Type 0
IsSizeOf file None = file ≡ None
IsSizeOf file (Some size) = (bytes : List ℕ) × (file ≡ Some bytes) × (size ≡ length bytes) × (size < 2 ^ 63)

-- a file that is there as it is on the disk, or is missing there
abbrev pub sure : Image → Held
sure file = record { base = file; calls = [] }

-- a file of a map, missing where the map has none
abbrev pub held_at : Option Held → Held
held_at None = sure None
held_at (Some h) = h

abbrev pub with_call : Held → Call → Held
with_call h c = record { base = h.base; calls = h.calls ++ c ∷ [] }

abbrev pub has_write : List Call → Bool
has_write [] = false
has_write (call.Write place bytes ∷ calls) = true
has_write (call.Cut size ∷ calls) = has_write calls

-- a call; a write that no write follows has other bytes
abbrev pub torn_call : (List ℕ → List ℕ) → Call → Bool → Call
torn_call tear (call.Write place bytes) later = call.Write place (cond later bytes (tear bytes))
torn_call tear (call.Cut size) later = call.Cut size

-- the calls with other bytes in the last write
abbrev pub torn_last : (List ℕ → List ℕ) → List Call → List Call
torn_last tear [] = []
torn_last tear (c ∷ calls) = torn_call tear c (has_write calls) ∷ torn_last tear calls

-- the first half, rounded down
abbrev pub half : List ℕ → List ℕ
half bytes = take (length bytes / 2) bytes

abbrev pub all_a5 : List ℕ → List ℕ
all_a5 bytes = replicate (length bytes) 0xa5

-- The image of a file that a crash picks. IsLast says that the last write of the file's stream that no sync of its file has followed is in this file.
pub record IsCrashed (image : ℕ) (IsLast : Type 0) (old : Held) (new : Image) : Type 0 where
  pub none_happened : image ≡ 0 → new ≡ old.base
  pub all_happened : image ≡ 1 → new ≡ seen_of old
  pub last_is_elsewhere : 2 ≤ image → ¬ IsLast → new ≡ seen_of old
  pub half_of_last : image ≡ 2 → IsLast → new ≡ all_done (torn_last half old.calls) old.base
  pub other_bytes : image ≡ 3 → IsLast → new ≡ all_done (torn_last all_a5 old.calls) old.base

-- a file as a crash leaves it: the image that is picked, which is one of those that may be left
pub record CrashedFile (image : ℕ) (IsLast : Type 0) (old new : Held) : Type 0 where
  pub picked : IsCrashed image IsLast old new.base
  pub left : ImageOf old new.base
  pub sure : new.calls ≡ []
