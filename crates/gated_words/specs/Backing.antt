-- How two files of gated pairs and the pairs in hand belong together, on a disk that a crash may stop.
use Rattle.std.specs.Prelude.{◌≡◌, ◌⊎◌, ℕ, List, [], ◌∷◌, ◌++◌, IsTrue, Result, IsErrOf}
use Rattle.disk_calls.specs.declared.file_id.FileId.{FileId}
use Rattle.disk_calls.specs.Disk.{DiskState, Settled}
use Rattle.disk_calls.specs.Frames.{Gone}
use Rattle.gated_words.specs.declared.fault.GateFault.{GateFault}
use Rattle.gated_words.specs.declared.fault.GateFault.TheVariants as fault
use Rattle.gated_words.specs.declared.record.Form.TheVariants as form
use Rattle.gated_words.specs.Words.{spelled, AllFit}
use Rattle.gated_words.specs.Files.{Files, HasSecond, Leaves, Opens, PairsOf, second_file}
use Rattle.gated_words.specs.InHand.{InHand}

-- each image that a crash may leave of the two files
abbrev pub EachBoth : FileId → (Files → Type 0) → DiskState → Type 0
EachBoth id P s = (files : Files) → Leaves id s files → P files

-- each image has these pairs
abbrev pub EachHas : FileId → List (ℕ × ℕ) → DiskState → Type 0
EachHas id pairs s = EachBoth id (λ files. PairsOf files ≡ pairs) s

-- these pairs, or these and the new one
abbrev pub OrNew : List (ℕ × ℕ) → ℕ × ℕ → List (ℕ × ℕ) → Type 0
OrNew old new pairs = (pairs ≡ old) ⊎ (pairs ≡ old ++ new ∷ [])

-- an image that can be opened, with these pairs, or these and the new one
pub record AtMostNew (old : List (ℕ × ℕ)) (new : ℕ × ℕ) (files : Files) : Type 0 where
  pub opens : Opens files
  pub pairs : OrNew old new (PairsOf files)

-- an image with the pairs of another, which can be opened where that one can
pub record SamePairs (old new : Files) : Type 0 where
  pub pairs : PairsOf new ≡ PairsOf old
  pub opens : Opens old → Opens new

-- each image has the pairs of one from before
abbrev pub KeepsPairs : FileId → DiskState → DiskState → Type 0
KeepsPairs id old new = EachBoth id (λ files. (before : Files) × Leaves id old before × SamePairs before files) new

-- each image has the pairs of one from before, or those and the new one
abbrev pub MayAdd : FileId → ℕ × ℕ → DiskState → DiskState → Type 0
MayAdd id pair old new = EachBoth id (λ files. (before : Files) × Leaves id old before × AtMostNew (PairsOf before) pair files) new

-- the second file is these pairs and nothing else, all of it on the disk, and the first is gone
pub record Held (id : FileId) (pairs : List (ℕ × ℕ)) (s : DiskState) : Type 0 where
  pub gone : Gone id s
  pub settled : Settled (second_file id) (spelled form.Second pairs) s
  pub fit : AllFit pairs

-- The files are ones that pairs in hand may stand for. Where they are sure the second is those pairs and nothing else, all of it on the disk, and the first is gone. Else each image can be opened, and has those pairs, or those and the one that a put failed to add.
pub record Backs (hand : InHand) (s : DiskState) : Type 0 where
  pub second : HasSecond hand.id
  pub held : IsTrue hand.sure → Held hand.id hand.pairs s
  pub near : (pair : ℕ × ℕ) × EachBoth hand.id (AtMostNew hand.pairs pair) s

-- the one answer to files that are damaged at this place, but for a disk that fails and for want of memory
abbrev pub TellsDamage : {A : Type 0} → ℕ → Result A GateFault → Type 0
TellsDamage place result = IsErrOf result (fault.Damaged place) ⊎ (IsErrOf result fault.Disk ⊎ IsErrOf result fault.Memory)
