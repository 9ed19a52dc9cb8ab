-- What a program has in hand of a catalog, and how it belongs to the files on a disk that a crash may stop.
use Rattle.std.specs.Prelude.{◌≡◌, ◌≢◌, ◌⊎◌, ℕ, Bool, not, IsTrue, List, [], ◌∷◌, ◌++◌, length, filter, Result, Ok, Err, if◌then◌else◌}
use Rattle.std.specs.Prelude.{OnOk, OnErr, IfOk, IfErr, IsErr}
use Rattle.disk_calls.specs.declared.file_id.FileId.{FileId}
use Rattle.disk_calls.specs.Disk.{DiskState, Image, bytes_of}
use Rattle.disk_calls.specs.Frames.{Holds}
use Rattle.gated_words.specs.InHand.{InHand}
use Rattle.gated_words.specs.Backing.{Backs}
use Rattle.gated_words.specs.Files.{Opens, PairsOf, Damages, second_file}
use Rattle.stream_catalog.specs.declared.change.Change.{Change}
use Rattle.stream_catalog.specs.declared.fault.CatalogFault.{CatalogFault}
use Rattle.stream_catalog.specs.declared.fault.CatalogFault.TheVariants as fault
use Rattle.stream_catalog.specs.Names.{Names, streams, is_live}
use Rattle.stream_catalog.specs.Rules.{changed, numbers_gone}
use Rattle.stream_catalog.specs.Files.{CatalogFiles, Leaves, seen_files, catalog_of, names_in, bytes_id, words_id}

-- the names, the limit of live streams, the pairs, the length of the file of changes, whether each image of the files is known to be these, and the streams that came and went when the files were read again
pub record Catalogued : Type 0 where
  pub names : Names
  pub limit : ℕ
  pub words : InHand
  pub len : ℕ
  pub sure : Bool
  pub came : List ℕ
  pub went : List ℕ

-- the live streams of one catalog that aren't live in another
abbrev pub streams_without : Names → Names → List ℕ
streams_without others names = filter (λ n. not (is_live n others)) (streams names)

-- this holds of each image that a crash may leave of the files
abbrev pub EachCatalog : (CatalogFiles → Type 0) → DiskState → Type 0
EachCatalog P s = (files : CatalogFiles) → Leaves s files → P files

-- each image can be read, as these names
pub record Shows (names : Names) (files : CatalogFiles) : Type 0 where
  pub opens : Opens files.words
  pub reads : catalog_of files ≡ Ok names

-- each image can be read, as these names or those after a change
abbrev pub ShowsOr : Names → Change → CatalogFiles → Type 0
ShowsOr names change files = Shows names files ⊎ Shows (changed change names) files

-- files with these pairs, and with these bytes, all of them on the disk, stand for these names
pub record KnownFiles (names : Names) (words : InHand) (len : ℕ) (s : DiskState) : Type 0 where
  pub bytes : List ℕ
  pub holds : Holds bytes_id bytes s
  pub is_len : len ≡ length bytes
  pub backs : Backs words s
  pub words_sure : IsTrue words.sure
  pub id : words.id ≡ words_id
  pub reads : names_in bytes words.pairs ≡ Ok names

abbrev pub Known : Catalogued → DiskState → Type 0
Known c s = KnownFiles c.names c.words c.len s

-- The files are ones that the catalog in hand may stand for. Where it is sure they are known. Else each image can be read, as its names or those after the change that failed.
pub record Backed (c : Catalogued) (s : DiskState) : Type 0 where
  pub known : IsTrue c.sure → Known c s
  pub near : (failed : Change) × EachCatalog (ShowsOr c.names failed) s

-- ---- what calls do to the images

-- files with the catalog of others, which can be opened where those can
pub record SameCatalog (old new : CatalogFiles) : Type 0 where
  pub names : catalog_of new ≡ catalog_of old
  pub opens : Opens old.words → Opens new.words

-- each image has the catalog of one from before
abbrev pub KeepsCatalog : DiskState → DiskState → Type 0
KeepsCatalog old new = EachCatalog (λ files. (before : CatalogFiles) × Leaves old before × SameCatalog before files) new

-- the catalog of files, or that after the change that is asked of it, where one happens
pub record AfterAsked (ask : Names → Result Change CatalogFault) (old new : CatalogFiles) : Type 0 where
  pub names : Names
  pub change : Change
  pub before : catalog_of old ≡ Ok names
  pub asked : ask names ≡ Ok change
  pub shows : Shows (changed change names) new

-- each image has the catalog of one from before, or that after the change
abbrev pub MayChange : (Names → Result Change CatalogFault) → DiskState → DiskState → Type 0
MayChange ask old new = EachCatalog (λ files. (before : CatalogFiles) × Leaves old before × (SameCatalog before files ⊎ AfterAsked ask before files)) new

-- the files but the three of the catalog stay
pub record OtherFiles (old new : DiskState) : Type 0 where
  pub seen : (f : FileId) → f ≢ words_id → f ≢ second_file words_id → f ≢ bytes_id → new.seen f ≡ old.seen f
  pub images : (f : FileId) → f ≢ words_id → f ≢ second_file words_id → f ≢ bytes_id → (c : Image) → new.images f c → old.images f c

-- files that are damaged, and where: those of the pairs, or else the first pair that is no change that fits
abbrev pub DamagesCatalog : ℕ → CatalogFiles → Type 0
DamagesCatalog place files = Damages place files.words ⊎ (Opens files.words × (catalog_of files ≡ Err place))

-- the disk failed, or memory ran out
abbrev pub IsDiskFault : CatalogFault → Type 0
IsDiskFault fault.Missing = ⊥
IsDiskFault fault.Exists = ⊥
IsDiskFault (fault.Refused why) = ⊥
IsDiskFault fault.Disk = Unit {0}
IsDiskFault (fault.Damaged place) = ⊥
IsDiskFault fault.Memory = Unit {0}

-- ---- what a change answers

-- the names with which a change begins: those in hand, or where they aren't sure those that a read gives
abbrev pub begins : Catalogued → DiskState → Result Names ℕ
begins c s = if c.sure then Ok c.names else catalog_of (seen_files s)

-- By the rules over the names with which it begins: the change that happens, which is told so, or why none does. After a failed disk and for want of memory nothing is said here.
abbrev pub Answers : {X : Type 0} → (Names → Change → X → Type 0) → (Names → Result Change CatalogFault) → Names → Result X CatalogFault → Names → Type 0
Answers Tells ask names (Ok x) after = (change : Change) × (ask names ≡ Ok change) × Tells names change x × (after ≡ changed change names)
Answers Tells ask names (Err fault.Missing) after = (ask names ≡ Err fault.Missing) × (after ≡ names)
Answers Tells ask names (Err fault.Exists) after = (ask names ≡ Err fault.Exists) × (after ≡ names)
Answers Tells ask names (Err (fault.Refused why)) after = (ask names ≡ Err (fault.Refused why)) × (after ≡ names)
Answers Tells ask names (Err fault.Disk) after = Unit {0}
Answers Tells ask names (Err (fault.Damaged place)) after = ⊥
Answers Tells ask names (Err fault.Memory) after = Unit {0}

-- a change is told by its number, and that of a super stream that goes by the numbers that go
abbrev pub TellsNumber : Names → Change → ℕ → Type 0
TellsNumber names change number = number ≡ change.number

abbrev pub TellsGone : Names → Change → List ℕ → Type 0
TellsGone names change numbers = numbers ≡ numbers_gone change names

-- the streams that came and went where the files were read again: none where the catalog was sure
abbrev pub came_in : Catalogued → Names → List ℕ
came_in old names = if old.sure then [] else streams_without old.names names

abbrev pub went_in : Catalogued → Names → List ℕ
went_in old names = if old.sure then [] else streams_without names old.names

-- Files that were to be read again were: what came and went is in hand. Or the disk failed in that, or memory ran out; then the names are the old ones, and nothing is known of what came and went.
abbrev pub Found : {X : Type 0} → Catalogued → Names → Result X CatalogFault → Catalogued → Type 0
Found old names result new = ((new.came ≡ came_in old names) × (new.went ≡ went_in old names)) ⊎ (IfErr result IsDiskFault × IsErr result × (new.names ≡ old.names) × (new.came ≡ []) × (new.went ≡ []))

-- What a call does that asks for a change: whatever it answers, each image has the catalog of one from before, or that after the change. It answers by the rules over the names with which it begins. After Ok each image shows the names in hand; after an error they are those from the beginning, or the old ones. What the files were found to have, where they were read again, is in hand.
pub record Does {X : Type 0} (Tells : Names → Change → X → Type 0) (ask : Names → Result Change CatalogFault) (old new : Catalogued) (result : Result X CatalogFault) (s t : DiskState) : Type 0 where
  pub images : MayChange ask s t
  pub backed : Backed new t
  pub answers : (names : Names) → begins old s ≡ Ok names → Answers Tells ask names result new.names
  pub kept : (names : Names) → begins old s ≡ Ok names → OnErr result ((new.names ≡ names) ⊎ (new.names ≡ old.names))
  pub only : OnOk result (EachCatalog (Shows new.names) t)
  pub found : (names : Names) → begins old s ≡ Ok names → Found old names result new
  pub limit : new.limit ≡ old.limit

-- the catalog is not read: the disk failed, the files are damaged, or memory ran out
abbrev pub IsOpenFault : CatalogFault → Type 0
IsOpenFault fault.Missing = ⊥
IsOpenFault fault.Exists = ⊥
IsOpenFault (fault.Refused why) = ⊥
IsOpenFault fault.Disk = Unit {0}
IsOpenFault (fault.Damaged place) = Unit {0}
IsOpenFault fault.Memory = Unit {0}

-- one pair more, and the bytes of its change, or only some bytes more
pub record MayRecord (pairs : List (ℕ × ℕ)) (base bytes : List ℕ) (files : CatalogFiles) : Type 0 where
  pub opens : Opens files.words
  pub same : ((PairsOf files.words ≡ pairs) × ((e : List ℕ) × (bytes_of files.bytes ≡ base ++ e))) ⊎ ((PairsOf files.words ≡ pairs ++ (length base, length bytes) ∷ []) × (bytes_of files.bytes ≡ base ++ bytes))

-- ---- steps of a call

-- the files were read again where they weren't sure
pub record ReadAgain (old new : Catalogued) (result : Result (Unit {0}) CatalogFault) (s t : DiskState) : Type 0 where
  pub images : KeepsCatalog s t
  pub backed : Backed new t
  pub limit : new.limit ≡ old.limit
  pub sure : OnOk result (IsTrue new.sure)
  pub names : OnOk result (begins old s ≡ Ok new.names)
  pub came : OnOk result (new.came ≡ came_in old new.names)
  pub went : OnOk result (new.went ≡ went_in old new.names)
  pub err : OnErr result ((new.names ≡ old.names) × (new.came ≡ []) × (new.went ≡ []))
  pub fault : IfErr result IsDiskFault

-- a change was written and made, or not
pub record Applied {X : Type 0} (change : Change) (names after : Names) (words : InHand) (len : ℕ) (sure : Bool) (result : Result X CatalogFault) (t : DiskState) : Type 0 where
  pub images : EachCatalog (ShowsOr names change) t
  pub known : IsTrue sure → KnownFiles after words len t
  pub ok : OnOk result ((after ≡ changed change names) × IsTrue sure)
  pub err : OnErr result (after ≡ names)
  pub fault : IfErr result IsDiskFault

-- a change was made in a catalog whose files are known
pub record Made (change : Change) (old new : Catalogued) (result : Result ℕ CatalogFault) (t : DiskState) : Type 0 where
  pub applied : Applied change old.names new.names new.words new.len new.sure result t
  pub number : IfOk result (λ n. n ≡ change.number)
  pub came : new.came ≡ old.came
  pub went : new.went ≡ old.went
  pub limit : new.limit ≡ old.limit
