-- A disk in memory: what its calls do to its streams, and when they fail.
use Rattle.std.specs.Prelude.{◌≡◌, ◌≢◌, ◌⊎◌, ◌≤◌, ℕ, Bool, true, false, List, Option, Some, None}
use Rattle.std.specs.Ordering.{nat_cmp}
use Rattle.std.specs.BTreeMap.{BTreeMap, get}
use Rattle.disk_calls.specs.Disk.{DiskState, Rose}
use Rattle.member_disk.specs.Counting.{risen}
use Rattle.memory_file.specs.Memory.{Held, ImageOf, seen_of}
use Rattle.member_disk.specs.Settings.{after_call}
use Rattle.member_disk.specs.Streams.{Stream, Moves, Stays, stream_of, no_files}
use Rattle.disk_calls.specs.declared.file_id.FileName.{FileName}
use Rattle.disk_calls.specs.declared.file_id.FileId.{FileId}
use Rattle.disk_calls.specs.declared.disk.DiskDid.{DiskDid}
use Rattle.disk_calls.specs.declared.disk.DiskDid.TheVariants as did
use Rattle.member_disk.specs.declared.memory_map.Happened.{Happened}
use Rattle.member_disk.specs.declared.memory_map.Happened.TheVariants as happened
use Rattle.member_disk.specs.declared.memory_stream.MemoryStream.{MemoryStream}

abbrev pub stream_at : Option MemoryStream → Stream
stream_at None = no_files
stream_at (Some s) = stream_of s

-- the files of a stream
abbrev pub files_in : BTreeMap ℕ MemoryStream → ℕ → Stream
files_in streams n = stream_at (get nat_cmp streams n)

-- a file
abbrev pub held_in : BTreeMap ℕ MemoryStream → FileId → Held
held_in streams id = (files_in streams id.stream).held id.file

-- what reads give, the images and the count of faults
abbrev pub state_of : BTreeMap ℕ MemoryStream → ℕ → DiskState
state_of streams faults = record { seen = λ f. seen_of (held_in streams f); images = λ f c. ImageOf (held_in streams f) c; faults = faults }

-- the files of one stream take a step, and the other streams stay
pub record OnStream (n : ℕ) (step : Stream → Stream → Type 0) (old new : BTreeMap ℕ MemoryStream) : Type 0 where
  pub own : step (files_in old n) (files_in new n)
  pub elsewhere : (k : ℕ) → k ≢ n → files_in new k ≡ files_in old k

-- a stream on which a call was counted
abbrev pub counted : Stream → Stream
counted s = record { held = s.held; order = s.order; settings = after_call s.settings }

-- a counted call that did nothing else
abbrev pub Counts : Stream → Stream → Type 0
Counts s t = Stays (counted s) t

-- a counted call that made this of a file and of the order
abbrev pub Does : FileName → (Held → Held) → (List FileName → List FileName) → Stream → Stream → Type 0
Does name file order s t = Moves name (file (s.held name)) (order s.order) (counted s) t

-- what a counted call came to: done, a setting fell due, or a growth was refused
abbrev pub Takes : Happened → Bool → Type 0 → Type 0 → Type 0 → Type 0
Takes happened.Done due WhereDone WhereDue WhereRefused = (due ≡ false) × WhereDone
Takes happened.Due due WhereDone WhereDue WhereRefused = (due ≡ true) × WhereDue
Takes happened.Refused due WhereDone WhereDue WhereRefused = (due ≡ false) × WhereRefused

-- the answer, and the counts of faults and of refused growths, after it
abbrev pub Answers : Happened → ℕ → ℕ → ℕ → ℕ → DiskDid → Type 0
Answers happened.Done faults faults_new refused refused_new answer = (answer ≡ did.Done) × (faults_new ≡ faults) × (refused_new ≡ refused)
Answers happened.Due faults faults_new refused refused_new answer = (answer ≡ did.Failed) × (faults ≤ faults_new) × Rose faults faults_new × (faults_new ≡ risen faults) × (refused_new ≡ refused)
Answers happened.Refused faults faults_new refused refused_new answer = (answer ≡ did.Failed) × (faults ≤ faults_new) × Rose faults faults_new × (faults_new ≡ risen faults) × (refused_new ≡ risen refused)

-- A call fails exactly where a setting falls due at it, or a growth was refused in it.
pub record FailsExactly (Failed : Type 0) (due : Bool) (refused_old refused_new : ℕ) : Type 0 where
  pub where_due : due ≡ true → Failed × (refused_new ≡ refused_old)
  pub only : Failed → (due ≡ true) ⊎ (refused_new ≡ risen refused_old)
  pub else_same : ¬ Failed → refused_new ≡ refused_old
