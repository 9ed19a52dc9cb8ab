-- What is known of a hub by its answers.
use Rattle.std.specs.Prelude.{◌≡◌, ℕ, ◌≤◌, Bool, true, false, List, [], ◌∷◌, length, Option, Some, None, Result, Ok, Err}
use Rattle.std.specs.List.{AllByRecursion, Contains}
use Rattle.std.specs.declared.alloc.AllocError.{AllocError}
use Rattle.chunk_format.specs.declared.chunk.Chunk.{Chunk}
use Rattle.chunk_format.specs.Chunks.{IsEntry}
use Rattle.command_data.specs.declared.item.Tagged.{Tagged}
use Rattle.stream_terms.specs.declared.terms.Pass.{Pass}
use Rattle.stream_terms.specs.declared.terms.Confirm.{Confirm}
use Rattle.stream_terms.specs.declared.terms.DeclareFault.{DeclareFault}
use Rattle.stream_terms.specs.declared.terms.Given.{Given}
use Rattle.chunk_format.specs.Logs.{GoesOn, IsLog, end_of, next_above}
use Rattle.chunk_format.specs.ByName.{Greatest, LastStored, AtMost}
use Rattle.command_data.specs.Starts.{StartOf}
use Rattle.stream_terms.specs.Lists.{last_first}
use Rattle.stream_terms.specs.Views.{name_of}
use Rattle.disk_calls.specs.Disk.{Rose}
use Rattle.command_fields.specs.declared.response.ResponseCode.{ResponseCode}
use Rattle.command_fields.specs.declared.response.ResponseCode.TheVariants as code
use Rattle.hub_terms.specs.declared.terms.HubDid.{HubDid}
use Rattle.hub_terms.specs.declared.terms.HubDid.TheVariants.{Code, Failed, Memory}
use Rattle.hub_terms.specs.Calls.{Call, Answer, Words, Finding, Creating, Deleting, CreatingSuper, DeletingSuper, PartsOf, Routing, Declaring, Offering, StoringOffset, Confirming, Starting, NextChunk, GreatestOf, StoredOf, LastChunk, Joining, Leaving, Changing, Answering, IsActive}

-- null, or at most 255 bytes
abbrev pub IsShortName : Words → Type 0
IsShortName None = Unit {0}
IsShortName (Some name) = length name ≤ 255

abbrev pub HasSpelling : Tagged → Type 0
HasSpelling item = IsEntry item.entry

-- What is seen of a hub: of each stream the list and the passes that it gave, the count of its faults, and what may come to pass by calls of this
-- hub, whatever others do. A stream that was ended keeps its last list.
pub record HubSeen (S : Type 0) : Type 1 where
  pub lists : S → ℕ → List Chunk
  pub passes : S → ℕ → List Given
  pub faults : S → ℕ
  pub later : S → S → Type 0

-- and how it answers, with the hub before and after the call
pub record HubMeaning (S : Type 0) : Type 1 where
  pub seen : HubSeen S
  pub does : (c : Call) → S → Answer c → S → Type 0

-- the codes that a change of the catalog may have: done, missing, there already, refused
abbrev pub is_hub_code : ResponseCode → Bool
is_hub_code code.Ok = true
is_hub_code code.StreamDoesNotExist = true
is_hub_code code.StreamAlreadyExists = true
is_hub_code code.PreconditionFailed = true
is_hub_code _ = false

abbrev pub IsHubCode : ResponseCode → Type 0
IsHubCode response = is_hub_code response ≡ true

-- A failure has a cause. Want of memory has none.
abbrev pub ToldChange : {S : Type 0} → HubSeen S → S → HubDid → S → Type 0
ToldChange m a (Code response) b = IsHubCode response
ToldChange m a Failed b = Rose (m.faults a) (m.faults b)
ToldChange m a Memory b = Unit {0}

abbrev pub ToldPass : {S : Type 0} → HubSeen S → ℕ → ℕ → Words → Result Pass DeclareFault → S → Type 0
ToldPass m session stream name (Ok p) b = (p.stream ≡ stream) × (p.session ≡ session) × Contains (m.passes b stream) (record { pass = p; name = name_of name })
ToldPass m session stream name (Err fault) b = Unit {0}

-- The confirm is of a pass that was given to this session, the list as seen reaches its end, and with a name no id is above the greatest.
abbrev pub NoneAbove : List ℕ → List ℕ → List Chunk → Type 0
NoneAbove [] ids chunks = Unit {0}
NoneAbove (x ∷ xs) ids chunks = AllByRecursion (λ (id : ℕ). AtMost id (Greatest (x ∷ xs) chunks)) ids

pub record ConfirmTold {S : Type 0} (m : HubSeen S) (session : ℕ) (b : S) (c : Confirm) : Type 0 where
  pub given : Given
  pub known : Contains (m.passes b c.stream) given
  pub of_session : given.pass.session ≡ session
  pub of_stream : given.pass.stream ≡ c.stream
  pub serial : given.pass.serial ≡ c.serial
  pub some : 1 ≤ length c.ids
  pub few : length c.ids ≤ 1048576
  pub reached : c.end ≤ end_of (m.lists b c.stream)
  pub by_name : NoneAbove given.name c.ids (m.lists b c.stream)

abbrev pub ToldConfirms : {S : Type 0} → HubSeen S → ℕ → Result (List Confirm) AllocError → S → Type 0
ToldConfirms m session (Ok cs) b = AllByRecursion (ConfirmTold m session b) cs
ToldConfirms m session (Err e) b = Unit {0}

-- what is asked of the list as it is seen after the call
abbrev pub IfTold : {A : Type 0} → A → Result A AllocError → Type 0
IfTold value (Ok told) = told ≡ value
IfTold value (Err e) = Unit {0}

abbrev pub AreFew : Result (Option (List Words)) AllocError → Type 0
AreFew (Ok None) = Unit {0}
AreFew (Ok (Some names)) = length names ≤ 65535
AreFew (Err e) = Unit {0}

-- what an answer tells
abbrev pub Told : {S : Type 0} → HubSeen S → (c : Call) → S → Answer c → S → Type 0
Told m (Finding name) a r b = Unit {0}
Told m (Creating name) a r b = ToldChange m a r b
Told m (Deleting name) a r b = ToldChange m a r b
Told m (CreatingSuper name parts keys) a r b = ToldChange m a r b
Told m (DeletingSuper name) a r b = ToldChange m a r b
Told m (PartsOf name) a r b = AreFew r
Told m (Routing key name) a r b = AreFew r
Told m (Declaring session stream name) a r b = ToldPass m session stream name r b
Told m (Offering stream pass items now) a r b = Unit {0}
Told m (StoringOffset stream name offset now) a r b = Unit {0}
Told m (Confirming session) a r b = ToldConfirms m session r b
Told m (Starting stream spec) a r b = IfTold (StartOf spec (m.lists b stream)) r
Told m (NextChunk stream from) a r b = IfTold (next_above from (m.lists b stream)) r
Told m (GreatestOf stream name) a r b = IfTold (Greatest (name_of name) (m.lists b stream)) r
Told m (StoredOf stream name) a r b = IfTold (LastStored (name_of name) (m.lists b stream)) r
Told m (LastChunk stream) a r b = IfTold (last_first (m.lists b stream)) r
Told m (Joining stream name consumer) a r b = Unit {0}
Told m (Leaving consumer) a r b = Unit {0}
Told m (Changing session) a r b = Unit {0}
Told m (Answering consumer) a r b = Unit {0}
Told m (IsActive consumer) a r b = Unit {0}

-- What can be asked of what is seen.
pub record SeenLaws {S : Type 0} (m : HubSeen S) : Type 0 where
  pub same : (a : S) → m.later a a
  pub joins : (a b c : S) → m.later a b → m.later b c → m.later a c
  -- lists and passes go on, and the count never falls
  pub lists_grow : (a b : S) (stream : ℕ) → m.later a b → GoesOn (m.lists a stream) (m.lists b stream)
  pub passes_grow : (a b : S) (stream : ℕ) → m.later a b → GoesOn (m.passes a stream) (m.passes b stream)
  pub counts : (a b : S) → m.later a b → m.faults a ≤ m.faults b

-- after each call, whatever is answered, want of memory too
pub record Called {S : Type 0} (m : HubSeen S) (c : Call) (a : S) (r : Answer c) (b : S) : Type 0 where
  pub later : m.later a b
  pub logs : (stream : ℕ) → IsLog (m.lists b stream)
  pub told : Told m c a r b

pub record HubLaws {S : Type 0} (m : HubMeaning S) : Type 0 where
  pub seen : SeenLaws m.seen
  pub called : (c : Call) (a b : S) (r : Answer c) → m.does c a r b → Called m.seen c a r b

-- The hub of which no more is known than what each must tell: one over locks, where others act between two calls.
abbrev pub least_meaning : {S : Type 0} → HubSeen S → HubMeaning S
least_meaning m = record { seen = m; does = Called m }

abbrev pub least_laws : {S : Type 0} (m : HubSeen S) → SeenLaws m → HubLaws (least_meaning m)
least_laws m laws = record { seen = laws; called = λ c a b r d. d }
