-- A table of streams, with a catalog and groups, as a hub.
use Rattle.std.specs.Prelude.{◌≡◌, ℕ, zero, suc, ◌≤◌, ◌==◌, Bool, false, List, [], ◌∷◌, ◌++◌, map, length, Option, Some, None, unwrap_or, Result, Ok, Err, slice_get, slice_set, if◌then◌else◌}
use Rattle.std.specs.List.{AllByRecursion, Contains, list_any}
use Rattle.std.specs.declared.alloc.AllocError.{AllocError}
use Rattle.chunk_format.specs.declared.chunk.Chunk.{Chunk}
use Rattle.chunk_format.specs.Logs.{GoesOn, next_above}
use Rattle.chunk_format.specs.ByName.{Greatest, LastStored}
use Rattle.command_fields.specs.declared.response.ResponseCode.{ResponseCode}
use Rattle.command_fields.specs.declared.response.ResponseCode.TheVariants as code
use Rattle.command_data.specs.declared.item.Tagged.{Tagged}
use Rattle.command_data.specs.Starts.{StartOf}
use Rattle.disk_calls.specs.Disk.{Rose}
use Rattle.active_groups.specs.declared.consumer.ConsumerId.{ConsumerId}
use Rattle.active_groups.specs.declared.consumer.GroupState.{GroupState}
use Rattle.active_groups.specs.Seating.{Seating, state_of, is_active}
use Rattle.active_groups.specs.Steps.{GroupEvent, Joins, Leaves, Polls, Answers, GroupStep}
use Rattle.stream_catalog.specs.declared.change.Change.{Change}
use Rattle.stream_catalog.specs.declared.fault.CatalogFault.{CatalogFault}
use Rattle.stream_catalog.specs.declared.fault.CatalogFault.TheVariants as refused
use Rattle.stream_catalog.specs.Names.{Names, find, parts, route, part_index, streams}
use Rattle.stream_catalog.specs.Rules.{creates, deletes, creates_super, deletes_super, after}
use Rattle.stream_terms.specs.declared.terms.Pass.{Pass}
use Rattle.stream_terms.specs.declared.terms.Taken.{Taken}
use Rattle.stream_terms.specs.declared.terms.Confirm.{Confirm}
use Rattle.stream_terms.specs.declared.terms.DeclareFault.{DeclareFault}
use Rattle.stream_terms.specs.declared.terms.OfferFault.{OfferFault}
use Rattle.stream_terms.specs.declared.terms.Given.{Given}
use Rattle.stream_terms.specs.declared.terms.Waits.{Waits}
use Rattle.stream_terms.specs.Lists.{last_first}
use Rattle.stream_terms.specs.Views.{StreamView, StreamHolds, name_of}
use Rattle.stream_terms.specs.Steps.{StreamStep, Declared, Offered, StoredOffset, Moved, DeclareRefused, OfferRefused, OffsetRefused, HandStep, confirm_of}
use Rattle.hub_terms.specs.declared.terms.Found.{Found}
use Rattle.hub_terms.specs.declared.terms.Found.TheVariants.{Missing, Closed, Running}
use Rattle.hub_terms.specs.declared.terms.HubDid.{HubDid}
use Rattle.hub_terms.specs.declared.terms.HubDid.TheVariants.{Code, Failed, Memory}
use Rattle.hub_terms.specs.Calls.{Call, Answer, Words, Finding, Creating, Deleting, CreatingSuper, DeletingSuper, PartsOf, Routing, Declaring, Offering, StoringOffset, Confirming, Starting, NextChunk, GreatestOf, StoredOf, LastChunk, Joining, Leaving, Changing, Answering, IsActive}
use Rattle.hub_terms.specs.Meaning.{HubSeen, HubMeaning, IsHubCode, IfTold, AreFew}

-- The catalog's names and its limit of live streams; the lists that its files may hold in place of these, after a disk failed; the streams that ever
-- were, by their numbers from 1 on; the groups; and the count of faults. A stream that was ended stays, and runs no epoch.
pub record HubTable : Type 0 where
  pub names : Names
  pub limit : ℕ
  pub others : List Names
  pub views : List StreamView
  pub groups : List Seating
  pub faults : ℕ

-- ---- streams by their numbers

abbrev pub view_at : List StreamView → ℕ → Option StreamView
view_at views zero = None
view_at views (suc place) = slice_get views place

abbrev pub set_view : List StreamView → ℕ → StreamView → List StreamView
set_view views zero view = views
set_view views (suc place) view = slice_set views place view

-- a stream that never was
abbrev pub no_view : ℕ → StreamView
no_view number = record { number = number; chunks = []; queue = []; running = None; passes = []; waiting = []; ready = [] }

abbrev pub view_or : List StreamView → ℕ → StreamView
view_or views stream = unwrap_or (view_at views stream) (no_view stream)

abbrev pub chunks_by : Option StreamView → List Chunk
chunks_by None = []
chunks_by (Some v) = v.chunks

abbrev pub passes_by : Option StreamView → List Given
passes_by None = []
passes_by (Some v) = v.passes

abbrev pub list_at : HubTable → ℕ → List Chunk
list_at t stream = chunks_by (view_at t.views stream)

-- what holds of each stream; its number is its place, from this number on
abbrev pub HoldsFrom : ℕ → List StreamView → Type 0
HoldsFrom n [] = Unit {0}
HoldsFrom n (v ∷ vs) = (v.number ≡ n) × StreamHolds v [] × HoldsFrom (suc n) vs

-- and each number that was given is that of a stream
pub record TableHolds (t : HubTable) : Type 0 where
  pub views : HoldsFrom 1 t.views
  pub last : t.names.last ≡ length t.views

-- ---- later

pub record ViewLater (a b : StreamView) : Type 0 where
  pub number : b.number ≡ a.number
  pub chunks : GoesOn a.chunks b.chunks
  pub passes : GoesOn a.passes b.passes

-- each stream stays in its place and goes on, and further ones may come
abbrev pub ViewsLater : List StreamView → List StreamView → Type 0
ViewsLater [] bs = Unit {0}
ViewsLater (a ∷ more) [] = ⊥
ViewsLater (a ∷ more) (b ∷ bs) = ViewLater a b × ViewsLater more bs

pub record TableLater (a b : HubTable) : Type 0 where
  pub views : ViewsLater a.views b.views
  pub faults : a.faults ≤ b.faults

-- ---- what names lead to

abbrev pub found_as : ℕ → Option ℕ → Found
found_as stream None = Closed stream
found_as stream (Some epoch) = Running stream epoch

abbrev pub running_by : Option StreamView → Option ℕ
running_by None = None
running_by (Some v) = v.running

abbrev pub found_by : List StreamView → Option ℕ → Found
found_by views None = Missing
found_by views (Some stream) = found_as stream (running_by (view_at views stream))

-- Missing exactly where no live stream has the name
abbrev pub found_in : HubTable → List ℕ → Found
found_in t name = found_by t.views (find name t.names)

abbrev pub parts_in : HubTable → Words → Option (List Words)
parts_in t None = None
parts_in t (Some name) = parts name t.names

-- a key that is null is the key of none
abbrev pub no_routes : Option (List Words) → Option (List Words)
no_routes None = None
no_routes (Some names) = Some []

abbrev pub routes_in : HubTable → Words → Words → Option (List Words)
routes_in t key None = None
routes_in t None (Some name) = no_routes (parts name t.names)
routes_in t (Some key) (Some name) = route key name t.names

-- ---- changes of the catalog

abbrev pub code_of : Result Change CatalogFault → ResponseCode
code_of (Ok change) = code.Ok
code_of (Err refused.Missing) = code.StreamDoesNotExist
code_of (Err refused.Exists) = code.StreamAlreadyExists
code_of (Err (refused.Refused why)) = code.PreconditionFailed
code_of (Err _) = code.InternalError

-- a stream whose name is gone: nothing of it waits
abbrev pub ended : StreamView → StreamView
ended v = record v { queue = []; running = None; waiting = []; ready = [] }

abbrev pub is_live : Names → ℕ → Bool
is_live names number = list_any (λ n. n == number) (streams names)

abbrev pub stands : Names → StreamView → StreamView
stands names v = if is_live names v.number then v else ended v

pub record IsNew (v : StreamView) : Type 0 where
  pub passes : v.passes ≡ []
  pub waiting : v.waiting ≡ []
  pub ready : v.ready ≡ []

-- Streams without a name have ended, and new ones came behind the others.
pub record StreamsBy (names : Names) (old new : List StreamView) : Type 0 where
  pub more : List StreamView
  pub are_new : AllByRecursion IsNew more
  pub new_is : new ≡ map (stands names) old ++ more

-- what the rules answer to a change that is asked for, of a list of names
abbrev pub Rule : Type 0
Rule = Names → Result Change CatalogFault

-- the lists that there may be
abbrev pub lists_now : HubTable → List Names
lists_now t = t.names ∷ t.others

-- and after the change
abbrev pub lists_then : Rule → HubTable → List Names
lists_then rule t = lists_now t ++ map (λ names. after (rule names) names) (lists_now t)

-- The answer and the list after it are exactly those of the rules, of the list in hand or of one that the files held.
pub record CodeStep (rule : Rule) (a : HubTable) (response : ResponseCode) (b : HubTable) : Type 0 where
  pub start : Names
  pub is_start : Contains (lists_now a) start
  pub response_is : response ≡ code_of (rule start)
  pub is_code : IsHubCode response
  pub names : b.names ≡ after (rule start) start
  pub others : b.others ≡ []
  pub views : StreamsBy b.names a.views b.views
  pub rest : b ≡ record a { names = b.names; others = b.others; views = b.views }

-- A disk failed: the list in hand is the old one, and the change is in the files or isn't.
pub record FailedStep (rule : Rule) (a b : HubTable) : Type 0 where
  pub rose : Rose a.faults b.faults
  pub counts : a.faults ≤ b.faults
  pub others : AllByRecursion (Contains (lists_then rule a)) b.others
  pub rest : b ≡ record a { others = b.others; faults = b.faults }

-- Memory ran out: the change was made or wasn't.
pub record LostStep (rule : Rule) (a b : HubTable) : Type 0 where
  pub names : Contains (lists_then rule a) b.names
  pub others : AllByRecursion (Contains (lists_then rule a)) b.others
  pub later : ViewsLater a.views b.views
  pub rest : b ≡ record a { names = b.names; others = b.others; views = b.views }

abbrev pub CatalogStep : Rule → HubTable → HubDid → HubTable → Type 0
CatalogStep rule a (Code response) b = CodeStep rule a response b
CatalogStep rule a Failed b = FailedStep rule a b
CatalogStep rule a Memory b = LostStep rule a b

-- ---- calls of one stream

-- one stream is another one then
pub record OneStep (stream : ℕ) (old new : StreamView) (a b : HubTable) : Type 0 where
  pub there : view_at a.views stream ≡ Some old
  pub new_is : b ≡ record a { views = set_view a.views stream new }

pub record DeclareAt (session stream : ℕ) (name : Words) (p : Pass) (a b : HubTable) : Type 0 where
  pub old : StreamView
  pub new : StreamView
  pub at : OneStep stream old new a b
  pub step : StreamStep old (Declared session name (Ok p)) new

abbrev pub DeclareBy : ℕ → ℕ → Words → HubTable → Result Pass DeclareFault → HubTable → Type 0
DeclareBy session stream name a (Ok p) b = DeclareAt session stream name p a b
DeclareBy session stream name a (Err fault) b = DeclareRefused (view_or a.views stream) fault × (b ≡ a)

-- the offer is taken, and the stream may go on at once
pub record OfferAt (stream : ℕ) (pass : Pass) (items : List Tagged) (t : Taken) (a b : HubTable) : Type 0 where
  pub old : StreamView
  pub mid : StreamView
  pub new : StreamView
  pub more : List Chunk
  pub at : OneStep stream old new a b
  pub step : StreamStep old (Offered pass items (Ok t)) mid
  pub moved : StreamStep mid (Moved more) new

abbrev pub OfferBy : ℕ → Pass → List Tagged → HubTable → Result Taken OfferFault → HubTable → Type 0
OfferBy stream pass items a (Ok t) b = OfferAt stream pass items t a b
OfferBy stream pass items a (Err fault) b = OfferRefused (view_or a.views stream) pass items fault × (b ≡ a)

-- exactly the offset's chunk is queued, and the stream may go on at once
pub record StoreAt (stream : ℕ) (name : Words) (offset : ℕ) (t : Taken) (a b : HubTable) : Type 0 where
  pub old : StreamView
  pub mid : StreamView
  pub new : StreamView
  pub more : List Chunk
  pub at : OneStep stream old new a b
  pub step : StreamStep old (StoredOffset name offset (Ok t)) mid
  pub moved : StreamStep mid (Moved more) new

abbrev pub StoreBy : ℕ → Words → ℕ → HubTable → Result Taken OfferFault → HubTable → Type 0
StoreBy stream name offset a (Ok t) b = StoreAt stream name offset t a b
StoreBy stream name offset a (Err fault) b = OffsetRefused (view_or a.views stream) name fault × (b ≡ a)

-- ---- confirms

-- each stream in turn hands out those of the session
pub record HandOne (session : ℕ) (v w : StreamView) (all : List Confirm) (Rest : List Confirm → Type 0) : Type 0 where
  pub out : List Waits
  pub rest : List Confirm
  pub step : HandStep v session out w
  pub all_is : all ≡ map confirm_of out ++ rest
  pub behind : Rest rest

abbrev pub HandAll : ℕ → List StreamView → List Confirm → List StreamView → Type 0
HandAll session [] all [] = all ≡ []
HandAll session (v ∷ vs) all (w ∷ ws) = HandOne session v w all (λ rest. HandAll session vs rest ws)
HandAll session [] all (w ∷ ws) = ⊥
HandAll session (v ∷ vs) all [] = ⊥

-- Where memory ran out some are given up.
abbrev pub HandBy : ℕ → HubTable → Result (List Confirm) AllocError → HubTable → Type 0
HandBy session a (Ok all) b = HandAll session a.views all b.views × (b ≡ record a { views = b.views })
HandBy session a (Err e) b = ViewsLater a.views b.views × (b ≡ record a { views = b.views })

-- ---- groups

pub record GroupsBy (event : GroupEvent) (a b : HubTable) : Type 0 where
  pub step : GroupStep a.groups event b.groups
  pub rest : b ≡ record a { groups = b.groups }

-- The consumer leaves its group, and joins one with the place of the stream in its super stream.
pub record JoinAt (stream : ℕ) (name : Words) (consumer : ConsumerId) (a b : HubTable) : Type 0 where
  pub mid : List Seating
  pub leaves : GroupStep a.groups (Leaves consumer) mid
  pub joins : GroupStep mid (Joins stream name (part_index stream a.names) consumer) b.groups
  pub rest : b ≡ record a { groups = b.groups }

abbrev pub JoinBy : ℕ → Words → ConsumerId → HubTable → Result (Unit {0}) AllocError → HubTable → Type 0
JoinBy stream name consumer a (Ok _) b = JoinAt stream name consumer a b
JoinBy stream name consumer a (Err e) b = GroupsBy (Leaves consumer) a b

abbrev pub active_by : Option GroupState → Bool
active_by None = false
active_by (Some state) = is_active state

-- ---- all calls

abbrev pub TableStep : (c : Call) → HubTable → Answer c → HubTable → Type 0
TableStep (Finding name) a r b = (b ≡ a) × (r ≡ found_in a name)
TableStep (Creating name) a r b = CatalogStep (creates a.limit name) a r b
TableStep (Deleting name) a r b = CatalogStep (deletes name) a r b
TableStep (CreatingSuper name parts keys) a r b = CatalogStep (creates_super a.limit name parts keys) a r b
TableStep (DeletingSuper name) a r b = CatalogStep (deletes_super name) a r b
TableStep (PartsOf name) a r b = (b ≡ a) × AreFew r × IfTold (parts_in a name) r
TableStep (Routing key name) a r b = (b ≡ a) × AreFew r × IfTold (routes_in a key name) r
TableStep (Declaring session stream name) a r b = DeclareBy session stream name a r b
TableStep (Offering stream pass items now) a r b = OfferBy stream pass items a r b
TableStep (StoringOffset stream name offset now) a r b = StoreBy stream name offset a r b
TableStep (Confirming session) a r b = HandBy session a r b
TableStep (Starting stream spec) a r b = (b ≡ a) × IfTold (StartOf spec (list_at a stream)) r
TableStep (NextChunk stream from) a r b = (b ≡ a) × IfTold (next_above from (list_at a stream)) r
TableStep (GreatestOf stream name) a r b = (b ≡ a) × IfTold (Greatest (name_of name) (list_at a stream)) r
TableStep (StoredOf stream name) a r b = (b ≡ a) × IfTold (LastStored (name_of name) (list_at a stream)) r
TableStep (LastChunk stream) a r b = (b ≡ a) × IfTold (last_first (list_at a stream)) r
TableStep (Joining stream name consumer) a r b = JoinBy stream name consumer a r b
TableStep (Leaving consumer) a r b = GroupsBy (Leaves consumer) a b
TableStep (Changing session) a r b = GroupsBy (Polls session r) a b
TableStep (Answering consumer) a r b = GroupsBy (Answers consumer r) a b
TableStep (IsActive consumer) a r b = (b ≡ a) × (r ≡ active_by (state_of a.groups consumer))

pub record TableDoes (c : Call) (a : HubTable) (r : Answer c) (b : HubTable) : Type 0 where
  pub before : TableHolds a
  pub holds : TableHolds b
  pub step : TableStep c a r b

abbrev pub table_seen : HubSeen HubTable
table_seen = record {
  lists = list_at;
  passes = λ t stream. passes_by (view_at t.views stream);
  faults = λ t. t.faults;
  later = TableLater;
}

abbrev pub table_meaning : HubMeaning HubTable
table_meaning = record { seen = table_seen; does = TableDoes }
