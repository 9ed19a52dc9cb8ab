-- What comes of a poll: which confirms are told, and which chunks are delivered.
use Rattle.std.specs.Prelude.{◌≡◌, ℕ, ◌-◌, ◌==◌, ◌<◌, Bool, false, List, [], ◌∷◌, ◌++◌, flat_map, Option, None, Some, if◌then◌else◌}
use Rattle.std.specs.List.{AllByRecursion, Contains}
use Rattle.chunk_format.specs.declared.chunk.Chunk.{Chunk}
use Rattle.chunk_format.specs.Chunks.{end_of_chunk}
use Rattle.chunk_format.specs.Logs.{IsLog, next_above, users_above}
use Rattle.stream_terms.specs.declared.terms.Confirm.{Confirm}
use Rattle.hub_terms.specs.Calls.{IsActive}
use Rattle.hub_terms.specs.Meaning.{HubSeen, HubMeaning, ConfirmTold}
use Rattle.hub_terms.specs.Programs.{Runs}
use Rattle.session_tables.specs.Subscribing.{slot}
use Rattle.session_tables.specs.declared.publishers.Publisher.{Publisher}
use Rattle.session_tables.specs.declared.tables.Subscription.{Subscription}
use Rattle.session_tables.specs.declared.tables.Tables.{Tables}
use Rattle.session_core.specs.declared.unasked.Unasked.{Unasked}
use Rattle.session_core.specs.declared.unasked.Unasked.TheVariants as say
use Rattle.session_core.specs.Delivering.{sent_to, committed_row}

-- one chunk is delivered
pub record Gives {S : Type 0} (m : HubMeaning S) (second : Bool) (id : ℕ) (old : Subscription) (c : Chunk) (new : Subscription) (out0 out1 : List Unasked) (h0 h1 : S) : Type 0 where
  pub committed : Option ℕ
  pub asked : Runs m (committed_row second old.stream) h0 committed h1
  pub moved : new ≡ sent_to old c
  pub wrote : out1 ≡ out0 ++ say.Deliver id committed c ∷ []

-- ---- chunks

-- Deliveries one after the other: each has a credit, and is of the first chunk that is due.
abbrev pub DeliverRun : List Chunk → ℕ → ℕ → List Chunk → ℕ → ℕ → Type 0
DeliverRun list next credit [] next' credit' = (next' ≡ next) × (credit' ≡ credit)
DeliverRun list next credit (c ∷ cs) next' credit' = (0 < credit) × (next_above next list ≡ Some c) × DeliverRun list (end_of_chunk c) (credit - 1) cs next' credit'

abbrev pub chunk_to : ℕ → Unasked → List Chunk
chunk_to id (say.Deliver other committed c) = if other == id then c ∷ [] else []
chunk_to id (say.Confirm other ids) = []
chunk_to id (say.MetadataUpdate stream) = []
chunk_to id (say.Update corr other active) = []

-- the chunks that the subscription of an id gets
abbrev pub chunks_to : ℕ → List Unasked → List Chunk
chunks_to id said = flat_map (chunk_to id) said

-- a subscription of this stream goes on from one place and credit to others, by the list that is seen then
pub record Goes {S : Type 0} (m : HubSeen S) (old new : Subscription) (chunks : List Chunk) (h : S) : Type 0 where
  pub same : new ≡ record old { next = new.next; credit = new.credit; update = new.update }
  pub run : DeliverRun (m.lists h old.stream) old.next old.credit chunks new.next new.credit

-- a subscription that is there was there, and got this run; none is gone with a chunk
abbrev pub SlotGoes : {S : Type 0} → HubSeen S → Option Subscription → Option Subscription → List Chunk → S → Type 0
SlotGoes m old None chunks h = chunks ≡ []
SlotGoes m old (Some new) chunks h = (s : Subscription) × (old ≡ Some s) × Goes m s new chunks h

-- No credit is left; or no chunk was due, by a list that was seen on the way; or its consumer wasn't the active one.
pub data Stops {S : Type 0} (m : HubMeaning S) (session : ℕ) (s : Subscription) (h0 h1 : S) : Type 0 where
  Spent : s.credit ≡ 0 → Stops m session s h0 h1
  NoneDue : (h : S) → m.seen.later h0 h → m.seen.later h h1 → next_above s.next (m.seen.lists h s.stream) ≡ None → Stops m session s h0 h1
  Waits : (serial : ℕ) (h h' : S) → s.single ≡ Some serial → m.does (IsActive (record { session = session; serial = serial })) h false h' → m.seen.later h0 h → m.seen.later h' h1 → Stops m session s h0 h1

abbrev pub SlotStops : {S : Type 0} → HubMeaning S → ℕ → Option Subscription → S → S → Type 0
SlotStops m session None h0 h1 = Unit {0}
SlotStops m session (Some s) h0 h1 = Stops m session s h0 h1

-- ---- confirms

-- the confirm was handed out, and its publisher stands
pub record Confirmed {S : Type 0} (m : HubSeen S) (t : Tables) (id : ℕ) (ids : List ℕ) (h1 : S) : Type 0 where
  pub publisher : Publisher
  pub stands : Contains t.publishers publisher
  pub of_id : publisher.id ≡ id
  pub confirm : Confirm
  pub hub : S
  pub told : ConfirmTold m t.number hub confirm
  pub of_stream : publisher.pass.stream ≡ confirm.stream
  pub of_serial : publisher.pass.serial ≡ confirm.serial
  pub same_ids : confirm.ids ≡ ids
  pub later : m.later hub h1

abbrev pub HasCause : {S : Type 0} → HubSeen S → Tables → S → Unasked → Type 0
HasCause m t h1 (say.Confirm id ids) = Confirmed m t id ids h1
HasCause m t h1 (say.MetadataUpdate stream) = Unit {0}
HasCause m t h1 (say.Update corr id active) = Unit {0}
HasCause m t h1 (say.Deliver id committed c) = Unit {0}

-- ---- a poll

-- What a poll adds: each confirm has its cause; each subscription goes on, and stops where it has no credit, no chunk or isn't
-- active.
pub record PollAdds {S : Type 0} (m : HubMeaning S) (old new : Tables) (out0 out1 : List Unasked) (h0 h1 : S) : Type 0 where
  pub said : List Unasked
  pub wrote : out1 ≡ out0 ++ said
  pub causes : AllByRecursion (HasCause m.seen old h1) said
  pub each : (id : ℕ) → SlotGoes m.seen (slot id old) (slot id new) (chunks_to id said) h1
  pub stops : (id : ℕ) → id < 256 → SlotStops m old.number (slot id new) h0 h1

-- From a place to another of a list, and of each that goes on from it, this is all that a subscription is to get.
abbrev pub GapFree : List Chunk → ℕ → List Chunk → ℕ → Type 0
GapFree list from chunks to = users_above from list ≡ chunks ++ users_above to list

-- Polls of a subscription, one after the other, from its start or from where it stood. Between two of them it may get credit and
-- be asked for its turn; the lists go on.
abbrev pub PolledSo : {S : Type 0} → HubSeen S → ℕ → ℕ → S → List (List Chunk) → ℕ → S → Type 0
PolledSo m stream from h0 [] to h1 = (to ≡ from) × m.later h0 h1
PolledSo {S} m stream from h0 (cs ∷ more) to h1 = (old : Subscription) × (new : Subscription) × (h : S)
    × (old.stream ≡ stream) × (old.next ≡ from) × m.later h0 h × Goes m old new cs h × PolledSo m stream new.next h more to h1

abbrev pub all_chunks : List (List Chunk) → List Chunk
all_chunks polls = flat_map (λ (cs : List Chunk). cs) polls

-- together they deliver all that is due between the two places, each chunk once and in order
abbrev pub DeliveriesJoin : {S : Type 0} → HubSeen S → Type 0
DeliveriesJoin {S} m = (stream from to : ℕ) (polls : List (List Chunk)) (h0 h1 : S) → IsLog (m.lists h1 stream) → PolledSo m stream from h0 polls to h1 → GapFree (m.lists h1 stream) from (all_chunks polls) to
