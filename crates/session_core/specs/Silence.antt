-- When a poll says nothing: exactly where nothing is due.
use Rattle.std.specs.Prelude.{◌≡◌, ◌≢◌, ◌<◌, ◌⊎◌, ◌↔◌, ℕ, true, false, List, [], ◌∷◌, length, position, Option, None, Some, Ok}
use Rattle.std.specs.List.{AllByRecursion}
use Rattle.chunk_format.specs.Logs.{next_above}
use Rattle.active_groups.specs.declared.consumer.Change.{Change}
use Rattle.stream_terms.specs.declared.terms.Confirm.{Confirm}
use Rattle.stream_terms.specs.Views.{name_of}
use Rattle.hub_terms.specs.declared.terms.Found.{Found}
use Rattle.hub_terms.specs.Calls.{Finding, Confirming, NextChunk, Changing, IsActive}
use Rattle.hub_terms.specs.Meaning.{HubMeaning}
use Rattle.hub_terms.specs.Programs.{Runs}
use Rattle.session_tables.specs.declared.streams.StreamName.{StreamName}
use Rattle.session_tables.specs.declared.tables.Subscription.{Subscription}
use Rattle.session_tables.specs.declared.tables.Tables.{Tables}
use Rattle.session_core.specs.declared.unasked.Unasked.{Unasked}
use Rattle.session_core.specs.Confirming.{id_of}
use Rattle.session_core.specs.Ending.{running_on, has_over}
use Rattle.session_core.specs.Turning.{is_consumer}
use Rattle.session_core.specs.Speaking.{spoken}
use Rattle.session_core.specs.Polling.{is_open, poll_row}

-- of the confirms that are ready none is of a publisher that stands
pub record NoConfirm {S : Type 0} (m : HubMeaning S) (t : Tables) (a b : S) : Type 0 where
  pub ready : List Confirm
  pub handed : m.does (Confirming t.number) a (Ok ready) b
  pub none : AllByRecursion (λ (c : Confirm). id_of t.publishers c ≡ None) ready

-- no publisher or subscription is on the stream, or each is of the epoch that runs there
pub data StreamStays {S : Type 0} (m : HubMeaning S) (t : Tables) (k : StreamName) (a b : S) : Type 0 where
  Unused : has_over k.stream None t ≡ false → b ≡ a → StreamStays m t k a b
  Same : has_over k.stream None t ≡ true → (found : Found) → m.does (Finding (name_of k.name)) a found b → has_over k.stream (running_on k.stream found) t ≡ false → StreamStays m t k a b

abbrev pub StreamsStay : {S : Type 0} → HubMeaning S → Tables → List StreamName → S → S → Type 0
StreamsStay m t [] a b = b ≡ a
StreamsStay {S} m t (k ∷ ks) a b = (h : S) × StreamStays m t k a h × StreamsStay m t ks h b

-- these changes are handed out
abbrev pub Changes : {S : Type 0} → HubMeaning S → ℕ → List Change → S → S → Type 0
Changes m session [] a b = b ≡ a
Changes {S} m session (c ∷ cs) a b = (h : S) × m.does (Changing session) a (Some c) h × Changes m session cs h b

-- Of the changes of groups, of which so many are asked for at most, none is of a consumer that has a subscription.
pub record NoTurn {S : Type 0} (m : HubMeaning S) (t : Tables) (most : ℕ) (a b : S) : Type 0 where
  pub changes : List Change
  pub hub : S
  pub handed : Changes m t.number changes a hub
  pub none : AllByRecursion (λ (c : Change). position (is_consumer c.consumer.serial) t.subscriptions ≡ None) changes
  pub rest : ((length changes ≡ most) × (b ≡ hub)) ⊎ ((length changes < most) × m.does (Changing t.number) hub None b)

-- no chunk of its stream is at or above the next offset
pub record NoChunk {S : Type 0} (m : HubMeaning S) (s : Subscription) (a b : S) : Type 0 where
  pub asked : m.does (NextChunk s.stream s.next) a (Ok None) b
  pub none : next_above s.next (m.seen.lists b s.stream) ≡ None

-- a subscription gets nothing
pub data GetsNone {S : Type 0} (m : HubMeaning S) (session : ℕ) (s : Subscription) (a b : S) : Type 0 where
  NoCredit : s.credit ≡ 0 → b ≡ a → GetsNone m session s a b
  Alone : s.credit ≢ 0 → s.single ≡ None → NoChunk m s a b → GetsNone m session s a b
  Active : s.credit ≢ 0 → (serial : ℕ) (h : S) → s.single ≡ Some serial → m.does (IsActive (record { session = session; serial = serial })) a true h → NoChunk m s h b → GetsNone m session s a b
  Waits : s.credit ≢ 0 → (serial : ℕ) → s.single ≡ Some serial → m.does (IsActive (record { session = session; serial = serial })) a false b → GetsNone m session s a b

abbrev pub SlotGetsNone : {S : Type 0} → HubMeaning S → ℕ → Option Subscription → S → S → Type 0
SlotGetsNone m session None a b = b ≡ a
SlotGetsNone m session (Some s) a b = GetsNone m session s a b

abbrev pub AllGetNone : {S : Type 0} → HubMeaning S → ℕ → List (Option Subscription) → S → S → Type 0
AllGetNone m session [] a b = b ≡ a
AllGetNone {S} m session (s ∷ ss) a b = (h : S) × SlotGetsNone m session s a h × AllGetNone m session ss h b

-- nothing is due of a session, by what its hub answers one question after the other
pub record NothingDue {S : Type 0} (m : HubMeaning S) (t : Tables) (h0 h1 : S) : Type 0 where
  pub confirmed : S
  pub stayed : S
  pub turned : S
  pub confirms : NoConfirm m t h0 confirmed
  pub streams : StreamsStay m t t.streams confirmed stayed
  pub turns : NoTurn m t 256 stayed turned
  pub deliveries : AllGetNone m t.number t.subscriptions turned h1

-- A poll of an open connection, with a place for each of 256 ids, adds nothing exactly where nothing is due, and then it changes nothing.
abbrev pub SilenceIsExact : {S : Type 0} → HubMeaning S → Type 0
SilenceIsExact {S} m =
    (t new : Tables) (out : List Unasked) (h0 h1 : S) → is_open t.ended t.stage ≡ true → length t.subscriptions ≡ 256
    → Runs m (poll_row t out) h0 (spoken out new) h1 ↔ ((new ≡ t) × NothingDue m t h0 h1)
