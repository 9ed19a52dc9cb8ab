-- A client, its connections, and the stream that it publishes to.
use Rattle.std.specs.Prelude.{◌≡◌, ℕ, ◌+◌, ◌≤◌, true, List, [], ◌∷◌, ◌++◌, map, flat_map, Option, Some, None}
use Rattle.std.specs.List.{AllByRecursion}
use Rattle.chunk_format.specs.declared.entry.Entry.{Entry}
use Rattle.chunk_format.specs.declared.entry.Entry.TheVariants.{Simple, Batch}
use Rattle.command_fields.specs.declared.offset.OffsetSpec.{OffsetSpec}
use Rattle.command_data.specs.declared.item.Tagged.{Tagged}
use Rattle.command_data.specs.declared.command.DataCommand.TheVariants.{DeclarePublisher, Publish}
use Rattle.command_all.specs.declared.command.Command.{Command}
use Rattle.command_all.specs.declared.command.Command.TheVariants.{Data}
use Rattle.command_all.specs.declared.identity.Identity.{Identity}
use Rattle.client_terms.specs.States.{ClientState, started, last_id}
use Rattle.client_terms.specs.Sending.{message}
use Rattle.client_terms.specs.Hearing.{Frame, answer, confirm, error, delivery, uncredited, update, tune, close, heartbeat, other, frame_of}
use Rattle.client_terms.specs.Steps.{Input, enqueues, creates, queries, subscribes, connects, loses, sends, hears, faults, takes, ClientStep}
use Rattle.list_machine.specs.Streams.{Declaration, Stream, no_stream}
use Rattle.list_machine.specs.Publishing.{DeclareStep, PublishStep}
use Rattle.list_machine.specs.Moves.{Move, MoveStep}
use Rattle.list_machine.specs.Machines.{put}
use Rattle.list_machine.specs.Discipline.{IsConfirmed}
use Rattle.client_laws.specs.Foreign.{IsForeign}

-- `all` is each message that was ever queued, under its id. `line` is the client's connection. Each connection has the
-- client's frames that no server read yet; those of earlier ones may still be read, or never.
pub record World : Type 0 where
  pub all : List Tagged
  pub client : ClientState
  pub line : ℕ
  pub unread : ℕ → List Command
  pub stream : Stream

abbrev pub first_world : Identity → Option (List ℕ) → List ℕ → ℕ → World
first_world identity stream name n = record { all = []; client = started identity stream (Some name) n; line = 0; unread = λ (c : ℕ). []; stream = no_stream }

-- messages under the ids behind a number
abbrev pub numbered : ℕ → List (List ℕ) → List Tagged
numbered n [] = []
numbered n (body ∷ bodies) = message (n + 1) body ∷ numbered (n + 1) bodies

-- What happens: the client gets an input; it gets a new connection, of this number; it starts anew with a number up to which
-- all was confirmed, and the kept messages are queued; a server reads the next frame of a connection; another move of the
-- stream is made.
pub data Event : Type 0 where
  calls : Input → Event
  connects_by : ℕ → Event
  restarts : ℕ → List (List ℕ) → Event
  reads : ℕ → Command → Event
  moves : Move → Event

-- ---- the client's calls

-- The ids that a frame says are stored were confirmed under the name before, on this connection or another.
abbrev pub IsTrueFrame : List ℕ → Stream → Frame → Type 0
IsTrueFrame name stream (confirm publisher ids) = publisher ≡ 0 → AllByRecursion (IsConfirmed name stream.confirmed) ids
IsTrueFrame name stream (answer said) = Unit {0}
IsTrueFrame name stream (error publisher refusals) = Unit {0}
IsTrueFrame name stream (delivery sub committed header payload) = Unit {0}
IsTrueFrame name stream (uncredited code sub) = Unit {0}
IsTrueFrame name stream (update code lost) = Unit {0}
IsTrueFrame name stream (tune frame_max) = Unit {0}
IsTrueFrame name stream (close code) = Unit {0}
IsTrueFrame name stream heartbeat = Unit {0}
IsTrueFrame name stream (other key) = Unit {0}

-- nothing else of what a server writes need be true
abbrev pub IsTrueInput : List ℕ → Stream → Input → Type 0
IsTrueInput name stream (hears command) = IsTrueFrame name stream (frame_of command)
IsTrueInput name stream connects = ⊥
IsTrueInput name stream (enqueues body) = Unit {0}
IsTrueInput name stream creates = Unit {0}
IsTrueInput name stream queries = Unit {0}
IsTrueInput name stream (subscribes spec credit) = Unit {0}
IsTrueInput name stream loses = Unit {0}
IsTrueInput name stream sends = Unit {0}
IsTrueInput name stream (faults command fault) = Unit {0}
IsTrueInput name stream takes = Unit {0}

-- the message that an input queues, by the client before it
abbrev pub queued : ClientState → Input → List Tagged
queued s (enqueues body) = message (last_id s + 1) body ∷ []
queued s creates = []
queued s queries = []
queued s (subscribes spec credit) = []
queued s connects = []
queued s loses = []
queued s sends = []
queued s (hears command) = []
queued s (faults command fault) = []
queued s takes = []

abbrev pub frames_of : Option Command → List Command
frames_of None = []
frames_of (Some command) = command ∷ []

pub record CallStep (name : List ℕ) (old : World) (input : Input) (new : World) : Type 0 where
  pub frame : Option Command
  pub client : ClientState
  pub step : ClientStep old.client input frame client
  pub true_input : IsTrueInput name old.stream input
  pub is : new ≡ record old { all = old.all ++ queued old.client input; client = client; unread = put old.line (old.unread old.line ++ frames_of frame) old.unread }

-- no declaration of the name is one of the connection; and none of these stands
abbrev pub IsUnused : List ℕ → ℕ → List Declaration → Type 0
IsUnused name c declarations = AllByRecursion (λ (d : Declaration). d.name ≡ Some name → d.connection ≡ c → ⊥) declarations

abbrev pub NoneStands : List ℕ → ℕ → List Declaration → Type 0
NoneStands name c declarations = AllByRecursion (λ (d : Declaration). d.name ≡ Some name → d.connection ≡ c → d.stands ≡ true → ⊥) declarations

pub record ConnectStep (name : List ℕ) (old : World) (c : ℕ) (new : World) : Type 0 where
  pub client : ClientState
  pub step : ClientStep old.client connects None client
  pub unused : IsUnused name c old.stream.declarations
  pub is : new ≡ record old { client = client; line = c; unread = put c [] old.unread }

-- The messages up to n were confirmed under the name, and the queue has those behind n, under their ids.
pub record Kept (name : List ℕ) (all : List Tagged) (stream : Stream) (n : ℕ) (queue : List (List ℕ)) : Type 0 where
  pub front : List Tagged
  pub is : all ≡ front ++ numbered n queue
  pub below : AllByRecursion (λ (x : Tagged). x.id ≤ n) front
  pub stood : AllByRecursion (λ (x : Tagged). IsConfirmed name stream.confirmed x.id) front

abbrev pub restarted : ClientState → ℕ → List (List ℕ) → ClientState
restarted s n kept = record (started s.identity s.stream s.name n) { queue = kept }

-- ---- what servers do

-- the frame publishes under the client's publisher
abbrev pub IsPublish : Command → Type 0
IsPublish (Data (Publish publisher items)) = Unit {0}
IsPublish command = ⊥

-- A server reads a frame of a connection: it declares the name, takes what is published to the declaration that stands, or
-- does nothing now: a Publish frame is passed over only where no declaration of the name stands.
pub data ReadStep (name : List ℕ) (c : ℕ) (old : Stream) (command : Command) (new : Stream) : Type 0 where
  ReadsName : (corr : ℕ) (stream : Option (List ℕ)) → command ≡ Data (DeclarePublisher corr 0 (Some name) stream) → DeclareStep old c 0 (Some name) new → ReadStep name c old command new
  ReadsItems : (items : List Tagged) → command ≡ Data (Publish 0 items) → (step : PublishStep old c 0 items new) → step.at.declaration.name ≡ Some name → ReadStep name c old command new
  ReadsOn : (IsPublish command → NoneStands name c old.declarations) → new ≡ old → ReadStep name c old command new

pub record ServeStep (name : List ℕ) (old : World) (c : ℕ) (command : Command) (new : World) : Type 0 where
  pub rest : List Command
  pub next : old.unread c ≡ command ∷ rest
  pub stream : Stream
  pub reads : ReadStep name c old.stream command stream
  pub is : new ≡ record old { unread = put c rest old.unread; stream = stream }

pub record OtherStep (name : List ℕ) (old : World) (move : Move) (new : World) : Type 0 where
  pub stream : Stream
  pub step : MoveStep old.stream move stream
  pub foreign : IsForeign name old.stream move stream step
  pub is : new ≡ record old { stream = stream }

-- ---- runs

abbrev pub WorldStep : List ℕ → World → Event → World → Type 0
WorldStep name old (calls input) new = CallStep name old input new
WorldStep name old (connects_by c) new = ConnectStep name old c new
WorldStep name old (restarts n kept) new = Kept name old.all old.stream n kept × (new ≡ record old { client = restarted old.client n kept })
WorldStep name old (reads c command) new = ServeStep name old c command new
WorldStep name old (moves move) new = OtherStep name old move new

abbrev pub WorldRun : List ℕ → World → List Event → World → Type 0
WorldRun name old [] new = new ≡ old
WorldRun name old (event ∷ events) new = (mid : World) × WorldStep name old event mid × WorldRun name mid events new

-- ---- what was queued

abbrev pub body_in : Entry → List (List ℕ)
body_in (Simple body) = body ∷ []
body_in (Batch compression spare records uncompressed body) = []

abbrev pub bodies_of : List Tagged → List (List ℕ)
bodies_of items = flat_map (λ (x : Tagged). body_in x.entry) items

abbrev pub enqueued_by_input : Input → List (List ℕ)
enqueued_by_input (enqueues body) = body ∷ []
enqueued_by_input creates = []
enqueued_by_input queries = []
enqueued_by_input (subscribes spec credit) = []
enqueued_by_input connects = []
enqueued_by_input loses = []
enqueued_by_input sends = []
enqueued_by_input (hears command) = []
enqueued_by_input (faults command fault) = []
enqueued_by_input takes = []

abbrev pub enqueued_by : Event → List (List ℕ)
enqueued_by (calls input) = enqueued_by_input input
enqueued_by (connects_by c) = []
enqueued_by (restarts n kept) = []
enqueued_by (reads c command) = []
enqueued_by (moves move) = []

-- the messages that events queue, in order
abbrev pub enqueued_by_all : List Event → List (List ℕ)
enqueued_by_all events = flat_map enqueued_by events
