-- The list machine that a node shows.
use Rattle.std.specs.Prelude.{◌≡◌, ℕ, ◌+◌, ◌≤◌, ◌==◌, ◌&&◌, Bool, true, false, if◌then◌else◌, List, [], ◌∷◌, ◌++◌, map, count_by, Option, Some, None}
use Rattle.std.specs.List.{AllByRecursion, flat_map}
use Rattle.chunk_format.specs.declared.entry.Entry.{Entry}
use Rattle.chunk_format.specs.declared.chunk.Chunk.{Chunk}
use Rattle.command_data.specs.declared.item.Tagged.{Tagged}
use Rattle.replay_node.specs.declared.session.Offer.{Offer}
use Rattle.replay_node.specs.declared.session.Link.{Link}
use Rattle.script_text.specs.declared.script.ScriptLine.{ScriptLine}
use Rattle.replay_node.specs.Sessions.{IsOffer, is_declared}
use Rattle.script_text.specs.declared.output.OutputLine.{OutputLine}
use Rattle.replay_node.specs.Outputs.{output_lines}
use Rattle.replay_node.specs.NodeState.{NodeState, entries, find_link}
use Rattle.script_text.specs.Script.{Spells}
use Rattle.replay_node.specs.Machine.{StreamState, PublisherState, ConnectionState, Machine, untagged, last_epoch}
use Rattle.replay_node.specs.MachineSteps.{Event, MachineRun}
use Rattle.replay_node.specs.Transcripts.{LineEvents}

-- the entries of offers
abbrev pub offered : List Offer → List Entry
offered offers = flat_map (λ (offer : Offer). entries offer.items) offers

-- the frames of a publisher among offers
abbrev pub frames_of : ℕ → ℕ → List Offer → List (List Tagged)
frames_of connection publisher [] = []
frames_of connection publisher (offer ∷ offers) =
    if (offer.connection == connection) && (offer.publisher == publisher) then offer.items ∷ frames_of connection publisher offers else frames_of connection publisher offers

-- a publisher without a name, on stream 1
abbrev pub publisher_with : ℕ → List (List Tagged) → PublisherState
publisher_with id frames = record { id = id; stream = 1; name = None; unanswered = frames }

abbrev pub publishers_of : ℕ → List Offer → List ℕ → List PublisherState
publishers_of connection offers ids = map (λ (id : ℕ). publisher_with id (frames_of connection id offers)) ids

abbrev pub connection_of : List Offer → Link → ℕ × ConnectionState
connection_of offers link = (link.number, record { rest = link.rest; inbox = []; publishers = publishers_of link.number offers link.publishers })

abbrev pub stream_with : List ℕ → List Chunk → List Entry → StreamState
stream_with name ch confirmed = record { name = name; chunks = ch; seen = ch; confirmed = confirmed }

abbrev pub last_of : Option (List ℕ) → ℕ
last_of None = 0
last_of (Some name) = 1

abbrev pub streams_of : Option (List ℕ) → List Chunk → List Entry → List (ℕ × StreamState)
streams_of None ch confirmed = []
streams_of (Some name) ch confirmed = (1, stream_with name ch confirmed) ∷ []

-- the machine of a node in which these entries were confirmed
abbrev pub machine_of : NodeState → List Entry → Machine
machine_of node confirmed = record {
  last = last_of node.stream;
  streams = streams_of node.stream node.chunks confirmed;
  connections = map (connection_of (node.unconfirmed ++ node.queued)) node.links;
}

-- no number stands twice
abbrev pub AreApart : List ℕ → Type 0
AreApart [] = Unit {0}
AreApart (n ∷ ns) = (is_declared n ns ≡ false) × AreApart ns

-- the offer is of a declared publisher of a connection
abbrev pub IsPlaced : List Link → Offer → Type 0
IsPlaced links offer = (link : Link) × (find_link offer.connection links ≡ Some link) × (is_declared offer.publisher link.publishers ≡ true)

-- before there is a stream there is nothing
abbrev pub IsEarly : NodeState → Type 0
IsEarly node = node.stream ≡ None → (node.links ≡ []) × ((node.chunks ≡ []) × ((node.queued ≡ []) × (node.unconfirmed ≡ [])))

pub record IsShown (node : NodeState) (confirmed : List Entry) : Type 0 where
  -- the confirmed entries and those that wait for their confirm stand in the list
  pub rows : (p : Entry → Bool) → count_by p confirmed + count_by p (offered node.unconfirmed) ≤ count_by p (untagged node.chunks)
  pub epoch : last_epoch node.chunks ≤ 1
  pub offers : AllByRecursion IsOffer (node.unconfirmed ++ node.queued)
  pub placed : AllByRecursion (IsPlaced node.links) (node.unconfirmed ++ node.queued)
  pub apart : AreApart (map (λ (link : Link). link.number) node.links)
  pub publishers : AllByRecursion (λ (link : Link). AreApart link.publishers) node.links
  pub early : IsEarly node

pub record Shows (node : NodeState) (machine : Machine) : Type 0 where
  pub confirmed : List Entry
  pub is : machine ≡ machine_of node confirmed
  pub shown : IsShown node confirmed

-- a run, and the node shows the machine after it
abbrev pub RunsTo : Machine → List Event → NodeState → Type 0
RunsTo machine events node = (new : Machine) × MachineRun machine events new × Shows node new

-- a line and what it gave are a run, and the node shows the machine after it
abbrev pub GivesRun : Machine → ScriptLine → List OutputLine → NodeState → Type 0
GivesRun machine line outputs node = (events : List Event) × LineEvents line outputs events × RunsTo machine events node

-- Whatever machine the node showed, the line that was read and the lines that it gave are steps of it, to a machine that the node shows then.
abbrev pub LineRuns : NodeState → List ℕ → List (List ℕ) → NodeState → Type 0
LineRuns old bytes lines new =
    (machine : Machine) → Shows old machine
    → (line : ScriptLine) × Spells bytes line × (outputs : List OutputLine) × (lines ≡ output_lines outputs) × GivesRun machine line outputs new
