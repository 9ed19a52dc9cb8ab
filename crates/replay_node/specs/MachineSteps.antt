-- The steps of the list machine: what a line that is read does, and what a line that is written does.
use Rattle.std.specs.Prelude.{◌≡◌, ◌≢◌, ℕ, ◌+◌, ◌≤◌, ◌⊎◌, false, List, [], ◌∷◌, ◌++◌, length, map, Option, Some, None}
use Rattle.frame_wire.specs.Frames.{frame}
use Rattle.chunk_format.specs.declared.chunk.Chunk.{Chunk}
use Rattle.chunk_format.specs.Chunks.{ChunkSpells}
use Rattle.command_data.specs.declared.item.Tagged.{Tagged}
use Rattle.command_data.specs.declared.command.DataCommand.{DataCommand}
use Rattle.command_data.specs.declared.command.DataCommand.TheVariants.{DeclarePublisher, Publish, PublishError, Credit, CreditFault, Plain}
use Rattle.command_data.specs.Commands.{DataSpells}
use Rattle.frame_commands.specs.Given.{CommandsOf}
use Rattle.script_text.specs.declared.script.ScriptLine.{ScriptLine}
use Rattle.script_text.specs.declared.script.ScriptLine.TheVariants.{Create, Prepare, Give, Poll, Settle}
use Rattle.replay_node.specs.Commands.{frame_max, SpellsConfirm}
use Rattle.replay_node.specs.Sessions.{is_declared, refusals}
use Rattle.script_text.specs.declared.output.OutputLine.{OutputLine}
use Rattle.script_text.specs.declared.output.OutputLine.TheVariants.{Committed, Sent}
use Rattle.replay_node.specs.NodeState.{end_of_list}
use Rattle.replay_node.specs.Machine.{StreamState, PublisherState, ConnectionState, Machine, find, put, Counted, last_epoch}

-- no live stream has the name
abbrev pub IsFree : List ℕ → Machine → Type 0
IsFree name machine = (number : ℕ) (stream : StreamState) → find number machine.streams ≡ Some stream → stream.name ≡ name → ⊥

abbrev pub new_stream : List ℕ → StreamState
new_stream name = record { name = name; chunks = []; seen = []; confirmed = [] }

-- a connection with publisher 0 declared on a stream, without a name
abbrev pub prepared : ℕ → ConnectionState
prepared stream = record { rest = []; inbox = []; publishers = record { id = 0; stream = stream; name = None; unanswered = [] } ∷ [] }

-- A piece of bytes is joined to its connection's bytes, and these are read as frames of commands, which wait in its inbox.
pub record GiveStep (old : Machine) (connection : ℕ) (piece : List ℕ) (new : Machine) : Type 0 where
  pub state : ConnectionState
  pub is_there : find connection old.connections ≡ Some state
  pub commands : List DataCommand
  pub rest : List ℕ
  pub reads : CommandsOf frame_max (state.rest ++ piece) commands rest
  pub is : new ≡ record old { connections = put connection (record state { rest = rest; inbox = state.inbox ++ commands }) old.connections }

-- what a read line does
abbrev pub ReadStep : Machine → ScriptLine → Machine → Type 0
-- a stream is made, under the next number
ReadStep old (Create name) new =
    IsFree name old × (new ≡ record old { last = old.last + 1; streams = old.streams ++ (old.last + 1, new_stream name) ∷ [] })
-- a connection is made, prepared on a live stream
ReadStep old (Prepare connection name) new =
    (find connection old.connections ≡ None)
    × (number : ℕ) × (stream : StreamState) × (find number old.streams ≡ Some stream) × (stream.name ≡ name)
    × (new ≡ record old { connections = old.connections ++ (connection, prepared number) ∷ [] })
ReadStep old (Give connection piece) new = GiveStep old connection piece new
-- to settle and to poll are no steps: what is committed and sent then is in the lines that are written
ReadStep old (Poll connection) new = new ≡ old
ReadStep old (Settle stream) new = new ≡ old
ReadStep old other new = ⊥

-- Commit: the chunk begins at the end of the stream's list, and its epoch is not below that of the last.
pub record CommitStep (old : Machine) (stream : ℕ) (bytes : List ℕ) (new : Machine) : Type 0 where
  pub state : StreamState
  pub is_live : find stream old.streams ≡ Some state
  pub chunk : Chunk
  pub spells : ChunkSpells chunk bytes
  pub at_end : chunk.first ≡ end_of_list state.chunks
  pub epoch : last_epoch state.chunks ≤ chunk.epoch
  pub is : new ≡ record old { streams = put stream (record state { chunks = state.chunks ++ chunk ∷ []; seen = state.chunks ++ chunk ∷ [] }) old.streams }

-- Confirm: the ids are those of one Publish frame of this declaration that had no confirm and no error, in its order,
-- and Counted holds after the step.
pub record ConfirmStep (old : Machine) (connection : ℕ) (bytes : List ℕ) (new : Machine) : Type 0 where
  pub state : ConnectionState
  pub is_there : find connection old.connections ≡ Some state
  pub before : List PublisherState
  pub publisher : PublisherState
  pub after : List PublisherState
  pub declared : state.publishers ≡ before ++ publisher ∷ after
  pub unnamed : publisher.name ≡ None
  pub earlier : List (List Tagged)
  pub items : List Tagged
  pub later : List (List Tagged)
  pub unanswered : publisher.unanswered ≡ earlier ++ items ∷ later
  pub body : List ℕ
  pub framed : bytes ≡ frame body
  pub confirms : SpellsConfirm body publisher.id (map (λ (item : Tagged). item.id) items)
  pub stream : StreamState
  pub is_live : find publisher.stream old.streams ≡ Some stream
  pub counted : Counted (record stream { confirmed = stream.confirmed ++ map (λ (item : Tagged). item.entry) items })
  pub is : new ≡ record old {
    streams = put publisher.stream (record stream { confirmed = stream.confirmed ++ map (λ (item : Tagged). item.entry) items }) old.streams;
    connections = put connection (record state { publishers = before ++ record publisher { unanswered = earlier ++ later } ∷ after }) old.connections;
  }

-- the ids of publishers
abbrev pub publisher_ids : List PublisherState → List ℕ
publisher_ids publishers = map (λ (publisher : PublisherState). publisher.id) publishers

-- Handling a command that is owed no answer: a Publish with no items does nothing, and another one of a declared
-- publisher waits for its confirm.
abbrev pub Handles : List PublisherState → DataCommand → List PublisherState → Type 0
Handles old (Publish id []) new = new ≡ old
Handles old (Publish id (item ∷ items)) new =
    (before : List PublisherState) × (publisher : PublisherState) × (after : List PublisherState)
    × (old ≡ before ++ publisher ∷ after) × (publisher.id ≡ id)
    × (new ≡ before ++ record publisher { unanswered = publisher.unanswered ++ (item ∷ items) ∷ [] } ∷ after)
Handles old other new = ⊥

-- the inbox's first command is handled
pub record HandleStep (old : Machine) (connection : ℕ) (new : Machine) : Type 0 where
  pub state : ConnectionState
  pub is_there : find connection old.connections ≡ Some state
  pub command : DataCommand
  pub later : List DataCommand
  pub first : state.inbox ≡ command ∷ later
  pub publishers : List PublisherState
  pub handles : Handles state.publishers command publishers
  pub is : new ≡ record old { connections = put connection (record state { inbox = later; publishers = publishers }) old.connections }

-- a null or empty reference is no name
abbrev pub name_of : Option (List ℕ) → Option (List ℕ)
name_of None = None
name_of (Some []) = None
name_of (Some (byte ∷ bytes)) = Some (byte ∷ bytes)

-- A declaration was answered by code 1, and the publisher is declared on the live stream of that name; the id was not
-- declared on its connection. Or it was answered by another code, and is not.
abbrev pub Declares : Machine → List PublisherState → ℕ → Option (List ℕ) → Option (List ℕ) → ℕ → List PublisherState → Type 0
Declares machine old id reference name code new =
    ((code ≡ 1) × (is_declared id (publisher_ids old) ≡ false)
    × (number : ℕ) × (stream : StreamState) × (find number machine.streams ≡ Some stream) × (name ≡ Some stream.name)
    × (new ≡ old ++ record { id = id; stream = number; name = name_of reference; unanswered = [] } ∷ []))
    ⊎ ((code ≢ 1) × (new ≡ old))

-- What may answer a command, and the publishers behind the answer.
abbrev pub Answers : Machine → List PublisherState → DataCommand → DataCommand → List PublisherState → Type 0
-- a declaration is answered by its code
Answers machine old (DeclarePublisher corr id reference name) (Plain key other code) new = (key ≡ 0x8001) × (other ≡ corr) × Declares machine old id reference name code new
-- each message of an undeclared publisher is refused, in order
Answers machine old (Publish id items) (PublishError other refused) new =
    (other ≡ id) × (is_declared id (publisher_ids old) ≡ false) × (1 ≤ length items) × (refused ≡ refusals items) × (new ≡ old)
-- there is no subscription
Answers machine old (Credit sub credit) (CreditFault code other) new = (code ≡ 0x04) × (other ≡ sub) × (new ≡ old)
Answers machine old command answer new = ⊥

-- Answer: the frame is the answer of the inbox's first command.
pub record AnswerStep (old : Machine) (connection : ℕ) (bytes : List ℕ) (new : Machine) : Type 0 where
  pub state : ConnectionState
  pub is_there : find connection old.connections ≡ Some state
  pub command : DataCommand
  pub later : List DataCommand
  pub first : state.inbox ≡ command ∷ later
  pub body : List ℕ
  pub framed : bytes ≡ frame body
  pub answer : DataCommand
  pub spells : DataSpells answer body
  pub publishers : List PublisherState
  pub answers : Answers old state.publishers command answer publishers
  pub is : new ≡ record old { connections = put connection (record state { inbox = later; publishers = publishers }) old.connections }

-- what a written line does: a chunk is committed, or a frame that is sent confirms or answers
abbrev pub WriteStep : Machine → OutputLine → Machine → Type 0
WriteStep old (Committed stream chunk) new = CommitStep old stream chunk new
WriteStep old (Sent connection frame) new = ConfirmStep old connection frame new ⊎ AnswerStep old connection frame new
WriteStep old other new = ⊥

-- a line that was read, one that was written, or a command of a connection that was handled
pub data Event : Type 0 where
  read : ScriptLine → Event
  wrote : OutputLine → Event
  handled : ℕ → Event

abbrev pub MachineStep : Machine → Event → Machine → Type 0
MachineStep old (read line) new = ReadStep old line new
MachineStep old (wrote output) new = WriteStep old output new
MachineStep old (handled connection) new = HandleStep old connection new

-- events one after the other
abbrev pub MachineRun : Machine → List Event → Machine → Type 0
MachineRun old [] new = new ≡ old
MachineRun old (event ∷ events) new = (mid : Machine) × MachineStep old event mid × MachineRun mid events new
