-- What a client is to do, before it has a connection.
use Rattle.std.specs.Prelude.{◌≡◌, ℕ, ◌<◌, List, [], length, drop, codes, Option, Some, None, Result, Ok, Err}
use Rattle.std.specs.List.{All, Contains}
use Rattle.command_fields.specs.declared.offset.OffsetSpec.TheVariants.{At}
use Rattle.command_all.specs.declared.identity.Identity.{Identity}
use Rattle.command_reader.specs.States.{new_reader}
use Rattle.client_terms.specs.States.{ClientState, started, linked}
use Rattle.client_terms.specs.Steps.{created, queried, subscribed}
use Rattle.stream_client.specs.Cores.{CoreState, frame_max}
use Rattle.client_program.specs.Words.{Deed, creates, publishes, resumes, consumes, queries, Asked}
use Rattle.client_program.specs.Lines.{AreLines, IsShortLine, longest_line, filled}
use Rattle.client_program.specs.declared.lines.LinesFault.{LinesFault}
use Rattle.client_program.specs.declared.lines.LinesFault.TheVariants.{TooLong, Memory}

-- the user and the password are both `guest`
abbrev pub guest : Identity
guest = record { user = codes "guest"; password = codes "guest"; host = None; port = 0 }

abbrev pub name_of : Deed → Option (List ℕ)
name_of creates = None
name_of (publishes name) = Some name
name_of (resumes name from) = Some name
name_of (consumes offset count) = None
name_of (queries name) = Some name

-- up to which id all is confirmed before
abbrev pub confirmed_of : Deed → ℕ
confirmed_of creates = 0
confirmed_of (publishes name) = 0
confirmed_of (resumes name from) = from
confirmed_of (consumes offset count) = 0
confirmed_of (queries name) = 0

-- how many entries are wanted
abbrev pub wanted_of : Deed → ℕ
wanted_of creates = 0
wanted_of (publishes name) = 0
wanted_of (resumes name from) = 0
wanted_of (consumes offset count) = count
wanted_of (queries name) = 0

-- Which lines are messages: those of a publisher, and of one that resumes those behind the confirmed ones. The number of a
-- line is its id.
abbrev pub messages_of : Deed → List (List ℕ) → List (List ℕ)
messages_of creates lines = []
messages_of (publishes name) lines = lines
messages_of (resumes name from) lines = drop from lines
messages_of (consumes offset count) lines = []
messages_of (queries name) lines = []

-- its wish: the stream is made; entries come from an offset on, with 10 chunks of credit; the greatest id is told
abbrev pub wishing : Deed → ClientState → ClientState
wishing creates s = created s
wishing (publishes name) s = s
wishing (resumes name from) s = s
wishing (consumes offset count) s = subscribed s (At offset) 10
wishing (queries name) s = queried s

-- the client before it has a connection
abbrev pub client_of : Asked → List (List ℕ) → ClientState
client_of a lines = wishing a.deed (filled (started guest (Some a.stream) (name_of a.deed) (confirmed_of a.deed)) (messages_of a.deed lines))

-- and at the begin of its connection
abbrev pub core_of : Asked → List (List ℕ) → CoreState
core_of a lines = record { client = linked (client_of a lines); reader = new_reader frame_max }

-- a publisher's lines have at most 1,000,000 bytes each
abbrev pub HasShortLines : Deed → List (List ℕ) → Type 0
HasShortLines creates lines = Unit {0}
HasShortLines (publishes name) lines = All IsShortLine lines
HasShortLines (resumes name from) lines = All IsShortLine lines
HasShortLines (consumes offset count) lines = Unit {0}
HasShortLines (queries name) lines = Unit {0}

abbrev pub HasLongLine : List (List ℕ) → Type 0
HasLongLine lines = (line : List ℕ) × Contains lines line × (longest_line < length line)

abbrev pub QueuedBy : Result (Unit {0}) LinesFault → Deed → List (List ℕ) → ClientState → ClientState → Type 0
QueuedBy (Ok u) d lines old new = HasShortLines d lines × (new ≡ filled old (messages_of d lines))
QueuedBy (Err TooLong) d lines old new = HasLongLine lines
QueuedBy (Err Memory) d lines old new = Unit {0}

-- the messages were queued, unless a line is too long or there was no memory
pub record QueuesFor (result : Result (Unit {0}) LinesFault) (d : Deed) (text : List ℕ) (old new : ClientState) : Type 0 where
  pub lines : List (List ℕ)
  pub are : AreLines text lines
  pub by : QueuedBy result d lines old new

abbrev pub MadeBy : Result CoreState LinesFault → Asked → List (List ℕ) → Type 0
MadeBy (Ok core) a lines = HasShortLines a.deed lines × (core ≡ core_of a lines)
MadeBy (Err TooLong) a lines = HasLongLine lines
MadeBy (Err Memory) a lines = Unit {0}

-- the client was made with its messages and its wish, unless a line is too long or there was no memory
pub record MakesCore (result : Result CoreState LinesFault) (a : Asked) (text : List ℕ) : Type 0 where
  pub lines : List (List ℕ)
  pub are : AreLines text lines
  pub by : MadeBy result a lines
