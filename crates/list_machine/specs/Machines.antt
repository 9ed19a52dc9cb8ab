-- The state of the list machine: streams by number, and connections by number.
use Rattle.std.specs.Prelude.{◌≡◌, ◌≢◌, ℕ, ◌+◌, ◌==◌, if◌then◌else◌, List, [], ◌∷◌, length, Option, Some}
use Rattle.std.specs.List.{AllByRecursion, list_any}
use Rattle.script_text.specs.declared.output.Ending.{Ending}
use Rattle.command_all.specs.declared.command.Command.{Command}
use Rattle.command_all.specs.Reading.{ReadingEnd, Partial}
use Rattle.list_machine.specs.Items.{AnyByRecursion}
use Rattle.list_machine.specs.Streams.{Subscription, live, Stream, no_stream}
use Rattle.list_machine.specs.Publishing.{Declared}
use Rattle.list_machine.specs.Moves.{Move, begins, finishes}

-- A connection: not made yet, open, about to end since its end is decided and not written, or gone.
pub data Phase : Type 0 where
  unused : Phase
  open_now : Phase
  leaving : Ending → Phase
  gone : Phase

-- A connection: the bytes that are no whole frame yet, and how reading them ended; the commands that were read and aren't
-- handled; the answers that are fixed and aren't written; the version of Deliver; how often the server asked it something.
pub record Connection : Type 0 where
  pub phase : Phase
  pub rest : List ℕ
  pub cut : ReadingEnd
  pub inbox : List Command
  pub owed : List Command
  pub version : ℕ
  pub asked : ℕ

-- A change of the streams: new ones with these names, as partitions of a super stream or of none; or these end.
pub data Change : Type 0 where
  adds : Option (List ℕ) → List (Option (List ℕ)) → Change
  drops : List ℕ → Change

-- What the line read last is about: nothing that makes streams, a stream to be made, or the opening of all anew.
pub data Doing : Type 0 where
  idle : Doing
  making : List ℕ → Doing
  reopening : Doing

-- `last` is the number given last to a stream; `unsure` are the changes answered by an internal error, of which it isn't
-- known whether they happened; `moment` is the moment set last.
pub record Machine : Type 0 where
  pub streams : ℕ → Stream
  pub connections : ℕ → Connection
  pub last : ℕ
  pub unsure : List Change
  pub doing : Doing
  pub moment : ℕ

abbrev pub no_connection : Connection
no_connection = record { phase = unused; rest = []; cut = Partial; inbox = []; owed = []; version = 1; asked = 0 }

-- a connection that was just made
abbrev pub fresh : Connection
fresh = record { phase = open_now; rest = []; cut = Partial; inbox = []; owed = []; version = 1; asked = 0 }

-- the machine with nothing
abbrev pub empty_machine : Machine
empty_machine = record { streams = λ (number : ℕ). no_stream; connections = λ (number : ℕ). no_connection; last = 0; unsure = []; doing = idle; moment = 0 }

-- another value at a number
abbrev pub put : {X : Type 0} → ℕ → X → (ℕ → X) → ℕ → X
put number value old other = if other == number then value else old other

-- ---- moves at streams

-- the moves of an event, by the number of the stream
abbrev pub Moves : Type 0
Moves = ℕ → List Move

abbrev pub nowhere : Moves
nowhere number = []

abbrev pub only : ℕ → List Move → Moves
only number moves other = if other == number then moves else []

abbrev pub everywhere : List Move → Moves
everywhere moves number = moves

-- new streams have the numbers behind the last, in order
abbrev pub begun : ℕ → Option (List ℕ) → List (Option (List ℕ)) → Moves
begun last super [] number = []
begun last super (text ∷ texts) number = if number == last + 1 then begins text super ∷ [] else begun (last + 1) super texts number

abbrev pub finished : List ℕ → Moves
finished numbers number = if list_any (λ (n : ℕ). n == number) numbers then finishes ∷ [] else []

abbrev pub changed : ℕ → Change → Moves
changed last (adds super texts) = begun last super texts
changed last (drops numbers) = finished numbers

abbrev pub last_behind : ℕ → Change → ℕ
last_behind last (adds super texts) = last + length texts
last_behind last (drops numbers) = last

-- ---- names and ids

-- the live stream of this number has this name
abbrev pub IsNamed : Machine → Option (List ℕ) → ℕ → Type 0
IsNamed machine text number = ((machine.streams number).life ≡ live) × (text ≡ Some (machine.streams number).name)

-- no live stream has the name
abbrev pub IsMissing : Machine → Option (List ℕ) → Type 0
IsMissing machine text = (number : ℕ) → IsNamed machine text number → ⊥

-- no live stream has one of the names, and they differ
abbrev pub AreNew : Machine → List (Option (List ℕ)) → Type 0
AreNew machine [] = Unit {0}
AreNew machine (text ∷ texts) = IsMissing machine text × AllByRecursion (λ (other : Option (List ℕ)). other ≢ text) texts × AreNew machine texts

-- the streams of a change may be made
abbrev pub IsPossible : Machine → Change → Type 0
IsPossible machine (adds super texts) = AreNew machine texts
IsPossible machine (drops numbers) = Unit {0}

-- the live stream of this number is a partition of this super stream
abbrev pub IsPartition : Machine → List ℕ → ℕ → Type 0
IsPartition machine super number = ((machine.streams number).life ≡ live) × ((machine.streams number).super ≡ Some super)

-- these are the partitions of this super stream
pub record ArePartitions (machine : Machine) (super : List ℕ) (numbers : List ℕ) : Type 0 where
  pub each : AllByRecursion (IsPartition machine super) numbers
  pub all : (number : ℕ) → IsPartition machine super number → AnyByRecursion (λ (n : ℕ). n ≡ number) numbers

-- on no stream a declaration of this connection and id stands
abbrev pub IsUndeclared : Machine → ℕ → ℕ → Type 0
IsUndeclared machine connection id = (number : ℕ) → Declared (machine.streams number) connection id → ⊥

-- on no stream there is a subscription of this connection and id
abbrev pub IsUnsubscribed : Machine → ℕ → ℕ → Type 0
IsUnsubscribed machine connection id =
    (number : ℕ) → AllByRecursion (λ (s : Subscription). s.connection ≡ connection → s.id ≡ id → ⊥) (machine.streams number).subscriptions
