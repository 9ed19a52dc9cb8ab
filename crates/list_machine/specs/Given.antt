-- What publishers gave: the items of the Publish commands that were handled.
use Rattle.std.specs.Prelude.{ℕ, ◌==◌, if◌then◌else◌, List, [], flat_map}
use Rattle.std.specs.List.{AllByRecursion}
use Rattle.command_data.specs.declared.item.Tagged.{Tagged}
use Rattle.command_data.specs.declared.command.DataCommand.TheVariants as data_commands
use Rattle.command_all.specs.declared.command.Command.{Command}
use Rattle.command_all.specs.declared.command.Command.TheVariants.{Data}
use Rattle.list_machine.specs.Items.{IsIn}
use Rattle.list_machine.specs.Streams.{Declaration, items_of}
use Rattle.list_machine.specs.Steps.{Event, read, handled, misread, made, refused, found, committed, sent, ended, told}

-- the items of a Publish command of this publisher
abbrev pub published_by : ℕ → Command → List Tagged
published_by id (Data (data_commands.Publish publisher items)) = if id == publisher then items else []
published_by id other = []

-- the items of a publisher of a connection in a command that an event handles
abbrev pub given_by : ℕ → ℕ → Event → List Tagged
given_by c id (handled other command answer) = if c == other then published_by id command else []
given_by c id (read line) = []
given_by c id (misread other answer) = []
given_by c id made = []
given_by c id (refused code) = []
given_by c id (found change) = []
given_by c id (committed number chunk) = []
given_by c id (sent other command) = []
given_by c id (ended other how) = []
given_by c id (told line) = []

-- all of them, in order
abbrev pub ItemsGiven : ℕ → ℕ → List Event → List Tagged
ItemsGiven c id events = flat_map (given_by c id) events

-- the declaration sent only what was given under its connection and id
abbrev pub WereGiven : List Event → Declaration → Type 0
WereGiven events d = AllByRecursion (λ (x : Tagged). IsIn x (ItemsGiven d.connection d.id events)) (items_of d)

-- some publisher gave the item
abbrev pub WasGiven : List Event → Tagged → Type 0
WasGiven events x = (c : ℕ) × (id : ℕ) × IsIn x (ItemsGiven c id events)
