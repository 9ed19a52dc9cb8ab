-- What others do at a stream: they don't use the client's name.
use Rattle.std.specs.Prelude.{◌≡◌, ℕ, List, Some}
use Rattle.list_machine.specs.Streams.{Stream}
use Rattle.list_machine.specs.Moves.{Move, begins, finishes, commits, declares, undeclares, publishes, refuses, confirms, subscribes, unsubscribes, asks, starts, rests, grants, delivers, stores, leaves, forgets, MoveStep}

-- It neither declares the name, nor takes a frame of a declaration of the name. That a declaration of it ends, and that a
-- frame of it is refused or confirmed, may come at any time.
abbrev pub IsForeign : List ℕ → (old : Stream) (move : Move) (new : Stream) → MoveStep old move new → Type 0
IsForeign name old (declares connection id declared) new step = declared ≡ Some name → ⊥
IsForeign name old (publishes connection id items) new step = step.at.declaration.name ≡ Some name → ⊥
IsForeign name old (begins text super) new step = Unit {0}
IsForeign name old finishes new step = Unit {0}
IsForeign name old (commits chunk) new step = Unit {0}
IsForeign name old (undeclares connection id) new step = Unit {0}
IsForeign name old (refuses connection id) new step = Unit {0}
IsForeign name old (confirms connection id named items) new step = Unit {0}
IsForeign name old (subscribes connection id group spec credits) new step = Unit {0}
IsForeign name old (unsubscribes connection id) new step = Unit {0}
IsForeign name old (asks connection id correlation activate) new step = Unit {0}
IsForeign name old (starts connection id correlation spec) new step = Unit {0}
IsForeign name old (rests connection id correlation) new step = Unit {0}
IsForeign name old (grants connection id credits) new step = Unit {0}
IsForeign name old (delivers connection id chunk) new step = Unit {0}
IsForeign name old (stores named offset) new step = Unit {0}
IsForeign name old (leaves connection) new step = Unit {0}
IsForeign name old forgets new step = Unit {0}
