-- Publishers of a stream: declarations, Publish frames, and their confirms.
use Rattle.std.specs.Prelude.{◌≡◌, ℕ, ◌==◌, ◌≤◌, if◌then◌else◌, Bool, true, false, List, [], ◌∷◌, ◌++◌, length, Option, Some, None}
use Rattle.command_data.specs.declared.item.Tagged.{Tagged}
use Rattle.list_machine.specs.Items.{items_in, AreReached}
use Rattle.list_machine.specs.Streams.{Frame, Confirmed, Declaration, live, Stream, items_of, Counted}

abbrev pub new_declaration : ℕ → ℕ → Option (List ℕ) → Declaration
new_declaration connection id name = record { connection = connection; id = id; name = name; frames = []; known = []; stands = true }

pub record DeclareStep (old : Stream) (connection id : ℕ) (name : Option (List ℕ)) (new : Stream) : Type 0 where
  pub is_live : old.life ≡ live
  pub is : new ≡ record old { declarations = old.declarations ++ new_declaration connection id name ∷ [] }

-- the declaration of this connection and id that stands
pub record Declared (old : Stream) (connection id : ℕ) : Type 0 where
  pub before : List Declaration
  pub declaration : Declaration
  pub after : List Declaration
  pub declared : old.declarations ≡ before ++ declaration ∷ after
  pub stands : declaration.stands ≡ true
  pub of_connection : declaration.connection ≡ connection
  pub of_id : declaration.id ≡ id

-- the stream's declarations with another in its place
abbrev pub turned : {old : Stream} {connection id : ℕ} → Declared old connection id → Declaration → List Declaration
turned at declaration = at.before ++ declaration ∷ at.after

pub record UndeclareStep (old : Stream) (connection id : ℕ) (new : Stream) : Type 0 where
  pub at : Declared old connection id
  pub is : new ≡ record old { declarations = turned at (record at.declaration { stands = false }) }

-- what a declaration knows: what was confirmed when its first item was taken
abbrev pub known_by : List Tagged → List Confirmed → List Confirmed → List Confirmed
known_by [] known confirmed = confirmed
known_by (x ∷ xs) known confirmed = known

-- A Publish frame with items is taken: it waits for its confirm.
pub record PublishStep (old : Stream) (connection id : ℕ) (items : List Tagged) (new : Stream) : Type 0 where
  pub is_live : old.life ≡ live
  pub has_items : 1 ≤ length items
  pub at : Declared old connection id
  pub is : new ≡ record old {
    declarations = turned at (record at.declaration {
      frames = at.declaration.frames ++ record { items = items; waits = true } ∷ [];
      known = known_by (items_of at.declaration) at.declaration.known old.confirmed;
    });
  }

abbrev pub is_unnamed : Option (List ℕ) → Bool
is_unnamed None = true
is_unnamed (Some name) = false

-- A Publish frame is refused: nothing of it was sent, and a declaration with a name stands no longer.
pub record RefuseStep (old : Stream) (connection id : ℕ) (new : Stream) : Type 0 where
  pub at : Declared old connection id
  pub is : new ≡ record old { declarations = turned at (record at.declaration { stands = is_unnamed at.declaration.name }) }

-- a frame of the declaration that waits
pub record Waiting (declaration : Declaration) (items : List Tagged) : Type 0 where
  pub before : List Frame
  pub after : List Frame
  pub frames : declaration.frames ≡ before ++ record { items = items; waits = true } ∷ after

-- the frames, of which this one waits no longer
abbrev pub answered : {declaration : Declaration} {items : List Tagged} → Waiting declaration items → List Tagged → List Frame
answered at items = at.before ++ record { items = items; waits = false } ∷ at.after

-- With a name, each id is at most that of some tag of the name in the list as seen. Without one, the list counts all that
-- was confirmed, these entries too.
abbrev pub MayConfirm : Stream → Option (List ℕ) → List Tagged → Type 0
MayConfirm old (Some name) items = AreReached (items_in name old.seen) items
MayConfirm old None items = Counted old.chunks (old.confirmed ++ record { name = None; items = items } ∷ [])

-- Confirm: one frame of a declaration that stands, which waited.
pub record ConfirmStep (old : Stream) (connection id : ℕ) (name : Option (List ℕ)) (items : List Tagged) (new : Stream) : Type 0 where
  pub is_live : old.life ≡ live
  pub at : Declared old connection id
  pub named : at.declaration.name ≡ name
  pub waiting : Waiting at.declaration items
  pub may : MayConfirm old name items
  pub is : new ≡ record old {
    declarations = turned at (record at.declaration { frames = answered waiting items });
    confirmed = old.confirmed ++ record { name = name; items = items } ∷ [];
  }

-- a declaration that stands no longer, and one that does so where it is of this connection
abbrev pub closed : Declaration → Declaration
closed declaration = record declaration { stands = false }

abbrev pub closed_of : ℕ → Declaration → Declaration
closed_of connection declaration = record declaration { stands = if declaration.connection == connection then false else declaration.stands }
