-- A disciplined publisher: all declarations of its name on the stream send from one list with rising ids.
use Rattle.std.specs.Prelude.{◌≡◌, ℕ, ◌+◌, ◌⊎◌, List, [], ◌∷◌, ◌++◌, Some}
use Rattle.std.specs.List.{AllByRecursion}
use Rattle.command_data.specs.declared.item.Tagged.{Tagged}
use Rattle.list_machine.specs.Items.{Rises, AnyByRecursion}
use Rattle.list_machine.specs.Streams.{Confirmed, Declaration, Stream, no_stream, items_of}
use Rattle.list_machine.specs.Moves.{Move, begins, finishes, commits, declares, undeclares, publishes, refuses, confirms, subscribes, unsubscribes, asks, starts, rests, grants, delivers, stores, leaves, forgets, MoveStep, StreamRun}

-- the id is one of a frame that was confirmed under the name
abbrev pub IsConfirmed : List ℕ → List Confirmed → ℕ → Type 0
IsConfirmed name confirmed id = AnyByRecursion (λ (c : Confirmed). (c.name ≡ Some name) × AnyByRecursion (λ (x : Tagged). x.id ≡ id) c.items) confirmed

-- ---- over declarations

-- What the declaration sent is a run of the list, and all of the list before it had been confirmed under the name when its
-- first item was taken.
pub record RunsIn (name : List ℕ) (list : List Tagged) (declaration : Declaration) : Type 0 where
  pub before : List Tagged
  pub behind : List Tagged
  pub run : list ≡ (before ++ items_of declaration) ++ behind
  pub confirmed : AllByRecursion (λ (x : Tagged). IsConfirmed name declaration.known x.id) before

-- it sent nothing, or such a run
abbrev pub IsDisciplined : List ℕ → List Tagged → Declaration → Type 0
IsDisciplined name list declaration = declaration.name ≡ Some name → (items_of declaration ≡ []) ⊎ RunsIn name list declaration

pub record Disciplined (name : List ℕ) (list : List Tagged) (declarations : List Declaration) : Type 0 where
  pub rises : Rises list
  pub each : AllByRecursion (IsDisciplined name list) declarations

-- ---- read off a run

-- the place behind a list of declarations, from a place on
abbrev pub place_behind : ℕ → List Declaration → ℕ
place_behind place [] = place
place_behind place (d ∷ ds) = place_behind (place + 1) ds

-- the property holds of each declaration at its place
abbrev pub AllAt : (ℕ → Declaration → Type 0) → ℕ → List Declaration → Type 0
AllAt P place [] = Unit {0}
AllAt P place (d ∷ ds) = P place d × AllAt P (place + 1) ds

-- If the move takes the first item of a declaration, the property holds of its place and of what was confirmed before.
abbrev pub FirstHolds : (ℕ → List Confirmed → Type 0) → (old : Stream) (move : Move) (new : Stream) → MoveStep old move new → Type 0
FirstHolds P old (publishes connection id items) new step = items_of step.at.declaration ≡ [] → P (place_behind 0 step.at.before) old.confirmed
FirstHolds P old (begins text super) new step = Unit {0}
FirstHolds P old finishes new step = Unit {0}
FirstHolds P old (commits chunk) new step = Unit {0}
FirstHolds P old (declares connection id name) new step = Unit {0}
FirstHolds P old (undeclares connection id) new step = Unit {0}
FirstHolds P old (refuses connection id) new step = Unit {0}
FirstHolds P old (confirms connection id name items) new step = Unit {0}
FirstHolds P old (subscribes connection id group spec credits) new step = Unit {0}
FirstHolds P old (unsubscribes connection id) new step = Unit {0}
FirstHolds P old (asks connection id correlation activate) new step = Unit {0}
FirstHolds P old (starts connection id correlation spec) new step = Unit {0}
FirstHolds P old (rests connection id correlation) new step = Unit {0}
FirstHolds P old (grants connection id credits) new step = Unit {0}
FirstHolds P old (delivers connection id chunk) new step = Unit {0}
FirstHolds P old (stores name offset) new step = Unit {0}
FirstHolds P old (leaves connection) new step = Unit {0}
FirstHolds P old forgets new step = Unit {0}

-- it holds at each first item along the moves of a stream
abbrev pub FirstsHold : (ℕ → List Confirmed → Type 0) → (old : Stream) (moves : List Move) (new : Stream) → StreamRun old moves new → Type 0
FirstsHold P old [] new run = Unit {0}
FirstsHold P old (move ∷ moves) new run = FirstHolds P old move run.0 run.1 × FirstsHold P run.0 moves new run.2

-- what stands of a declaration and of the part of the list before its items
abbrev pub IsRunBehind : List ℕ → List Tagged → List Tagged → Declaration → Type 0
IsRunBehind name list before declaration = declaration.name ≡ Some name → (items_of declaration ≡ []) ⊎ ((behind : List Tagged) × (list ≡ (before ++ items_of declaration) ++ behind))

-- What each declaration of the name sends is a run of one list with rising ids, and all of the list before that run was
-- confirmed under the name on the stream before the first item of the declaration was taken.
pub record DisciplinedRun (name : List ℕ) (list : List Tagged) (moves : List Move) (new : Stream) (run : StreamRun no_stream moves new) : Type 0 where
  pub rises : Rises list
  pub front : ℕ → List Tagged
  pub each : AllAt (λ place d. IsRunBehind name list (front place) d) 0 new.declarations
  pub confirmed : FirstsHold (λ place confirmed. AllByRecursion (λ (x : Tagged). IsConfirmed name confirmed x.id) (front place)) no_stream moves new run
