-- What a declaration knew is what was confirmed before its first item: so discipline of a run is one of its state.
use Rattle.std.proofs.Common.{◌≡◌, ℕ, ◌+◌, ◌⊎◌, Bool, true, false, List, [], ◌∷◌, ◌++◌, map, refl, sym, ap, subst, ◌∙◌, inl, inr}
use Rattle.std.specs.Prelude.{flat_map}
use Rattle.std.specs.List.{AllByRecursion}
use Rattle.command_data.specs.declared.item.Tagged.{Tagged}
use Rattle.list_machine.specs.Streams.{Frame, Confirmed, Declaration, Stream, no_stream, items_of}
use Rattle.list_machine.specs.Publishing.{Declared, turned, known_by, Waiting, answered, closed, closed_of}
use Rattle.list_machine.specs.Moves.{Move, begins, finishes, commits, declares, undeclares, publishes, refuses, confirms, subscribes, unsubscribes, asks, starts, rests, grants, delivers, stores, leaves, forgets, MoveStep, StreamRun}
use Rattle.list_machine.specs.Discipline.{IsConfirmed, IsDisciplined, Disciplined, place_behind, AllAt, FirstHolds, FirstsHold, IsRunBehind, DisciplinedRun}
use Rattle.list_machine.proofs.Holding.{items_stay}

all_at_push : (P : ℕ → Declaration → Type 0) (place : ℕ) (ds : List Declaration) (d : Declaration) → ((n : ℕ) → P n d) → AllAt P place ds → AllAt P place (ds ++ d ∷ [])
all_at_push P place [] d f all = (f place, tt)
all_at_push P place (e ∷ ds) d f all = (all.0, all_at_push P (place + 1) ds d f all.1)

all_at_turned : (P : ℕ → Declaration → Type 0) (place : ℕ) (before : List Declaration) (d e : Declaration) (after : List Declaration) → (P (place_behind place before) d → P (place_behind place before) e)
    → AllAt P place (before ++ d ∷ after) → AllAt P place (before ++ e ∷ after)
all_at_turned P place [] d e after f all = (f all.0, all.1)
all_at_turned P place (x ∷ before) d e after f all = (all.0, all_at_turned P (place + 1) before d e after f all.1)

all_at_map : (P : ℕ → Declaration → Type 0) (f : Declaration → Declaration) → ((n : ℕ) (d : Declaration) → P n d → P n (f d)) → (place : ℕ) (ds : List Declaration) → AllAt P place ds → AllAt P place (map f ds)
all_at_map P f g place [] all = tt
all_at_map P f g place (d ∷ ds) all = (g place d all.0, all_at_map P f g (place + 1) ds all.1)

-- the declaration has sent nothing, or what it knew is as the property asks
abbrev pub KnownBy : (ℕ → List Confirmed → Type 0) → ℕ → Declaration → Type 0
KnownBy O place d = (items_of d ≡ []) ⊎ O place d.known

abbrev Right : (ℕ → List Confirmed → Type 0) → Stream → Type 0
Right O s = AllAt (KnownBy O) 0 s.declarations

right_same : (O : ℕ → List Confirmed → Type 0) (old new other : Stream) → new ≡ other → other.declarations ≡ old.declarations → Right O old → Right O new
right_same O old new other is same h = subst (AllAt (KnownBy O) 0) (sym (ap (λ (s : Stream). s.declarations) is ∙ same)) h

right_turned : (O : ℕ → List Confirmed → Type 0) (old new : Stream) (connection id : ℕ) (at : Declared old connection id) (d : Declaration) → new.declarations ≡ turned at d
    → (KnownBy O (place_behind 0 at.before) at.declaration → KnownBy O (place_behind 0 at.before) d) → Right O old → Right O new
right_turned O old new connection id at d is f h =
    subst (AllAt (KnownBy O) 0) (sym is) (all_at_turned (KnownBy O) 0 at.before at.declaration d at.after f (subst (AllAt (KnownBy O) 0) at.declared h))

known_on : (O : ℕ → List Confirmed → Type 0) (place : ℕ) (d e : Declaration) → items_of e ≡ items_of d → e.known ≡ d.known → KnownBy O place d → KnownBy O place e
known_on O place d e items known (inl none) = inl (items ∙ none)
known_on O place d e items known (inr o) = inr (subst (O place) (sym known) o)

first_known : (O : ℕ → List Confirmed → Type 0) (place : ℕ) (items : List Tagged) (known confirmed : List Confirmed) → (items ≡ [] → O place confirmed) → (items ≡ []) ⊎ O place known → O place (known_by items known confirmed)
first_known O place [] known confirmed f h = f refl
first_known O place (x ∷ xs) known confirmed f (inl none) = absurd cc
first_known O place (x ∷ xs) known confirmed f (inr o) = o

answered_items : (d : Declaration) (items : List Tagged) (w : Waiting d items) (stands : Bool) → items_of (record d { frames = answered w items; stands = stands }) ≡ items_of d
answered_items d items w stands = items_stay w.before (record { items = items; waits = false }) (record { items = items; waits = true }) w.after refl ∙ ap (flat_map (λ (f : Frame). f.items)) (sym w.frames)

move_right : (O : ℕ → List Confirmed → Type 0) (move : Move) (old new : Stream) (step : MoveStep old move new) → FirstHolds O old move new step → Right O old → Right O new
move_right O (begins text super) old new step first h = right_same O old new _ step.is refl h
move_right O finishes old new step first h = right_same O old new _ step.1 refl h
move_right O (commits chunk) old new step first h = right_same O old new _ step.is refl h
move_right O (declares connection id name) old new step first h =
    subst (AllAt (KnownBy O) 0) (sym (ap (λ (s : Stream). s.declarations) step.is)) (all_at_push (KnownBy O) 0 old.declarations _ (λ n. inl refl) h)
move_right O (undeclares connection id) old new step first h = right_turned O old new connection id step.at _ (ap (λ (s : Stream). s.declarations) step.is) (λ k. k) h
move_right O (publishes connection id items) old new step first h =
    right_turned O old new connection id step.at _ (ap (λ (s : Stream). s.declarations) step.is)
    (λ k. inr (first_known O (place_behind 0 step.at.before) (items_of step.at.declaration) step.at.declaration.known old.confirmed first k)) h
move_right O (refuses connection id) old new step first h = right_turned O old new connection id step.at _ (ap (λ (s : Stream). s.declarations) step.is) (λ k. k) h
move_right O (confirms connection id name items) old new step first h =
    right_turned O old new connection id step.at _ (ap (λ (s : Stream). s.declarations) step.is)
    (λ k. known_on O (place_behind 0 step.at.before) step.at.declaration (record step.at.declaration { frames = answered step.waiting items }) (answered_items step.at.declaration items step.waiting step.at.declaration.stands) refl k) h
move_right O (subscribes connection id group spec credits) old new step first h = right_same O old new _ step.is refl h
move_right O (unsubscribes connection id) old new step first h = right_same O old new _ step.is refl h
move_right O (asks connection id correlation activate) old new step first h = right_same O old new _ step.is refl h
move_right O (starts connection id correlation spec) old new step first h = right_same O old new _ step.is refl h
move_right O (rests connection id correlation) old new step first h = right_same O old new _ step.is refl h
move_right O (grants connection id credits) old new step first h = right_same O old new _ step.is refl h
move_right O (delivers connection id chunk) old new step first h = right_same O old new _ step.is refl h
move_right O (stores name offset) old new step first h = right_same O old new _ step refl h
move_right O (leaves connection) old new step first h = subst (Right O) (sym step) (all_at_map (KnownBy O) (closed_of connection) (λ n d k. k) 0 old.declarations h)
move_right O forgets old new step first h = subst (Right O) (sym step) (all_at_map (KnownBy O) closed (λ n d k. k) 0 old.declarations h)

run_right : (O : ℕ → List Confirmed → Type 0) (moves : List Move) (old new : Stream) (run : StreamRun old moves new) → FirstsHold O old moves new run → Right O old → Right O new
run_right O [] old new run firsts h = subst (Right O) (sym run) h
run_right O (move ∷ moves) old new run firsts h = run_right O moves run.0 new run.2 firsts.1 (move_right O move old run.0 run.1 firsts.0 h)

both_at : (name : List ℕ) (P : List Tagged) (front : ℕ → List Tagged) (place : ℕ) (ds : List Declaration) → AllAt (λ place d. IsRunBehind name P (front place) d) place ds
    → AllAt (KnownBy (λ place confirmed. AllByRecursion (λ (x : Tagged). IsConfirmed name confirmed x.id) (front place))) place ds
    → AllByRecursion (IsDisciplined name P) ds
both_at name P front place [] a b = tt
both_at name P front place (d ∷ ds) a b = (
  (λ is. elim (a.0 is) [
    | inl none ↦ inl none
    | inr run ↦ elim b.0 [
      | inl none ↦ inl none
      | inr known ↦ inr (record { before = front place; behind = run.0; run = run.1; confirmed = known })
    ]
  ]),
  both_at name P front (place + 1) ds a.1 b.1,
)

pub disciplined_of : (name : List ℕ) (P : List Tagged) (moves : List Move) (new : Stream) (run : StreamRun no_stream moves new) → DisciplinedRun name P moves new run → Disciplined name P new.declarations
disciplined_of name P moves new run d = record {
  rises = d.rises;
  each = both_at name P d.front 0 new.declarations d.each
      (run_right (λ place confirmed. AllByRecursion (λ (x : Tagged). IsConfirmed name confirmed x.id) (d.front place)) moves no_stream new run d.confirmed tt);
}
