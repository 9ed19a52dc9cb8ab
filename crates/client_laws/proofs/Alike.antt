-- What others do keeps the declarations of the client's name.
use Rattle.std.proofs.Common.{true, false, ◌≡◌, ℕ, ◌==◌, Bool, cond, List, [], ◌∷◌, ◌++◌, map, Some, refl, sym, ap, subst, ◌∙◌, inl, inr}
use Rattle.std.specs.Prelude.{flat_map}
use Rattle.std.specs.List.{AllByRecursion}
use Rattle.command_data.specs.declared.item.Tagged.{Tagged}
use Rattle.list_machine.specs.Items.{AnyByRecursion}
use Rattle.list_machine.specs.Streams.{Frame, Confirmed, Declaration, Stream, items_of}
use Rattle.list_machine.specs.Publishing.{Declared, turned, Waiting, answered, closed, closed_of, new_declaration}
use Rattle.list_machine.specs.Moves.{Move, begins, finishes, commits, declares, undeclares, publishes, refuses, confirms, subscribes, unsubscribes, asks, starts, rests, grants, delivers, stores, leaves, forgets, MoveStep}
use Rattle.list_machine.specs.Discipline.{IsConfirmed}
use Rattle.list_machine.proofs.Lists.{all_append, any_front}
use Rattle.list_machine.proofs.Holding.{items_stay}
use Rattle.client_laws.specs.Foreign.{IsForeign}
use Rattle.client_laws.specs.Worlds.{IsUnused}

-- the same declaration, which may stand no longer; one of another name may have sent more
pub record Same (name : List ℕ) (d e : Declaration) : Type 0 where
  pub keeps_name : e.name ≡ d.name
  pub keeps_connection : e.connection ≡ d.connection
  pub keeps_items : d.name ≡ Some name → items_of e ≡ items_of d
  pub keeps_known : d.name ≡ Some name → e.known ≡ d.known
  pub stood : e.stands ≡ true → d.stands ≡ true

-- the same declarations, and behind them others of other names
abbrev pub Alike : List ℕ → List Declaration → List Declaration → Type 0
Alike name [] new = AllByRecursion (λ (d : Declaration). d.name ≡ Some name → ⊥) new
Alike name (d ∷ ds) [] = ⊥
Alike name (d ∷ ds) (e ∷ es) = Same name d e × Alike name ds es

pub same_self : (name : List ℕ) (d : Declaration) → Same name d d
same_self name d = record { keeps_name = refl; keeps_connection = refl; keeps_items = λ is. refl; keeps_known = λ is. refl; stood = λ t. t }

pub alike_self : (name : List ℕ) (ds : List Declaration) → Alike name ds ds
alike_self name [] = tt
alike_self name (d ∷ ds) = (same_self name d, alike_self name ds)

alike_pushed : (name : List ℕ) (ds : List Declaration) (d : Declaration) → (d.name ≡ Some name → ⊥) → Alike name ds (ds ++ d ∷ [])
alike_pushed name [] d f = (f, tt)
alike_pushed name (x ∷ ds) d f = (same_self name x, alike_pushed name ds d f)

alike_turned : (name : List ℕ) (before : List Declaration) (d e : Declaration) (after : List Declaration) → Same name d e → Alike name (before ++ d ∷ after) (before ++ e ∷ after)
alike_turned name [] d e after s = (s, alike_self name after)
alike_turned name (x ∷ before) d e after s = (same_self name x, alike_turned name before d e after s)

alike_mapped : (name : List ℕ) (f : Declaration → Declaration) → ((d : Declaration) → Same name d (f d)) → (ds : List Declaration) → Alike name ds (map f ds)
alike_mapped name f s [] = tt
alike_mapped name f s (d ∷ ds) = (s d, alike_mapped name f s ds)

stay : (name : List ℕ) (old new other : Stream) → new ≡ other → other.declarations ≡ old.declarations → Alike name old.declarations new.declarations
stay name old new other is same = subst (Alike name old.declarations) (sym (ap (λ (s : Stream). s.declarations) is ∙ same)) (alike_self name old.declarations)

turn : (name : List ℕ) (old new : Stream) (connection id : ℕ) (at : Declared old connection id) (e : Declaration) → new.declarations ≡ turned at e → Same name at.declaration e → Alike name old.declarations new.declarations
turn name old new connection id at e is s =
    subst (λ (l : List Declaration). Alike name l new.declarations) (sym at.declared) (subst (Alike name (at.before ++ at.declaration ∷ at.after)) (sym is) (alike_turned name at.before at.declaration e at.after s))

answered_same : (name : List ℕ) (d : Declaration) (items : List Tagged) (w : Waiting d items) → Same name d (record d { frames = answered w items })
answered_same name d items w = record {
  keeps_name = refl;
  keeps_connection = refl;
  keeps_items = λ is. items_stay w.before (record { items = items; waits = false }) (record { items = items; waits = true }) w.after refl ∙ ap (flat_map (λ (f : Frame). f.items)) (sym w.frames);
  keeps_known = λ is. refl;
  stood = λ t. t;
}

ended_same : (name : List ℕ) (d : Declaration) (b : Bool) → (b ≡ true → d.stands ≡ true) → Same name d (record d { stands = b })
ended_same name d b f = record { keeps_name = refl; keeps_connection = refl; keeps_items = λ is. refl; keeps_known = λ is. refl; stood = f }

other_same : (name : List ℕ) (d e : Declaration) → e.name ≡ d.name → e.connection ≡ d.connection → e.stands ≡ d.stands → (d.name ≡ Some name → ⊥) → Same name d e
other_same name d e same on stands f = record { keeps_name = same; keeps_connection = on; keeps_items = λ is. absurd (f is); keeps_known = λ is. absurd (f is); stood = λ t. sym stands ∙ t }

still : (b stands : Bool) → cond b false stands ≡ true → stands ≡ true
still true stands e = absurd cc
still false stands e = e

pub moves_alike : (name : List ℕ) (old : Stream) (move : Move) (new : Stream) (step : MoveStep old move new) → IsForeign name old move new step → Alike name old.declarations new.declarations
moves_alike name old (begins text super) new step foreign = stay name old new _ step.is refl
moves_alike name old finishes new step foreign = stay name old new _ step.1 refl
moves_alike name old (commits chunk) new step foreign = stay name old new _ step.is refl
moves_alike name old (declares connection id declared) new step foreign =
    subst (Alike name old.declarations) (sym (ap (λ (s : Stream). s.declarations) step.is)) (alike_pushed name old.declarations (new_declaration connection id declared) foreign)
moves_alike name old (undeclares connection id) new step foreign = turn name old new connection id step.at _ (ap (λ (s : Stream). s.declarations) step.is) (ended_same name step.at.declaration false (λ t. absurd cc))
moves_alike name old (publishes connection id items) new step foreign = turn name old new connection id step.at _ (ap (λ (s : Stream). s.declarations) step.is) (other_same name step.at.declaration _ refl refl refl foreign)
moves_alike name old (refuses connection id) new step foreign = turn name old new connection id step.at _ (ap (λ (s : Stream). s.declarations) step.is) (ended_same name step.at.declaration _ (λ t. step.at.stands))
moves_alike name old (confirms connection id named items) new step foreign = turn name old new connection id step.at _ (ap (λ (s : Stream). s.declarations) step.is) (answered_same name step.at.declaration items step.waiting)
moves_alike name old (subscribes connection id group spec credits) new step foreign = stay name old new _ step.is refl
moves_alike name old (unsubscribes connection id) new step foreign = stay name old new _ step.is refl
moves_alike name old (asks connection id correlation activate) new step foreign = stay name old new _ step.is refl
moves_alike name old (starts connection id correlation spec) new step foreign = stay name old new _ step.is refl
moves_alike name old (rests connection id correlation) new step foreign = stay name old new _ step.is refl
moves_alike name old (grants connection id credits) new step foreign = stay name old new _ step.is refl
moves_alike name old (delivers connection id chunk) new step foreign = stay name old new _ step.is refl
moves_alike name old (stores named offset) new step foreign = stay name old new _ step refl
moves_alike name old (leaves connection) new step foreign =
    subst (Alike name old.declarations) (sym (ap (λ (s : Stream). s.declarations) step))
    (alike_mapped name (closed_of connection) (λ d. ended_same name d (if_here connection d) (still (d.connection == connection) d.stands)) old.declarations)
  where
    if_here : ℕ → Declaration → Bool
    if_here connection d = cond (d.connection == connection) false d.stands
moves_alike name old forgets new step foreign =
    subst (Alike name old.declarations) (sym (ap (λ (s : Stream). s.declarations) step)) (alike_mapped name closed (λ d. ended_same name d false (λ t. absurd cc)) old.declarations)

-- ---- what stays with them

-- the property of a declaration of the name
abbrev pub Of : List ℕ → (Declaration → Type 0) → Declaration → Type 0
Of name Q d = d.name ≡ Some name → Q d

pub foreign_of : (name : List ℕ) (Q : Declaration → Type 0) (ds : List Declaration) → AllByRecursion (λ (d : Declaration). d.name ≡ Some name → ⊥) ds → AllByRecursion (Of name Q) ds
foreign_of name Q [] h = tt
foreign_of name Q (d ∷ ds) h = ((λ is. absurd (h.0 is)), foreign_of name Q ds h.1)

pub alike_of : (name : List ℕ) (Q : Declaration → Type 0) → ((d e : Declaration) → Same name d e → d.name ≡ Some name → Q d → Q e) → (ds es : List Declaration) → Alike name ds es
    → AllByRecursion (Of name Q) ds → AllByRecursion (Of name Q) es
alike_of name Q f [] es a h = foreign_of name Q es a
alike_of name Q f (d ∷ ds) [] a h = absurd a
alike_of name Q f (d ∷ ds) (e ∷ es) a h = ((λ is. (let named = sym a.0.keeps_name ∙ is in f d e a.0 named (h.0 named))), alike_of name Q f ds es a.1 h.1)

-- ---- at most one declaration of the name on a connection

pub alike_unused : (name : List ℕ) (c : ℕ) (ds es : List Declaration) → Alike name ds es → IsUnused name c ds → IsUnused name c es
alike_unused name c ds es a h = alike_of name (λ (d : Declaration). d.connection ≡ c → ⊥) (λ d e s is f on. f (sym s.keeps_connection ∙ on)) ds es a h

abbrev pub Apart : List ℕ → List Declaration → Type 0
Apart name [] = Unit {0}
Apart name (d ∷ ds) = (d.name ≡ Some name → IsUnused name d.connection ds) × Apart name ds

none_apart : (name : List ℕ) (ds : List Declaration) → AllByRecursion (λ (d : Declaration). d.name ≡ Some name → ⊥) ds → Apart name ds
none_apart name [] h = tt
none_apart name (d ∷ ds) h = ((λ is. absurd (h.0 is)), none_apart name ds h.1)

pub alike_apart : (name : List ℕ) (ds es : List Declaration) → Alike name ds es → Apart name ds → Apart name es
alike_apart name [] es a h = none_apart name es a
alike_apart name (d ∷ ds) [] a h = absurd a
alike_apart name (d ∷ ds) (e ∷ es) a h =
    ((λ is. subst (λ (c : ℕ). IsUnused name c es) (sym a.0.keeps_connection) (alike_unused name d.connection ds es a.1 (h.0 (sym a.0.keeps_name ∙ is)))), alike_apart name ds es a.1 h.1)

pub apart_pushed : (name : List ℕ) (ds : List Declaration) (d : Declaration) → IsUnused name d.connection ds → Apart name ds → Apart name (ds ++ d ∷ [])
apart_pushed name [] d u h = ((λ is. tt), tt)
apart_pushed name (x ∷ ds) d u h = (
  (λ is. all_append (λ (e : Declaration). e.name ≡ Some name → e.connection ≡ x.connection → ⊥) ds (d ∷ []) (h.0 is) ((λ named on. u.0 is (sym on)), tt)),
  apart_pushed name ds d u.1 h.1,
)

-- the others of the name are on other connections
pub apart_before : (name : List ℕ) (before : List Declaration) (d : Declaration) (after : List Declaration) → Apart name (before ++ d ∷ after) → d.name ≡ Some name → IsUnused name d.connection before
apart_before name [] d after h is = tt
apart_before name (x ∷ before) d after h is = ((λ named on. at name x.connection before d after (h.0 named) is (sym on)), apart_before name before d after h.1 is)
  where
    at : (name : List ℕ) (c : ℕ) (before : List Declaration) (d : Declaration) (after : List Declaration) → IsUnused name c (before ++ d ∷ after) → d.name ≡ Some name → d.connection ≡ c → ⊥
    at name c [] d after u is on = u.0 is on
    at name c (y ∷ before) d after u is on = at name c before d after u.1 is on

pub apart_after : (name : List ℕ) (before : List Declaration) (d : Declaration) (after : List Declaration) → Apart name (before ++ d ∷ after) → d.name ≡ Some name → IsUnused name d.connection after
apart_after name [] d after h is = h.0 is
apart_after name (x ∷ before) d after h is = apart_after name before d after h.1 is

-- ---- what was confirmed stays so

more : (name : List ℕ) (old new : Stream) (added : List Confirmed) → new.confirmed ≡ old.confirmed ++ added → (id : ℕ) → IsConfirmed name old.confirmed id → IsConfirmed name new.confirmed id
more name old new added is id c =
    subst (λ (l : List Confirmed). IsConfirmed name l id) (sym is) (any_front (λ (c : Confirmed). (c.name ≡ Some name) × AnyByRecursion (λ (x : Tagged). x.id ≡ id) c.items) old.confirmed added c)

same : (name : List ℕ) (old new other : Stream) → new ≡ other → other.confirmed ≡ old.confirmed → (id : ℕ) → IsConfirmed name old.confirmed id → IsConfirmed name new.confirmed id
same name old new other is e id c = subst (λ (l : List Confirmed). IsConfirmed name l id) (sym (ap (λ (s : Stream). s.confirmed) is ∙ e)) c

pub still_confirmed : (name : List ℕ) (old : Stream) (move : Move) (new : Stream) → MoveStep old move new → (id : ℕ) → IsConfirmed name old.confirmed id → IsConfirmed name new.confirmed id
still_confirmed name old (begins text super) new step = same name old new _ step.is refl
still_confirmed name old finishes new step = same name old new _ step.1 refl
still_confirmed name old (commits chunk) new step = same name old new _ step.is refl
still_confirmed name old (declares connection id declared) new step = same name old new _ step.is refl
still_confirmed name old (undeclares connection id) new step = same name old new _ step.is refl
still_confirmed name old (publishes connection id items) new step = same name old new _ step.is refl
still_confirmed name old (refuses connection id) new step = same name old new _ step.is refl
still_confirmed name old (confirms connection id named items) new step = more name old new _ (ap (λ (s : Stream). s.confirmed) step.is)
still_confirmed name old (subscribes connection id group spec credits) new step = same name old new _ step.is refl
still_confirmed name old (unsubscribes connection id) new step = same name old new _ step.is refl
still_confirmed name old (asks connection id correlation activate) new step = same name old new _ step.is refl
still_confirmed name old (starts connection id correlation spec) new step = same name old new _ step.is refl
still_confirmed name old (rests connection id correlation) new step = same name old new _ step.is refl
still_confirmed name old (grants connection id credits) new step = same name old new _ step.is refl
still_confirmed name old (delivers connection id chunk) new step = same name old new _ step.is refl
still_confirmed name old (stores named offset) new step = same name old new _ step refl
still_confirmed name old (leaves connection) new step = same name old new _ step refl
still_confirmed name old forgets new step = same name old new _ step refl
