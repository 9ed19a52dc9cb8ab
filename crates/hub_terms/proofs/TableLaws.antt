-- A table of streams keeps what a hub promises.
use Rattle.std.proofs.lemmas.List.Elements.{Contains-append_right}
use Rattle.std.proofs.Common.{◌≡◌, ◌==◌, Bool, true, false, ℕ, zero, suc, ◌+◌, ◌<◌, ◌≤◌, List, [], ◌∷◌, ◌++◌, map, length, Result, Ok, Err, Option, Some, None, refl, sym, ap, subst, ◌∙◌, append_assoc, arith, get_or, cond}
use Rattle.std.specs.Prelude.{slice_get, slice_set}
use Rattle.std.specs.List.{filter, AllByRecursion, Contains}
use Rattle.std.specs.declared.alloc.AllocError.{AllocError}
use Rattle.std.proofs.lemmas.List.{append-nil}
use Rattle.chunk_format.specs.declared.chunk.Chunk.{Chunk}
use Rattle.chunk_format.specs.Logs.{GoesOn, IsLog, end_of, next_above}
use Rattle.chunk_format.specs.ByName.{Greatest, LastStored}
use Rattle.chunk_format.proofs.NameLaws.{each_join}
use Rattle.command_data.specs.declared.item.Tagged.{Tagged}
use Rattle.command_data.specs.Starts.{StartOf}
use Rattle.active_groups.specs.declared.consumer.ConsumerId.{ConsumerId}
use Rattle.active_groups.specs.Steps.{GroupEvent}
use Rattle.stream_catalog.specs.Names.{Names}
use Rattle.stream_terms.specs.declared.terms.Pass.{Pass}
use Rattle.stream_terms.specs.declared.terms.Taken.{Taken}
use Rattle.stream_terms.specs.declared.terms.Confirm.{Confirm}
use Rattle.stream_terms.specs.declared.terms.DeclareFault.{DeclareFault}
use Rattle.stream_terms.specs.declared.terms.OfferFault.{OfferFault}
use Rattle.stream_terms.specs.declared.terms.Given.{Given}
use Rattle.stream_terms.specs.declared.terms.Waits.{Waits}
use Rattle.stream_terms.specs.Lists.{last_first}
use Rattle.stream_terms.specs.Views.{StreamView, StreamHolds, Known, Caused, CausedBy, name_of}
use Rattle.stream_terms.specs.Steps.{DeclaresPass, OfferTaken, OffsetTaken, HandStep, MoveStep, put_by, queued, is_of, is_other, confirm_of}
use Rattle.stream_terms.proofs.Counts.{each_filter}
use Rattle.hub_terms.specs.declared.terms.HubDid.{HubDid}
use Rattle.hub_terms.specs.declared.terms.HubDid.TheVariants.{Code, Failed, Memory}
use Rattle.hub_terms.specs.Calls.{Call, Answer, Words, Finding, Creating, Deleting, CreatingSuper, DeletingSuper, PartsOf, Routing, Declaring, Offering, StoringOffset, Confirming, Starting, NextChunk, GreatestOf, StoredOf, LastChunk, Joining, Leaving, Changing, Answering, IsActive}
use Rattle.hub_terms.specs.Meaning.{SeenLaws, HubLaws, Told, ToldChange, ToldPass, ToldConfirms, ConfirmTold, NoneAbove, IfTold}
use Rattle.hub_terms.specs.Tables.{HubTable, view_at, set_view, chunks_by, passes_by, list_at, HoldsFrom, TableHolds, ViewLater, ViewsLater, TableLater, stands, is_live, ended, StreamsBy, Rule, CatalogStep, OneStep, DeclareBy, OfferBy, StoreBy, HandAll, HandBy, JoinBy, GroupsBy, TableStep, table_seen, table_meaning}

-- ---- going on

goes_same : {A : Type 0} (l : List A) → GoesOn l l
goes_same l = ([], sym (append-nil l))

goes_join : {A : Type 0} (a b c : List A) → GoesOn a b → GoesOn b c → GoesOn a c
goes_join {A} a b c p q = (p.0 ++ q.0, q.1 ∙ ap (λ (x : List A). x ++ q.0) p.1 ∙ append_assoc a p.0 q.0)

pub view_same : (v : StreamView) → ViewLater v v
view_same v = record { number = refl; chunks = goes_same v.chunks; passes = goes_same v.passes }

view_join : (a b c : StreamView) → ViewLater a b → ViewLater b c → ViewLater a c
view_join a b c p q = record { number = q.number ∙ p.number; chunks = goes_join a.chunks b.chunks c.chunks p.chunks q.chunks; passes = goes_join a.passes b.passes c.passes p.passes q.passes }

pub views_same : (vs : List StreamView) → ViewsLater vs vs
views_same [] = tt
views_same (v ∷ vs) = (view_same v, views_same vs)

pub views_join : (xs ys zs : List StreamView) → ViewsLater xs ys → ViewsLater ys zs → ViewsLater xs zs
views_join [] ys zs p q = tt
views_join (x ∷ xs) [] zs p q = absurd p
views_join (x ∷ xs) (y ∷ ys) [] p q = absurd q
views_join (x ∷ xs) (y ∷ ys) (z ∷ zs) p q = (view_join x y z p.0 q.0, views_join xs ys zs p.1 q.1)

same : (a : HubTable) → TableLater a a
same a = record { views = views_same a.views; faults = omega arith }

same_as : (a b : HubTable) → b ≡ a → TableLater a b
same_as a b e = subst (λ (x : HubTable). TableLater a x) (sym e) (same a)

join : (a b c : HubTable) → TableLater a b → TableLater b c → TableLater a c
join a b c p q = record { views = views_join a.views b.views c.views p.views q.views; faults = let x = p.faults in let y = q.faults in omega (arith, x, y) }

chunks_later : (xs ys : List StreamView) (i : ℕ) → ViewsLater xs ys → GoesOn (chunks_by (slice_get xs i)) (chunks_by (slice_get ys i))
chunks_later [] ys i p = (chunks_by (slice_get ys i), refl)
chunks_later (x ∷ xs) [] i p = absurd p
chunks_later (x ∷ xs) (y ∷ ys) zero p = p.0.chunks
chunks_later (x ∷ xs) (y ∷ ys) (suc i) p = chunks_later xs ys i p.1

passes_later : (xs ys : List StreamView) (i : ℕ) → ViewsLater xs ys → GoesOn (passes_by (slice_get xs i)) (passes_by (slice_get ys i))
passes_later [] ys i p = (passes_by (slice_get ys i), refl)
passes_later (x ∷ xs) [] i p = absurd p
passes_later (x ∷ xs) (y ∷ ys) zero p = p.0.passes
passes_later (x ∷ xs) (y ∷ ys) (suc i) p = passes_later xs ys i p.1

list_later : (xs ys : List StreamView) (stream : ℕ) → ViewsLater xs ys → GoesOn (chunks_by (view_at xs stream)) (chunks_by (view_at ys stream))
list_later xs ys zero p = ([], refl)
list_later xs ys (suc i) p = chunks_later xs ys i p

given_later : (xs ys : List StreamView) (stream : ℕ) → ViewsLater xs ys → GoesOn (passes_by (view_at xs stream)) (passes_by (view_at ys stream))
given_later xs ys zero p = ([], refl)
given_later xs ys (suc i) p = passes_later xs ys i p

-- ---- one stream

none_some : (v : StreamView) → let none : Option StreamView = None in none ≡ Some v → ⊥
none_some v e = cc

pub set_later : (vs : List StreamView) (i : ℕ) (old new : StreamView) → slice_get vs i ≡ Some old → ViewLater old new → ViewsLater vs (slice_set vs i new)
set_later [] i old new e p = tt
set_later (v ∷ vs) zero old new e p = let is : v ≡ old = cc in (subst (λ (x : StreamView). ViewLater x new) (sym is) p, views_same vs)
set_later (v ∷ vs) (suc i) old new e p = (view_same v, set_later vs i old new e p)

pub set_view_later : (vs : List StreamView) (stream : ℕ) (old new : StreamView) → view_at vs stream ≡ Some old → ViewLater old new → ViewsLater vs (set_view vs stream new)
set_view_later vs zero old new e p = views_same vs
set_view_later vs (suc i) old new e p = set_later vs i old new e p

one_later : (stream : ℕ) (old new : StreamView) (a b : HubTable) → OneStep stream old new a b → ViewLater old new → TableLater a b
one_later stream old new a b s p =
    let at : TableLater a (record a { views = set_view a.views stream new }) = record { views = set_view_later a.views stream old new s.there p; faults = omega arith } in
    subst (λ (x : HubTable). TableLater a x) (sym s.new_is) at

set_there : (vs : List StreamView) (i : ℕ) (old new : StreamView) → slice_get vs i ≡ Some old → slice_get (slice_set vs i new) i ≡ Some new
set_there [] i old new e = absurd (none_some old e)
set_there (v ∷ vs) zero old new e = refl
set_there (v ∷ vs) (suc i) old new e = set_there vs i old new e

set_view_there : (vs : List StreamView) (stream : ℕ) (old new : StreamView) → view_at vs stream ≡ Some old → view_at (set_view vs stream new) stream ≡ Some new
set_view_there vs zero old new e = absurd (none_some old e)
set_view_there vs (suc i) old new e = set_there vs i old new e

declared_later : (old new : StreamView) (session : ℕ) (name : Words) (p : Pass) → DeclaresPass old session name p new → ViewLater old new
declared_later old new session name p s =
    let given : Given = record { pass = p; name = name_of name } in
    let at : ViewLater old (record old { passes = old.passes ++ given ∷ [] }) = record { number = refl; chunks = goes_same old.chunks; passes = (given ∷ [], refl) } in
    subst (λ (x : StreamView). ViewLater old x) (sym s.new_is) at

put_later : (b : Bool) (w : Waits) (v : StreamView) → ViewLater v (put_by b w v)
put_later true w v = record { number = refl; chunks = goes_same v.chunks; passes = goes_same v.passes }
put_later false w v = record { number = refl; chunks = goes_same v.chunks; passes = goes_same v.passes }

queued_later : (took : List Chunk) (v : StreamView) → ViewLater v (queued took v)
queued_later took v = record { number = refl; chunks = goes_same v.chunks; passes = goes_same v.passes }

offered_later : (old new : StreamView) (p : Pass) (items : List Tagged) (t : Taken) → OfferTaken old p items t new → ViewLater old new
offered_later old new p items t s = subst (λ (x : StreamView). ViewLater old x) (sym s.new_is) (view_join old (queued s.took old) _ (queued_later s.took old) (put_later _ s.wait (queued s.took old)))

stored_later : (old new : StreamView) (name : Words) (offset : ℕ) (t : Taken) → OffsetTaken old name offset t new → ViewLater old new
stored_later old new name offset t s = subst (λ (x : StreamView). ViewLater old x) (sym s.new_is) (queued_later _ old)

moved_later : (old new : StreamView) (more : List Chunk) → MoveStep old more new → ViewLater old new
moved_later old new more s = record { number = s.number; chunks = (more, s.chunks); passes = ([], s.passes ∙ sym (append-nil old.passes)) }

pub hand_later : (v w : StreamView) (session : ℕ) (out : List Waits) → HandStep v session out w → ViewLater v w
hand_later v w session out s =
    let at : ViewLater v (record v { ready = filter (is_other session) v.ready }) = record { number = refl; chunks = goes_same v.chunks; passes = goes_same v.passes } in
    subst (λ (x : StreamView). ViewLater v x) (sym s.new_is) at

hands_later : (session : ℕ) (vs : List StreamView) (all : List Confirm) (ws : List StreamView) → HandAll session vs all ws → ViewsLater vs ws
hands_later session [] all [] h = tt
hands_later session [] all (w ∷ ws) h = absurd h
hands_later session (v ∷ vs) all [] h = absurd h
hands_later session (v ∷ vs) all (w ∷ ws) h = (hand_later v w session h.out h.step, hands_later session vs h.rest ws h.behind)

-- ---- each call

ended_later : (b : Bool) (v : StreamView) → ViewLater v (cond b v (ended v))
ended_later true v = view_same v
ended_later false v = record { number = refl; chunks = goes_same v.chunks; passes = goes_same v.passes }

streams_later : (names : Names) (vs more : List StreamView) → ViewsLater vs (map (stands names) vs ++ more)
streams_later names [] more = tt
streams_later names (v ∷ vs) more = (ended_later (is_live names v.number) v, streams_later names vs more)

pub by_later : (names : Names) (old new : List StreamView) → StreamsBy names old new → ViewsLater old new
by_later names old new s = subst (ViewsLater old) (sym s.new_is) (streams_later names old s.more)

views_as : (a b : List StreamView) → b ≡ a → ViewsLater a b
views_as a b e = subst (ViewsLater a) (sym e) (views_same a)

no_more : (a b : ℕ) → b ≡ a → a ≤ b
no_more a b e = omega (arith, e)

after_change : (rule : Rule) (a b : HubTable) (r : HubDid) → CatalogStep rule a r b → TableLater a b
after_change rule a b (Code response) s = record { views = by_later b.names a.views b.views s.views; faults = no_more a.faults b.faults (ap (λ (t : HubTable). t.faults) s.rest) }
after_change rule a b Failed s = record { views = views_as a.views b.views (ap (λ (t : HubTable). t.views) s.rest); faults = s.counts }
after_change rule a b Memory s = record { views = s.later; faults = no_more a.faults b.faults (ap (λ (t : HubTable). t.faults) s.rest) }

after_declare : (session stream : ℕ) (name : Words) (a b : HubTable) (r : Result Pass DeclareFault) → DeclareBy session stream name a r b → TableLater a b
after_declare session stream name a b (Ok p) s = one_later stream s.old s.new a b s.at (declared_later s.old s.new session name p s.step)
after_declare session stream name a b (Err fault) s = same_as a b s.1

after_offer : (stream : ℕ) (pass : Pass) (items : List Tagged) (a b : HubTable) (r : Result Taken OfferFault) → OfferBy stream pass items a r b → TableLater a b
after_offer stream pass items a b (Ok t) s = one_later stream s.old s.new a b s.at (view_join s.old s.mid s.new (offered_later s.old s.mid pass items t s.step) (moved_later s.mid s.new s.more s.moved))
after_offer stream pass items a b (Err fault) s = same_as a b s.1

after_store : (stream : ℕ) (name : Words) (offset : ℕ) (a b : HubTable) (r : Result Taken OfferFault) → StoreBy stream name offset a r b → TableLater a b
after_store stream name offset a b (Ok t) s = one_later stream s.old s.new a b s.at (view_join s.old s.mid s.new (stored_later s.old s.mid name offset t s.step) (moved_later s.mid s.new s.more s.moved))
after_store stream name offset a b (Err fault) s = same_as a b s.1

after_hand : (session : ℕ) (a b : HubTable) (r : Result (List Confirm) AllocError) → HandBy session a r b → TableLater a b
after_hand session a b (Ok all) s = record { views = hands_later session a.views all b.views s.0; faults = no_more a.faults b.faults (ap (λ (t : HubTable). t.faults) s.1) }
after_hand session a b (Err e) s = record { views = s.0; faults = no_more a.faults b.faults (ap (λ (t : HubTable). t.faults) s.1) }

after_groups : (event : GroupEvent) (a b : HubTable) → GroupsBy event a b → TableLater a b
after_groups event a b s = record { views = views_as a.views b.views (ap (λ (t : HubTable). t.views) s.rest); faults = no_more a.faults b.faults (ap (λ (t : HubTable). t.faults) s.rest) }

after_join : (stream : ℕ) (name : Words) (consumer : ConsumerId) (a b : HubTable) (r : Result (Unit {0}) AllocError) → JoinBy stream name consumer a r b → TableLater a b
after_join stream name consumer a b (Ok u) s = record { views = views_as a.views b.views (ap (λ (t : HubTable). t.views) s.rest); faults = no_more a.faults b.faults (ap (λ (t : HubTable). t.faults) s.rest) }
after_join stream name consumer a b (Err e) s = after_groups _ a b s

after_step : (c : Call) (a b : HubTable) (r : Answer c) → TableStep c a r b → TableLater a b
after_step (Finding name) a b r s = same_as a b s.0
after_step (Creating name) a b r s = after_change _ a b r s
after_step (Deleting name) a b r s = after_change _ a b r s
after_step (CreatingSuper name parts keys) a b r s = after_change _ a b r s
after_step (DeletingSuper name) a b r s = after_change _ a b r s
after_step (PartsOf name) a b r s = same_as a b s.0
after_step (Routing key name) a b r s = same_as a b s.0
after_step (Declaring session stream name) a b r s = after_declare session stream name a b r s
after_step (Offering stream pass items now) a b r s = after_offer stream pass items a b r s
after_step (StoringOffset stream name offset now) a b r s = after_store stream name offset a b r s
after_step (Confirming session) a b r s = after_hand session a b r s
after_step (Starting stream spec) a b r s = same_as a b s.0
after_step (NextChunk stream from) a b r s = same_as a b s.0
after_step (GreatestOf stream name) a b r s = same_as a b s.0
after_step (StoredOf stream name) a b r s = same_as a b s.0
after_step (LastChunk stream) a b r s = same_as a b s.0
after_step (Joining stream name consumer) a b r s = after_join stream name consumer a b r s
after_step (Leaving consumer) a b r s = after_groups _ a b s
after_step (Changing session) a b r s = after_groups _ a b s
after_step (Answering consumer) a b r s = after_groups _ a b s
after_step (IsActive consumer) a b r s = same_as a b s.0

-- ---- what holds of each stream

log_at : (n : ℕ) (vs : List StreamView) (i : ℕ) → HoldsFrom n vs → IsLog (chunks_by (slice_get vs i))
log_at n [] i h = tt
log_at n (v ∷ vs) zero h = h.1.log
log_at n (v ∷ vs) (suc i) h = log_at (suc n) vs i h.2

log_of : (vs : List StreamView) (stream : ℕ) → HoldsFrom 1 vs → IsLog (chunks_by (view_at vs stream))
log_of vs zero h = tt
log_of vs (suc i) h = log_at 1 vs i h

pub holds_at : (n : ℕ) (vs : List StreamView) (i : ℕ) (v : StreamView) → HoldsFrom n vs → slice_get vs i ≡ Some v → StreamHolds v []
holds_at n [] i v h e = absurd (none_some v e)
holds_at n (x ∷ xs) zero v h e = let is : x ≡ v = cc in subst (λ (y : StreamView). StreamHolds y []) is h.1
holds_at n (x ∷ xs) (suc i) v h e = holds_at (suc n) xs i v h.2 e

pub holds_set : (n : ℕ) (vs : List StreamView) (i : ℕ) (old new : StreamView) → HoldsFrom n vs → slice_get vs i ≡ Some old → new.number ≡ old.number → StreamHolds new [] → HoldsFrom n (slice_set vs i new)
holds_set n [] i old new h e number holds = tt
holds_set n (x ∷ xs) zero old new h e number holds = let is : x ≡ old = cc in (number ∙ sym (ap (λ (y : StreamView). y.number) is) ∙ h.0, holds, h.2)
holds_set n (x ∷ xs) (suc i) old new h e number holds = (h.0, h.1, holds_set (suc n) xs i old new h.2 e number holds)

pub set_same : (vs : List StreamView) (i : ℕ) (old : StreamView) → slice_get vs i ≡ Some old → slice_set vs i old ≡ vs
set_same [] i old e = refl
set_same (x ∷ xs) zero old e = let is : x ≡ old = cc in ap (λ (y : StreamView). y ∷ xs) (sym is)
set_same (x ∷ xs) (suc i) old e = ap (λ (ys : List StreamView). x ∷ ys) (set_same xs i old e)

-- ---- what is told

told_change : (rule : Rule) (a b : HubTable) (r : HubDid) → CatalogStep rule a r b → ToldChange table_seen a r b
told_change rule a b (Code response) s = s.is_code
told_change rule a b Failed s = s.rose
told_change rule a b Memory s = tt

contains_last : (gs : List Given) (g : Given) → Contains (gs ++ g ∷ []) g
contains_last gs g = Contains-append_right gs (g ∷ []) g (0, omega arith, refl)

number_at : (n : ℕ) (vs : List StreamView) (i : ℕ) (v : StreamView) → HoldsFrom n vs → slice_get vs i ≡ Some v → v.number ≡ n + i
number_at n [] i v h e = absurd (none_some v e)
number_at n (x ∷ xs) zero v h e = let is : x ≡ v = cc in let at = h.0 in let same = ap (λ (y : StreamView). y.number) is in omega (arith, at, same)
number_at n (x ∷ xs) (suc i) v h e = let at = number_at (suc n) xs i v h.2 e in omega (arith, at)

number_is : (vs : List StreamView) (stream : ℕ) (v : StreamView) → HoldsFrom 1 vs → view_at vs stream ≡ Some v → v.number ≡ stream
number_is vs zero v h e = absurd (none_some v e)
number_is vs (suc i) v h e = let at = number_at 1 vs i v h e in omega (arith, at)

told_pass : (session stream : ℕ) (name : Words) (a b : HubTable) (r : Result Pass DeclareFault) → TableHolds a → DeclareBy session stream name a r b → ToldPass table_seen session stream name r b
told_pass session stream name a b (Ok p) h s =
    let given : Given = record { pass = p; name = name_of name } in
    let number : s.old.number ≡ stream = number_is a.views stream s.old h.views s.at.there in
    let there : view_at b.views stream ≡ Some s.new = ap (λ (x : HubTable). view_at x.views stream) s.at.new_is ∙ set_view_there a.views stream s.old s.new s.at.there in
    let passes : passes_by (view_at b.views stream) ≡ s.old.passes ++ given ∷ [] = ap passes_by there ∙ ap (λ (x : StreamView). x.passes) s.step.new_is in
    (s.step.of_stream ∙ number, s.step.of_session, subst (λ (gs : List Given). Contains gs given) (sym passes) (contains_last s.old.passes given))
told_pass session stream name a b (Err fault) h s = tt

is_told : {A : Type 0} (f : HubTable → A) (a b : HubTable) (r : Result A AllocError) → b ≡ a → IfTold (f a) r → IfTold (f b) r
is_told {A} f a b r e h = subst (λ (x : HubTable). IfTold (f x) r) (sym e) h

-- ---- confirms

none_above : (name : List ℕ) (w : Waits) (chunks : List Chunk) → CausedBy name w chunks → NoneAbove name w.ids chunks
none_above [] w chunks c = tt
none_above (x ∷ xs) w chunks c = c

each_at : {A : Type 0} (P : A → Type 0) (xs : List A) (x : A) (k : ℕ) → AllByRecursion P xs → k < length xs → get_or xs k x ≡ x → P x
each_at P [] x k all less is = absurd (omega (arith, less))
each_at P (y ∷ ys) x zero all less is = subst P is all.0
each_at P (y ∷ ys) x (suc k) all less is = each_at P ys x k all.1 (omega (arith, less)) is

passing_by : {A : Type 0} (b : Bool) (f : A → Bool) (x : A) (rest : List A) → f x ≡ b → AllByRecursion (λ y. f y ≡ true) rest → AllByRecursion (λ y. f y ≡ true) (cond b (x ∷ rest) rest)
passing_by true f x rest e h = (e, h)
passing_by false f x rest e h = h

passing : {A : Type 0} (f : A → Bool) (xs : List A) → AllByRecursion (λ x. f x ≡ true) (filter f xs)
passing f [] = tt
passing {A} f (x ∷ xs) = passing_by (f x) f x (filter f xs) refl (passing f xs)

same_session : (a b : ℕ) → (a == b) ≡ true → a ≡ b
same_session a b e = grind (arith, e)

-- a stream as it stands in the table
pub record Stands (b : HubTable) (n : ℕ) (v : StreamView) : Type 0 where
  pub chunks : list_at b n ≡ v.chunks
  pub passes : passes_by (view_at b.views n) ≡ v.passes

told_confirm : (session n : ℕ) (b : HubTable) (v : StreamView) (x : Waits) → StreamHolds v [] → v.number ≡ n → Stands b n v → Known v.passes x → Caused v.chunks x → is_of session x ≡ true → ConfirmTold table_seen session b (confirm_of x)
told_confirm session n b v x h number at known caused is =
    let stream : x.given.pass.stream ≡ n = each_at (λ (g : Given). g.pass.stream ≡ v.number) v.passes x.given known.given.0 h.of_stream known.given.1 known.given.2 ∙ number in
    let chunks : list_at b x.given.pass.stream ≡ v.chunks = ap (list_at b) stream ∙ at.chunks in
    let passes : passes_by (view_at b.views x.given.pass.stream) ≡ v.passes = ap (λ (i : ℕ). passes_by (view_at b.views i)) stream ∙ at.passes in
    record {
      given = x.given;
      known = subst (λ (gs : List Given). Contains gs x.given) (sym passes) known.given;
      of_session = same_session x.given.pass.session session is;
      of_stream = refl;
      serial = refl;
      some = known.some;
      few = known.few;
      reached = subst (λ (l : List Chunk). x.end ≤ end_of l) (sym chunks) caused.reached;
      by_name = subst (λ (l : List Chunk). NoneAbove x.given.name x.ids l) (sym chunks) (none_above x.given.name x v.chunks caused.by_name);
    }

told_each : (session n : ℕ) (b : HubTable) (v : StreamView) (out : List Waits) → StreamHolds v [] → v.number ≡ n → Stands b n v → AllByRecursion (Known v.passes) out → AllByRecursion (Caused v.chunks) out
    → AllByRecursion (λ x. is_of session x ≡ true) out → AllByRecursion (ConfirmTold table_seen session b) (map confirm_of out)
told_each session n b v [] h number at known caused is = tt
told_each session n b v (x ∷ xs) h number at known caused is =
    (told_confirm session n b v x h number at known.0 caused.0 is.0, told_each session n b v xs h number at known.1 caused.1 is.1)

hands_told : (session : ℕ) (b : HubTable) (n : ℕ) (vs ws : List StreamView) (all : List Confirm) → HoldsFrom (suc n) vs → HandAll session vs all ws → ((i : ℕ) → slice_get b.views (n + i) ≡ slice_get ws i)
    → AllByRecursion (ConfirmTold table_seen session b) all
hands_told session b n [] [] all holds h at = subst (AllByRecursion (ConfirmTold table_seen session b)) (sym h) tt
hands_told session b n [] (w ∷ ws) all holds h at = absurd h
hands_told session b n (v ∷ vs) [] all holds h at = absurd h
hands_told session b n (v ∷ vs) (w ∷ ws) all holds h at =
    let P = ConfirmTold table_seen session b in
    let whole : n ≡ n + 0 = omega arith in
    let there : slice_get b.views n ≡ Some w = ap (λ (i : ℕ). slice_get b.views i) whole ∙ at 0 in
    let stands : Stands b (suc n) v = record { chunks = ap chunks_by there ∙ ap (λ (x : StreamView). x.chunks) h.step.new_is; passes = ap passes_by there ∙ ap (λ (x : StreamView). x.passes) h.step.new_is } in
    let out_is = h.step.out_is in
    let ready = v.ready in
    let known : AllByRecursion (Known v.passes) h.out = subst (AllByRecursion (Known v.passes)) (sym out_is) (each_filter (Known v.passes) (is_of session) ready holds.1.ready_known) in
    let caused : AllByRecursion (Caused v.chunks) h.out = subst (AllByRecursion (Caused v.chunks)) (sym out_is) (each_filter (Caused v.chunks) (is_of session) ready holds.1.ready_caused) in
    let is : AllByRecursion (λ x. is_of session x ≡ true) h.out = subst (AllByRecursion (λ x. is_of session x ≡ true)) (sym out_is) (passing (is_of session) ready) in
    let first : AllByRecursion P (map confirm_of h.out) = told_each session (suc n) b v h.out holds.1 holds.0 stands known caused is in
    let next : (i : ℕ) → slice_get b.views (suc n + i) ≡ slice_get ws i = λ i. let e : suc n + i ≡ n + suc i = omega arith in ap (λ (k : ℕ). slice_get b.views k) e ∙ at (suc i) in
    let more : AllByRecursion P h.rest = hands_told session b (suc n) vs ws h.rest holds.2 h.behind next in
    subst (AllByRecursion P) (sym h.all_is) (each_join P (map confirm_of h.out) h.rest first more)

told_hand : (session : ℕ) (a b : HubTable) (r : Result (List Confirm) AllocError) → TableHolds a → HandBy session a r b → ToldConfirms table_seen session r b
told_hand session a b (Ok all) holds s = hands_told session b 0 a.views b.views all holds.views s.0 (λ i. let e : 0 + i ≡ i = omega arith in ap (λ (k : ℕ). slice_get b.views k) e)
told_hand session a b (Err e) holds s = tt

-- ---- all

told_step : (c : Call) (a b : HubTable) (r : Answer c) → TableHolds a → TableStep c a r b → Told table_seen c a r b
told_step (Finding name) a b r h s = tt
told_step (Creating name) a b r h s = told_change _ a b r s
told_step (Deleting name) a b r h s = told_change _ a b r s
told_step (CreatingSuper name parts keys) a b r h s = told_change _ a b r s
told_step (DeletingSuper name) a b r h s = told_change _ a b r s
told_step (PartsOf name) a b r h s = s.1
told_step (Routing key name) a b r h s = s.1
told_step (Declaring session stream name) a b r h s = told_pass session stream name a b r h s
told_step (Offering stream pass items now) a b r h s = tt
told_step (StoringOffset stream name offset now) a b r h s = tt
told_step (Confirming session) a b r h s = told_hand session a b r h s
told_step (Starting stream spec) a b r h s = is_told (λ t. StartOf spec (list_at t stream)) a b r s.0 s.1
told_step (NextChunk stream from) a b r h s = is_told (λ t. next_above from (list_at t stream)) a b r s.0 s.1
told_step (GreatestOf stream name) a b r h s = is_told (λ t. Greatest (name_of name) (list_at t stream)) a b r s.0 s.1
told_step (StoredOf stream name) a b r h s = is_told (λ t. LastStored (name_of name) (list_at t stream)) a b r s.0 s.1
told_step (LastChunk stream) a b r h s = is_told (λ t. last_first (list_at t stream)) a b r s.0 s.1
told_step (Joining stream name consumer) a b r h s = tt
told_step (Leaving consumer) a b r h s = tt
told_step (Changing session) a b r h s = tt
told_step (Answering consumer) a b r h s = tt
told_step (IsActive consumer) a b r h s = tt

pub seen_laws : SeenLaws table_seen
seen_laws = record {
  same = same;
  joins = join;
  lists_grow = λ a b stream p. list_later a.views b.views stream p.views;
  passes_grow = λ a b stream p. given_later a.views b.views stream p.views;
  counts = λ a b p. p.faults;
}

pub table_laws : HubLaws table_meaning
table_laws = record {
  seen = seen_laws;
  called = λ c a b r d. record {
    later = after_step c a b r d.step;
    logs = λ stream. log_of b.views stream d.holds.views;
    told = told_step c a b r d.before d.step;
  };
}
