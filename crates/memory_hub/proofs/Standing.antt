-- Streams that have a name, those that have ended, and those that come.
use Rattle.std.proofs.Common.{◌≡◌, ◌==◌, ◌||◌, ℕ, zero, suc, ◌+◌, ◌<◌, ◌≤◌, Bool, true, false, cond, List, [], ◌∷◌, ◌++◌, map, length, take, get_or, Option, Some, None, ◌⊎◌, refl, sym, ap, subst, ◌∙◌, arith, append_assoc}
use Rattle.std.specs.Prelude.{slice_set, slice_index_or, is_some, IfSome, IfNone}
use Rattle.std.specs.List.{AllByRecursion, list_any}
use Rattle.std.specs.Map.{lookup}
use Rattle.std.proofs.lemmas.List.{append-nil, length-map}
use Rattle.stream_catalog.specs.Names.{Names, streams, live}
use Rattle.stream_catalog.specs.Names as catalog
use Rattle.stream_terms.specs.Views.{StreamView, StreamHolds}
use Rattle.memory_stream.specs.Gives.{fresh}
use Rattle.hub_terms.specs.Tables.{HubTable, HoldsFrom, TableHolds, ViewLater, ViewsLater, is_live, ended, stands, IsNew, view_at, set_view, running_by}
use Rattle.hub_terms.proofs.TableLaws.{view_same, set_same}
use Rattle.stream_table.proofs.Places.{at_place, get_or_there, absent, holds_view, holds_with}
use Rattle.memory_hub.specs.Hubs.{at_view, at_stream, run_as}
use Rattle.memory_hub.specs.Steps.{new_streams, stand_first, StandsAt}

-- ---- whether a stream is live

same_either : (a b : ℕ) → (a == b) ≡ (b == a)
same_either a b = grind arith

live_by : (b : Bool) (l : List (ℕ × ℕ)) (p : ℕ × ℕ) (number : ℕ) → list_any (λ n. n == number) (map (λ q. q.0) l) ≡ is_some (lookup (λ n. number == n) l)
    → (b || list_any (λ n. n == number) (map (λ q. q.0) l)) ≡ is_some (cond b (Some p.1) (lookup (λ n. number == n) l))
live_by true l p number h = refl
live_by false l p number h = h

live_in : (l : List (ℕ × ℕ)) (number : ℕ) → list_any (λ n. n == number) (map (λ p. p.0) l) ≡ is_some (lookup (λ n. number == n) l)
live_in [] number = refl
live_in (p ∷ l) number =
    ap (λ (b : Bool). b || list_any (λ n. n == number) (map (λ q. q.0) l)) (same_either p.0 number)
    ∙ live_by (number == p.0) l p number (live_in l number)

pub live_as : (names : Names) (number : ℕ) → is_live names number ≡ catalog.is_live number names
live_as names number = live_in (live names) number

pub stands_live : (names : Names) (v : StreamView) → catalog.is_live v.number names ≡ true → stands names v ≡ v
stands_live names v h = ap (λ (b : Bool). cond b v (ended v)) (live_as names v.number ∙ h)

pub stands_gone : (names : Names) (v : StreamView) → catalog.is_live v.number names ≡ false → stands names v ≡ ended v
stands_gone names v h = ap (λ (b : Bool). cond b v (ended v)) (live_as names v.number ∙ h)

-- ---- one after the other

stand_turn : (names : Names) (i : ℕ) (vs : List StreamView) (d : StreamView) → i < length vs → slice_set (stand_first names i vs) i (stands names (slice_index_or (stand_first names i vs) i d)) ≡ stand_first names (suc i) vs
stand_turn names i [] d h = absurd (omega (arith, h))
stand_turn names zero (v ∷ vs) d h = refl
stand_turn names (suc i) (v ∷ vs) d h = ap (λ (l : List StreamView). stands names v ∷ l) (stand_turn names i vs d (omega (arith, h)))

stand_length : (names : Names) (i : ℕ) (vs : List StreamView) → length (stand_first names i vs) ≡ length vs
stand_length names zero vs = refl
stand_length names (suc i) [] = refl
stand_length names (suc i) (v ∷ vs) = ap suc (stand_length names i vs)

pub stand_step : (names : Names) (i n : ℕ) (vs ws ws' : List StreamView) → n ≡ suc i → i < length vs → ws ≡ stand_first names i vs → StandsAt names i ws ws' → ws' ≡ stand_first names n vs
stand_step names i n vs ws ws' n_is inside is at =
    at.2
    ∙ ap (λ (x : StreamView). slice_set ws i (stands names x)) at.1
    ∙ ap (λ (l : List StreamView). slice_set l i (stands names (slice_index_or l i at.0))) is
    ∙ stand_turn names i vs at.0 inside
    ∙ ap (λ (k : ℕ). stand_first names k vs) (sym n_is)

pub stand_inside : (names : Names) (i count : ℕ) (vs ws : List StreamView) → ws ≡ stand_first names i vs → i < count → count ≤ length vs → i < length ws
stand_inside names i count vs ws is below few = let same = ap length is ∙ stand_length names i vs in omega (arith, same, below, few)

stand_whole : (names : Names) (vs more : List StreamView) → stand_first names (length vs) (vs ++ more) ≡ map (stands names) vs ++ more
stand_whole names [] more = refl
stand_whole names (v ∷ vs) more = ap (λ (l : List StreamView). stands names v ∷ l) (stand_whole names vs more)

stand_all : (names : Names) (vs : List StreamView) → stand_first names (length vs) vs ≡ map (stands names) vs
stand_all names [] = refl
stand_all names (v ∷ vs) = ap (λ (l : List StreamView). stands names v ∷ l) (stand_all names vs)

pub stood : (names : Names) (n : ℕ) (vs ws : List StreamView) → n ≡ length vs → ws ≡ stand_first names n vs → ws ≡ map (stands names) vs
stood names n vs ws n_is is = is ∙ ap (λ (k : ℕ). stand_first names k vs) n_is ∙ stand_all names vs

-- ---- what holds of them

ended_holds : (v : StreamView) → StreamHolds v [] → StreamHolds (ended v) []
ended_holds v h = record { log = h.log; of_stream = h.of_stream; waiting_known = tt; ready_known = tt; waiting_past = tt; ready_caused = tt; spent_caused = tt; apart = λ at. omega arith }

stands_holds : (b : Bool) (v : StreamView) → StreamHolds v [] → StreamHolds (cond b v (ended v)) []
stands_holds true v h = h
stands_holds false v h = ended_holds v h

stands_number : (b : Bool) (v : StreamView) → (cond b v (ended v)).number ≡ v.number
stands_number true v = refl
stands_number false v = refl

pub holds_stand : (names : Names) (n : ℕ) (vs : List StreamView) → HoldsFrom n vs → HoldsFrom n (map (stands names) vs)
holds_stand names n [] h = tt
holds_stand names n (v ∷ vs) h = (stands_number (is_live names v.number) v ∙ h.0, stands_holds (is_live names v.number) v h.1, holds_stand names (suc n) vs h.2)

fresh_holds : (n : ℕ) → StreamHolds (fresh n) []
fresh_holds n = record { log = tt; of_stream = tt; waiting_known = tt; ready_known = tt; waiting_past = tt; ready_caused = tt; spent_caused = tt; apart = λ at. omega arith }

holds_new : (n count : ℕ) → HoldsFrom n (new_streams n count)
holds_new n zero = tt
holds_new n (suc count) = (refl, fresh_holds n, holds_new (suc n) count)

holds_join : (n m : ℕ) (vs ws : List StreamView) → HoldsFrom n vs → m ≡ n + length vs → HoldsFrom m ws → HoldsFrom n (vs ++ ws)
holds_join n m [] ws h e k = let at : m ≡ n = omega (arith, e) in subst (λ (i : ℕ). HoldsFrom i ws) at k
holds_join n m (v ∷ vs) ws h e k = (h.0, h.1, holds_join (suc n) m vs ws h.2 (omega (arith, e)) k)

pub new_length : (n count : ℕ) → length (new_streams n count) ≡ count
new_length n zero = refl
new_length n (suc count) = ap suc (new_length (suc n) count)

pub new_more : (n m count : ℕ) → m ≡ n + count → new_streams n count ++ fresh m ∷ [] ≡ new_streams n (suc count)
new_more n m zero e = let at : m ≡ n = omega (arith, e) in ap (λ (i : ℕ). fresh i ∷ []) at
new_more n m (suc count) e = ap (λ (l : List StreamView). fresh n ∷ l) (new_more (suc n) m count (omega (arith, e)))

pub are_new : (n count : ℕ) → AllByRecursion IsNew (new_streams n count)
are_new n zero = tt
are_new n (suc count) = (record { passes = refl; waiting = refl; ready = refl }, are_new (suc n) count)

pub holds_come : (names : Names) (count : ℕ) (vs : List StreamView) → HoldsFrom 1 vs → HoldsFrom 1 (map (stands names) vs ++ new_streams (suc (length vs)) count)
holds_come names count vs h =
    let same : length (map (stands names) vs) ≡ length vs = length-map vs (stands names) in
    holds_join 1 (suc (length vs)) (map (stands names) vs) (new_streams (suc (length vs)) count) (holds_stand names 1 vs h) (omega (arith, same)) (holds_new (suc (length vs)) count)

-- ---- they go on

stands_later : (b : Bool) (v : StreamView) → ViewLater v (cond b v (ended v))
stands_later true v = view_same v
stands_later false v = record { number = refl; chunks = ([], sym (append-nil v.chunks)); passes = ([], sym (append-nil v.passes)) }

pub later_stand : (names : Names) (vs : List StreamView) → ViewsLater vs (map (stands names) vs)
later_stand names [] = tt
later_stand names (v ∷ vs) = (stands_later (is_live names v.number) v, later_stand names vs)

-- ---- adding

length_join : (vs ws : List StreamView) → length (vs ++ ws) ≡ length vs + length ws
length_join [] ws = omega arith
length_join (v ∷ vs) ws = let more = length_join vs ws in omega (arith, more)

pub push_count : (vs ws : List StreamView) (i : ℕ) → ws ≡ vs ++ new_streams (suc (length vs)) i → length ws ≡ length vs + i
push_count vs ws i is = ap length is ∙ length_join vs (new_streams (suc (length vs)) i) ∙ ap (λ (k : ℕ). length vs + k) (new_length (suc (length vs)) i)

pub push_turn : (vs ws ws' : List StreamView) (i n : ℕ) → n ≡ suc i → ws ≡ vs ++ new_streams (suc (length vs)) i → ws' ≡ ws ++ fresh (suc (length ws)) ∷ [] → ws' ≡ vs ++ new_streams (suc (length vs)) n
push_turn vs ws ws' i n n_is is is' =
    let count : length ws ≡ length vs + i = push_count vs ws i is in
    is'
    ∙ ap (λ (l : List StreamView). l ++ fresh (suc (length ws)) ∷ []) is
    ∙ append_assoc vs (new_streams (suc (length vs)) i) (fresh (suc (length ws)) ∷ [])
    ∙ ap (λ (l : List StreamView). vs ++ l) (new_more (suc (length vs)) (suc (length ws)) i (omega (arith, count)))
    ∙ ap (λ (k : ℕ). vs ++ new_streams (suc (length vs)) k) (sym n_is)

take_front : (vs ws : List StreamView) → take (length vs) (vs ++ ws) ≡ vs
take_front [] ws = refl
take_front (v ∷ vs) ws = ap (λ (l : List StreamView). v ∷ l) (take_front vs ws)

pub come_length : (names : Names) (count : ℕ) (vs : List StreamView) → length (map (stands names) vs ++ new_streams (suc (length vs)) count) ≡ length vs + count
come_length names count vs =
    length_join (map (stands names) vs) (new_streams (suc (length vs)) count)
    ∙ ap (λ (k : ℕ). k + length (new_streams (suc (length vs)) count)) (length-map vs (stands names))
    ∙ ap (λ (k : ℕ). length vs + k) (new_length (suc (length vs)) count)

-- names came, and their streams behind the others
pub come_done : (names : Names) (n : ℕ) (vs us ws more : List StreamView) → n ≡ length vs → us ≡ vs ++ more → ws ≡ stand_first names n us → ws ≡ map (stands names) vs ++ more
come_done names n vs us ws more n_is us_is is =
    is ∙ ap (λ (k : ℕ). stand_first names k us) n_is ∙ ap (stand_first names (length vs)) us_is ∙ stand_whole names vs more

-- or what was added is taken back
pub back_done : (n : ℕ) (vs us ws more : List StreamView) → n ≡ length vs → us ≡ vs ++ more → ws ≡ take n us → ws ≡ vs
back_done n vs us ws more n_is us_is is = is ∙ ap (λ (k : ℕ). take k us) n_is ∙ ap (take (length vs)) us_is ∙ take_front vs more

pub front_stays : (vs us more : List StreamView) → us ≡ vs ++ more → take (length vs) us ≡ vs
front_stays vs us more is = ap (take (length vs)) is ∙ take_front vs more

pub some_fit : (n : ℕ) (vs us more : List StreamView) → n ≡ length vs → us ≡ vs ++ more → n ≤ length us
some_fit n vs us more n_is is = let count = ap length is ∙ length_join vs more in omega (arith, n_is, count)

-- ---- one stream

pub at_one : (f : StreamView → StreamView) (vs ws : List StreamView) (stream place : ℕ) (d new : StreamView) → stream ≡ suc place → place < length vs → new ≡ f (get_or vs place d) → ws ≡ slice_set vs place new → ws ≡ at_stream f stream vs
at_one f vs ws stream place d new is inside new_is ws_is =
    let at = at_place vs stream place d new is inside in
    ws_is ∙ ap (λ (k : ℕ). set_view vs k new) (sym is) ∙ ap (set_view vs stream) new_is ∙ sym (ap (at_view f stream vs) at.there)

pub at_none : (f : StreamView → StreamView) (vs : List StreamView) (stream : ℕ) → (stream ≡ 0) ⊎ (length vs < stream) → vs ≡ at_stream f stream vs
at_none f vs stream none = sym (ap (at_view f stream vs) (absent vs stream none))

run_before : (vs : List StreamView) (stream place : ℕ) (d : StreamView) → stream ≡ suc place → place < length vs → running_by (view_at vs stream) ≡ (get_or vs place d).running
run_before vs stream place d is inside = ap running_by (at_place vs stream place d d is inside).there

running_holds : (v : StreamView) (running : Option ℕ) → StreamHolds v [] → StreamHolds (run_as running v) []
running_holds v running h = record { log = h.log; of_stream = h.of_stream; waiting_known = h.waiting_known; ready_known = h.ready_known; waiting_past = h.waiting_past; ready_caused = h.ready_caused; spent_caused = h.spent_caused; apart = h.apart }

holds_by : (running : Option ℕ) (t : HubTable) (stream : ℕ) (found : Option StreamView) → view_at t.views stream ≡ found → TableHolds t → TableHolds (record t { views = at_view (run_as running) stream t.views found })
holds_by running t stream None is h = record { views = h.views; last = h.last }
holds_by running t stream (Some v) is h =
    holds_with t stream v (run_as running v) (set_view t.views stream (run_as running v)) h (record { there = is; ws_is = refl }) refl (running_holds v running (holds_view t.views stream v h.views is))

-- a table of which one stream runs, or not
pub holds_running : (running : Option ℕ) (t : HubTable) (stream : ℕ) → TableHolds t → TableHolds (record t { views = at_stream (run_as running) stream t.views })
holds_running running t stream h = holds_by running t stream (view_at t.views stream) refl h

-- ---- what a place holds

same_set : (vs : List StreamView) (place : ℕ) (d : StreamView) → place < length vs → slice_set vs place (get_or vs place d) ≡ vs
same_set vs place d inside = set_same vs place (get_or vs place d) (get_or_there vs place d inside)

pub begin_done : (vs ws : List StreamView) (stream place : ℕ) (d new : StreamView) (r : Option ℕ) → stream ≡ suc place → place < length vs → ws ≡ slice_set vs place new → IfSome r (λ epoch. new ≡ run_as (Some epoch) (get_or vs place d))
    → IfSome r (λ epoch. ws ≡ at_stream (run_as (Some epoch)) stream vs)
begin_done vs ws stream place d new None is inside ws_is h = tt
begin_done vs ws stream place d new (Some epoch) is inside ws_is h = at_one (run_as (Some epoch)) vs ws stream place d new is inside h ws_is

pub begin_later : (vs : List StreamView) (stream place : ℕ) (d : StreamView) (r : Option ℕ) → stream ≡ suc place → place < length vs → IfSome r (λ epoch. IfSome (get_or vs place d).running (λ before. before < epoch))
    → IfSome r (λ epoch. IfSome (running_by (view_at vs stream)) (λ before. before < epoch))
begin_later vs stream place d r is inside h = subst (λ (o : Option ℕ). IfSome r (λ epoch. IfSome o (λ before. before < epoch))) (sym (run_before vs stream place d is inside)) h

pub begin_none : (vs ws : List StreamView) (place : ℕ) (d new : StreamView) (r : Option ℕ) → place < length vs → ws ≡ slice_set vs place new → IfNone r (new ≡ get_or vs place d) → IfNone r (ws ≡ vs)
begin_none vs ws place d new None inside ws_is h = ws_is ∙ ap (slice_set vs place) h ∙ same_set vs place d inside
begin_none vs ws place d new (Some epoch) inside ws_is h = tt

-- ---- a stream that was pushed

pub pushed : (vs ws : List StreamView) (number : ℕ) → number ≡ length vs + 1 → ws ≡ vs ++ fresh number ∷ [] → ws ≡ vs ++ fresh (suc (length vs)) ∷ []
pushed vs ws number number_is is = let at : number ≡ suc (length vs) = omega (arith, number_is) in is ∙ ap (λ (n : ℕ). vs ++ fresh n ∷ []) at

pub cut_back : (n : ℕ) (vs us ws : List StreamView) → n ≡ length vs → take (length vs) us ≡ vs → ws ≡ take n us → ws ≡ vs
cut_back n vs us ws n_is front is = is ∙ ap (λ (k : ℕ). take k us) n_is ∙ front

pub is_suc : (i : ℕ) → i + 1 ≡ suc i
is_suc i = omega arith
