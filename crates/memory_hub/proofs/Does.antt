-- What the calls of the hub do, as steps of its table.
use Rattle.std.proofs.Common.{◌≡◌, ℕ, suc, ◌+◌, ◌<◌, ◌≤◌, Bool, true, false, List, [], ◌∷◌, ◌++◌, map, length, Option, Some, None, Result, Ok, Err, refl, sym, ap, subst, ◌∙◌, arith}
use Rattle.std.specs.Prelude.{IfSome, IfNone, IfOk, OnOk, OnErr}
use Rattle.std.specs.List.{AllByRecursion, Contains}
use Rattle.std.specs.declared.alloc.AllocError.{AllocError}
use Rattle.active_groups.specs.declared.consumer.ConsumerId.{ConsumerId}
use Rattle.active_groups.specs.Seating.{Seating}
use Rattle.active_groups.specs.Steps.{Joins, Leaves, GroupStep}
use Rattle.std.proofs.lemmas.List.{append-nil}
use Rattle.command_fields.specs.declared.response.ResponseCode.{ResponseCode}
use Rattle.command_fields.specs.declared.response.ResponseCode.TheVariants as code
use Rattle.stream_catalog.specs.declared.change.Change.{Change}
use Rattle.stream_catalog.specs.declared.fault.CatalogFault.{CatalogFault}
use Rattle.stream_catalog.specs.declared.fault.CatalogFault.TheVariants as refused
use Rattle.stream_catalog.specs.Names.{Names, part_index, is_live}
use Rattle.stream_catalog.specs.Rules.{changed, after}
use Rattle.stream_catalog.specs.Files.{fits}
use Rattle.stream_catalog.specs.Asking.{Asks}
use Rattle.stream_terms.specs.Views.{StreamView}
use Rattle.hub_terms.specs.declared.terms.HubDid.{HubDid}
use Rattle.hub_terms.specs.declared.terms.HubDid.TheVariants.{Code, Failed, Memory}
use Rattle.hub_terms.specs.Calls.{Call, Answer, Words}
use Rattle.hub_terms.specs.Meaning.{IsHubCode, IfTold}
use Rattle.hub_terms.specs.Tables.{HubTable, TableHolds, Rule, CatalogStep, CodeStep, FailedStep, LostStep, lists_then, code_of, stands, view_at, running_by, JoinBy, TableDoes, TableStep}
use Rattle.hub_terms.proofs.TableLaws.{views_same}
use Rattle.memory_hub.specs.Hubs.{HubInMemory, one_more, FailsNext, counted, ChangeCounts, Counts, MemoryDoes, at_stream, at_hub, run_as}
use Rattle.memory_hub.specs.Steps.{new_streams, told_as, done, with_streams, after_change, Comes}
use Rattle.memory_hub.proofs.Standing.{holds_stand, holds_come, are_new, later_stand, come_length, holds_running}

-- ---- what holds of the table

pub viewed : (x a : HubInMemory) → x ≡ a → TableHolds x.table → TableHolds a.table
viewed x a is h = subst (λ (y : HubInMemory). TableHolds y.table) is h

pub holds_after : (a : HubInMemory) (names : Names) (count : ℕ) → TableHolds a.table → names.last ≡ a.table.names.last + count → TableHolds (after_change names count a).table
holds_after a names count h last = record {
  views = holds_come names count a.table.views h.views;
  last = last ∙ ap (λ (n : ℕ). n + count) h.last ∙ sym (come_length names count a.table.views);
}

stand_length : (names : Names) (vs : List StreamView) → length (map (stands names) vs) ≡ length vs
stand_length names [] = refl
stand_length names (v ∷ vs) = ap suc (stand_length names vs)

pub holds_refused : (a : HubInMemory) → TableHolds a.table → TableHolds (with_streams a.table.names (map (stands a.table.names) a.table.views) a).table
holds_refused a h = record { views = holds_stand a.table.names 1 a.table.views h.views; last = h.last ∙ sym (stand_length a.table.names a.table.views) }

-- ---- the steps of a change

first_of : (x : Names) (xs : List Names) → Contains (x ∷ xs) x
first_of x xs = (0, omega arith, refl)

none_other : (P : Names → Type 0) (others : List Names) → others ≡ [] → AllByRecursion P others
none_other P others none = subst (AllByRecursion P) (sym none) tt

-- the change that happens
code_step : (rule : Rule) (c : Change) (count : ℕ) (a : HubInMemory) → a.table.others ≡ [] → rule a.table.names ≡ Ok c → CodeStep rule a.table code.Ok (after_change (changed c a.table.names) count a).table
code_step rule c count a none asked = record {
  start = a.table.names;
  is_start = first_of a.table.names a.table.others;
  response_is = sym (ap code_of asked);
  is_code = refl;
  names = sym (ap (λ (r : Result Change CatalogFault). after r a.table.names) asked);
  others = none;
  views = record { more = new_streams (suc (length a.table.views)) count; are_new = are_new (suc (length a.table.views)) count; new_is = refl };
  rest = refl;
}

-- the one that is refused
refused_step : (rule : Rule) (f : CatalogFault) (response : ResponseCode) (a : HubInMemory) → a.table.others ≡ [] → rule a.table.names ≡ Err f → response ≡ code_of (Err f) → IsHubCode response
    → CodeStep rule a.table response (with_streams a.table.names (map (stands a.table.names) a.table.views) a).table
refused_step rule f response a none asked is is_code = record {
  start = a.table.names;
  is_start = first_of a.table.names a.table.others;
  response_is = is ∙ sym (ap code_of asked);
  is_code = is_code;
  names = sym (ap (λ (r : Result Change CatalogFault). after r a.table.names) asked);
  others = none;
  views = record { more = []; are_new = tt; new_is = sym (append-nil (map (stands a.table.names) a.table.views)) };
  rest = refl;
}

lost_step : (rule : Rule) (a : HubInMemory) → a.table.others ≡ [] → LostStep rule a.table a.table
lost_step rule a none = record {
  names = first_of a.table.names _;
  others = none_other (Contains (lists_then rule a.table)) a.table.others none;
  later = views_same a.table.views;
  rest = refl;
}

lost_refused : (rule : Rule) (a : HubInMemory) → a.table.others ≡ [] → LostStep rule a.table (with_streams a.table.names (map (stands a.table.names) a.table.views) a).table
lost_refused rule a none = record {
  names = first_of a.table.names _;
  others = none_other (Contains (lists_then rule a.table)) a.table.others none;
  later = later_stand a.table.names a.table.views;
  rest = refl;
}

came : (rule : Rule) (c : Change) (count : ℕ) (a b : HubInMemory) (r : HubDid) → a.table.others ≡ [] → rule a.table.names ≡ Ok c → Comes c count a r b → CatalogStep rule a.table r b.table
came rule c count a b (Code response) none asked s =
    subst (λ (x : ResponseCode). CodeStep rule a.table x b.table) (sym s.0) (subst (λ (x : HubInMemory). CodeStep rule a.table code.Ok x.table) (sym s.1) (code_step rule c count a none asked))
came rule c count a b Failed none asked s = absurd s
came rule c count a b Memory none asked s = subst (λ (x : HubInMemory). LostStep rule a.table x.table) (sym s) (lost_step rule a none)

abbrev Refused : Rule → CatalogFault → HubInMemory → Type 0
Refused rule f a = CatalogStep rule a.table (told_as f) (with_streams a.table.names (map (stands a.table.names) a.table.views) a).table

was_refused : (rule : Rule) (f : CatalogFault) (a : HubInMemory) → a.table.others ≡ [] → Asks (Err f) (rule a.table.names) → Refused rule f a
was_refused rule refused.Missing a none asked = refused_step rule refused.Missing code.StreamDoesNotExist a none asked refl refl
was_refused rule refused.Exists a none asked = refused_step rule refused.Exists code.StreamAlreadyExists a none asked refl refl
was_refused rule (refused.Refused why) a none asked = refused_step rule (refused.Refused why) code.PreconditionFailed a none asked refl refl
was_refused rule refused.Disk a none asked = absurd asked
was_refused rule (refused.Damaged place) a none asked = absurd asked
was_refused rule refused.Memory a none asked = lost_refused rule a none

-- ---- a whole change

-- a change by a rule, which fails exactly where it is listed
pub record ChangeDoes (rule : Rule) (a : HubInMemory) (r : HubDid) (b : HubInMemory) : Type 0 where
  pub before : TableHolds a.table
  pub holds : TableHolds b.table
  pub step : CatalogStep rule a.table r b.table
  pub counts : ChangeCounts a r b

failed_step : (rule : Rule) (a : HubInMemory) → a.table.others ≡ [] → a.table.faults ≤ one_more a.table.faults → FailedStep rule a.table (counted true a).table
failed_step rule a none later = record {
  rose = omega arith;
  counts = later;
  others = none_other (Contains (lists_then rule a.table)) a.table.others none;
  rest = refl;
}

pub fails_does : (rule : Rule) (a b : HubInMemory) → TableHolds a.table → a.table.others ≡ [] → FailsNext a → b ≡ counted true a → a.table.faults ≤ b.table.faults → ChangeDoes rule a Failed b
fails_does rule a b h none fails is later =
    let there : ChangeDoes rule a Failed (counted true a) = record {
      before = h;
      holds = record { views = h.views; last = h.last };
      step = failed_step rule a none (subst (λ (x : HubInMemory). a.table.faults ≤ x.table.faults) is later);
      counts = record { listed = (λ _. fails, λ _. refl); fails = refl; changes = refl };
    } in
    subst (ChangeDoes rule a Failed) (sym is) there

-- what a change leaves beside the table
pub record Beside (a b : HubInMemory) : Type 0 where
  pub fails : b.fails ≡ a.fails
  pub changes : b.changes ≡ a.changes

code_is_none : (response : ResponseCode) → Code response ≡ Failed → ⊥
code_is_none response e = cc

memory_is_none : let lost : HubDid = Memory in lost ≡ Failed → ⊥
memory_is_none e = cc

came_fails : (c : Change) (count : ℕ) (a b : HubInMemory) (r : HubDid) → Comes c count a r b → r ≡ Failed → ⊥
came_fails c count a b (Code response) s e = code_is_none response e
came_fails c count a b Failed s e = absurd s
came_fails c count a b Memory s e = memory_is_none e

came_beside : (c : Change) (count : ℕ) (a b : HubInMemory) (r : HubDid) → Comes c count a r b → Beside a b
came_beside c count a b (Code response) s = record { fails = ap (λ (x : HubInMemory). x.fails) s.1; changes = ap (λ (x : HubInMemory). x.changes) s.1 }
came_beside c count a b Failed s = absurd s
came_beside c count a b Memory s = record { fails = ap (λ (x : HubInMemory). x.fails) s; changes = ap (λ (x : HubInMemory). x.changes) s }

came_holds : (c : Change) (count : ℕ) (a b : HubInMemory) (r : HubDid) → TableHolds a.table → (changed c a.table.names).last ≡ a.table.names.last + count → Comes c count a r b → TableHolds b.table
came_holds c count a b (Code response) h last s = subst (λ (x : HubInMemory). TableHolds x.table) (sym s.1) (holds_after a (changed c a.table.names) count h last)
came_holds c count a b Failed h last s = absurd s
came_holds c count a b Memory h last s = subst (λ (x : HubInMemory). TableHolds x.table) (sym s) h

told_fails : (f : CatalogFault) → told_as f ≡ Failed → ⊥
told_fails refused.Missing e = code_is_none _ e
told_fails refused.Exists e = code_is_none _ e
told_fails (refused.Refused why) e = code_is_none _ e
told_fails refused.Disk e = memory_is_none e
told_fails (refused.Damaged place) e = memory_is_none e
told_fails refused.Memory e = memory_is_none e

counted_none : (a b : HubInMemory) (r : HubDid) → (FailsNext a → ⊥) → (r ≡ Failed → ⊥) → Beside (counted false a) b → ChangeCounts a r b
counted_none a b r fails not beside = record { listed = (λ e. absurd (not e), λ e. absurd (fails e)); fails = beside.fails; changes = beside.changes }

came_from : (ask : HubTable → Rule) (a b : HubInMemory) (c : Change) (count : ℕ) (r : HubDid) → TableHolds a.table → a.table.others ≡ [] → (FailsNext a → ⊥)
    → ask a.table a.table.names ≡ Ok c → (changed c a.table.names).last ≡ a.table.names.last + count → Comes c count (counted false a) r b → ChangeDoes (ask a.table) a r b
came_from ask a b c count r h none fails asked last s = record {
  before = h;
  holds = came_holds c count (counted false a) b r h last s;
  step = came (ask a.table) c count (counted false a) b r none asked s;
  counts = counted_none a b r fails (came_fails c count (counted false a) b r s) (came_beside c count (counted false a) b r s);
}

refused_from : (ask : HubTable → Rule) (a : HubInMemory) (f : CatalogFault) → TableHolds a.table → a.table.others ≡ [] → (FailsNext a → ⊥) → Asks (Err f) (ask a.table a.table.names)
    → ChangeDoes (ask a.table) a (told_as f) (with_streams a.table.names (map (stands a.table.names) a.table.views) (counted false a))
refused_from ask a f h none fails asked = record {
  before = h;
  holds = holds_refused (counted false a) h;
  step = was_refused (ask a.table) f (counted false a) none asked;
  counts = counted_none a (with_streams a.table.names (map (stands a.table.names) a.table.views) (counted false a)) (told_as f) fails (told_fails f) (record { fails = refl; changes = refl });
}

-- as the code sees it: the hub m, which was counted from a
pub came_does : (ask : HubTable → Rule) (a m b : HubInMemory) (c : Change) (count : ℕ) (r : HubDid) → m ≡ counted false a → TableHolds a.table → a.table.others ≡ [] → (FailsNext a → ⊥)
    → ask m.table m.table.names ≡ Ok c → (changed c m.table.names).last ≡ m.table.names.last + count → Comes c count m r b → ChangeDoes (ask a.table) a r b
came_does ask a m b c count r is h none fails asked last s =
    came_from ask a b c count r h none fails
    (subst (λ (y : HubInMemory). ask y.table y.table.names ≡ Ok c) is asked)
    (subst (λ (y : HubInMemory). (changed c y.table.names).last ≡ y.table.names.last + count) is last)
    (subst (λ (y : HubInMemory). Comes c count y r b) is s)

pub refused_does : (ask : HubTable → Rule) (a m b : HubInMemory) (f : CatalogFault) (r : HubDid) → m ≡ counted false a → TableHolds a.table → a.table.others ≡ [] → (FailsNext a → ⊥)
    → Asks (Err f) (ask m.table m.table.names) → r ≡ told_as f → b ≡ with_streams m.table.names (map (stands m.table.names) m.table.views) m → ChangeDoes (ask a.table) a r b
refused_does ask a m b f r is h none fails asked told_is b_is =
    let there = refused_from ask a f h none fails (subst (λ (y : HubInMemory). Asks (Err f) (ask y.table y.table.names)) is asked) in
    let end = b_is ∙ ap (λ (y : HubInMemory). with_streams y.table.names (map (stands y.table.names) y.table.views) y) is in
    subst (λ (y : HubInMemory). ChangeDoes (ask a.table) a r y) (sym end) (subst (λ (d : HubDid). ChangeDoes (ask a.table) a d (with_streams a.table.names (map (stands a.table.names) a.table.views) (counted false a))) (sym told_is) there)

-- ---- what changes, as the code makes it

abbrev at_names : Names → List StreamView → HubInMemory → HubInMemory
at_names names views x = with_streams names views x

came_at : (c : Change) (count : ℕ) (x : HubInMemory) (names : Names) (ws : List StreamView) → names ≡ changed c x.table.names → ws ≡ map (stands names) x.table.views ++ new_streams (suc (length x.table.views)) count
    → at_names names ws x ≡ after_change (changed c x.table.names) count x
came_at c count x names ws names_is ws_is = ap (λ (l : List StreamView). at_names names l x) ws_is ∙ ap (λ (n : Names). after_change n count x) names_is

pub came_so : (c : Change) (count : ℕ) (x a : HubInMemory) (names : Names) (ws : List StreamView) → x ≡ a → names ≡ changed c x.table.names → ws ≡ map (stands names) x.table.views ++ new_streams (suc (length x.table.views)) count
    → with_streams names ws x ≡ after_change (changed c a.table.names) count a
came_so c count x a names ws is names_is ws_is = came_at c count x names ws names_is ws_is ∙ ap (λ (y : HubInMemory). after_change (changed c y.table.names) count y) is

pub came_so_holds : (c : Change) (count : ℕ) (x a : HubInMemory) (names : Names) (ws : List StreamView) → x ≡ a → names ≡ changed c x.table.names → ws ≡ map (stands names) x.table.views ++ new_streams (suc (length x.table.views)) count
    → TableHolds x.table → (changed c a.table.names).last ≡ a.table.names.last + count → TableHolds (with_streams names ws x).table
came_so_holds c count x a names ws is names_is ws_is h last =
    let here : (changed c x.table.names).last ≡ x.table.names.last + count = subst (λ (y : HubInMemory). (changed c y.table.names).last ≡ y.table.names.last + count) (sym is) last in
    subst (λ (y : HubInMemory). TableHolds y.table) (sym (came_at c count x names ws names_is ws_is)) (holds_after x (changed c x.table.names) count h here)

pub fits_here : (c : Change) (x a : HubInMemory) → x ≡ a → fits c a.table.names ≡ true → fits c x.table.names ≡ true
fits_here c x a is h = subst (λ (y : HubInMemory). fits c y.table.names ≡ true) (sym is) h

stays_so : (x a : HubInMemory) (names : Names) (ws : List StreamView) → x ≡ a → names ≡ x.table.names → ws ≡ x.table.views → with_streams names ws x ≡ a
stays_so x a names ws is names_is ws_is = ap (λ (n : Names). with_streams n ws x) names_is ∙ ap (λ (l : List StreamView). with_streams x.table.names l x) ws_is ∙ is

stays_so_holds : (x : HubInMemory) (names : Names) (ws : List StreamView) → names ≡ x.table.names → ws ≡ x.table.views → TableHolds x.table → TableHolds (with_streams names ws x).table
stays_so_holds x names ws names_is ws_is h = subst (λ (y : HubInMemory). TableHolds y.table) (sym (stays_so x x names ws refl names_is ws_is)) h

-- or nothing changed for want of memory
pub comes_holds : (r : Result (Unit {0}) AllocError) (c : Change) (count : ℕ) (x a : HubInMemory) (names : Names) (ws : List StreamView) → x ≡ a → OnOk r (names ≡ changed c x.table.names) → OnOk r (ws ≡ map (stands names) x.table.views ++ new_streams (suc (length x.table.views)) count)
    → OnErr r (names ≡ x.table.names) → OnErr r (ws ≡ x.table.views) → TableHolds x.table → (changed c a.table.names).last ≡ a.table.names.last + count → TableHolds (with_streams names ws x).table
comes_holds (Ok u) c count x a names ws is names_is ws_is same_names same_ws h last = came_so_holds c count x a names ws is names_is ws_is h last
comes_holds (Err e) c count x a names ws is names_is ws_is same_names same_ws h last = stays_so_holds x names ws same_names same_ws h

pub comes_so : (r : Result (Unit {0}) AllocError) (c : Change) (count : ℕ) (x a : HubInMemory) (names : Names) (ws : List StreamView) (d : HubDid) → x ≡ a → OnOk r (names ≡ changed c x.table.names) → OnOk r (ws ≡ map (stands names) x.table.views ++ new_streams (suc (length x.table.views)) count)
    → OnErr r (names ≡ x.table.names) → OnErr r (ws ≡ x.table.views) → d ≡ done r → Comes c count a d (with_streams names ws x)
comes_so (Ok u) c count x a names ws d is names_is ws_is same_names same_ws d_is = subst (λ (e : HubDid). Comes c count a e (with_streams names ws x)) (sym d_is) (refl, came_so c count x a names ws is names_is ws_is)
comes_so (Err e) c count x a names ws d is names_is ws_is same_names same_ws d_is = subst (λ (e : HubDid). Comes c count a e (with_streams names ws x)) (sym d_is) (stays_so x a names ws is same_names same_ws)

pub none_come : (names : Names) (vs ws : List StreamView) → ws ≡ map (stands names) vs → ws ≡ map (stands names) vs ++ new_streams (suc (length vs)) 0
none_come names vs ws is = is ∙ sym (append-nil (map (stands names) vs))

pub refused_so : (x a : HubInMemory) (ws : List StreamView) → x ≡ a → ws ≡ map (stands x.table.names) x.table.views → with_streams x.table.names ws x ≡ with_streams a.table.names (map (stands a.table.names) a.table.views) a
refused_so x a ws is ws_is = ap (λ (l : List StreamView). with_streams x.table.names l x) ws_is ∙ ap (λ (y : HubInMemory). with_streams y.table.names (map (stands y.table.names) y.table.views) y) is

pub refused_so_holds : (x : HubInMemory) (ws : List StreamView) → ws ≡ map (stands x.table.names) x.table.views → TableHolds x.table → TableHolds (with_streams x.table.names ws x).table
refused_so_holds x ws ws_is h = subst (λ (y : HubInMemory). TableHolds y.table) (sym (ap (λ (l : List StreamView). with_streams x.table.names l x) ws_is)) (holds_refused x h)

-- ---- calls that only ask, and calls of streams

pub asks : (c : Call) (x a : HubInMemory) (r : Answer c) → x ≡ a → TableHolds x.table → TableStep c x.table r x.table → Counts c x r x → MemoryDoes c a r a
asks c x a r is h step counts = subst (λ (y : HubInMemory). MemoryDoes c y r y) is (record { table = record { before = h; holds = h; step = step }; counts = counts })

abbrev pub with_views : List StreamView → HubInMemory → HubInMemory
with_views views h = record h { table = record h.table { views = views } }

pub lent : (c : Call) (x a : HubInMemory) (us ws : List StreamView) (r : Answer c) → x ≡ a → ws ≡ us → TableDoes c x.table r (record x.table { views = us }) → Counts c x r (with_views ws x) → MemoryDoes c a r (with_views ws x)
lent c x a us ws r is same does counts =
    subst (λ (y : HubInMemory). MemoryDoes c y r (with_views ws x)) is
    (record { table = subst (λ (l : List StreamView). TableDoes c x.table r (record x.table { views = l })) (sym same) does; counts = counts })

pub lent_holds : (t : HubTable) (us ws : List StreamView) → ws ≡ us → TableHolds (record t { views = us }) → TableHolds (record t { views = ws })
lent_holds t us ws same h = subst (λ (l : List StreamView). TableHolds (record t { views = l })) (sym same) h

-- the epoch of one stream ends or begins
pub run_so : (running : Option ℕ) (stream : ℕ) (x a : HubInMemory) (ls us ws : List StreamView) → x ≡ a → ls ≡ x.table.views → us ≡ at_stream (run_as running) stream ls → ws ≡ us → with_views ws x ≡ at_hub (run_as running) stream a
run_so running stream x a ls us ws is ls_is us_is ws_is =
    ap (λ (l : List StreamView). with_views l x) (ws_is ∙ us_is ∙ ap (at_stream (run_as running) stream) ls_is) ∙ ap (at_hub (run_as running) stream) is

pub run_holds : (running : Option ℕ) (stream : ℕ) (x : HubInMemory) (ls us ws : List StreamView) → ls ≡ x.table.views → us ≡ at_stream (run_as running) stream ls → ws ≡ us → TableHolds x.table → TableHolds (with_views ws x).table
run_holds running stream x ls us ws ls_is us_is ws_is h =
    subst (λ (l : List StreamView). TableHolds (record x.table { views = l })) (sym (ws_is ∙ us_is ∙ ap (at_stream (run_as running) stream) ls_is)) (holds_running running x.table stream h)

pub begun_so : (r : Option ℕ) (stream : ℕ) (x a : HubInMemory) (ls us ws : List StreamView) → x ≡ a → ls ≡ x.table.views → ws ≡ us → IfSome r (λ epoch. us ≡ at_stream (run_as (Some epoch)) stream ls) → IfSome r (λ epoch. with_views ws x ≡ at_hub (run_as (Some epoch)) stream a)
begun_so None stream x a ls us ws is ls_is ws_is h = tt
begun_so (Some epoch) stream x a ls us ws is ls_is ws_is h = run_so (Some epoch) stream x a ls us ws is ls_is h ws_is

pub begun_holds : (r : Option ℕ) (stream : ℕ) (x : HubInMemory) (ls us ws : List StreamView) → ls ≡ x.table.views → ws ≡ us → IfSome r (λ epoch. us ≡ at_stream (run_as (Some epoch)) stream ls) → IfNone r (us ≡ ls) → TableHolds x.table → TableHolds (with_views ws x).table
begun_holds None stream x ls us ws ls_is ws_is some none h = subst (λ (l : List StreamView). TableHolds (record x.table { views = l })) (sym (ws_is ∙ none ∙ ls_is)) h
begun_holds (Some epoch) stream x ls us ws ls_is ws_is some none h = run_holds (Some epoch) stream x ls us ws ls_is some ws_is h

pub begun_later : (r : Option ℕ) (stream : ℕ) (x a : HubInMemory) (ls : List StreamView) → x ≡ a → ls ≡ x.table.views → IfSome r (λ epoch. IfSome (running_by (view_at ls stream)) (λ before. before < epoch))
    → IfSome r (λ epoch. IfSome (running_by (view_at a.table.views stream)) (λ before. before < epoch))
begun_later r stream x a ls is ls_is h = subst (λ (l : List StreamView). IfSome r (λ epoch. IfSome (running_by (view_at l stream)) (λ before. before < epoch))) (ls_is ∙ ap (λ (y : HubInMemory). y.table.views) is) h

pub begun_none : (r : Option ℕ) (x a : HubInMemory) (ls us ws : List StreamView) → x ≡ a → ls ≡ x.table.views → ws ≡ us → IfNone r (us ≡ ls) → IfNone r (with_views ws x ≡ a)
begun_none None x a ls us ws is ls_is ws_is h = ap (λ (l : List StreamView). with_views l x) (ws_is ∙ h ∙ ls_is) ∙ is
begun_none (Some epoch) x a ls us ws is ls_is ws_is h = tt

pub begun_live : (r : Option ℕ) (stream : ℕ) (x a : HubInMemory) (live : Bool) → x ≡ a → live ≡ is_live stream x.table.names → live ≡ true → IfSome r (λ epoch. is_live stream a.table.names ≡ true)
begun_live None stream x a live is live_is yes_live = tt
begun_live (Some epoch) stream x a live is live_is yes_live = subst (λ (y : HubInMemory). is_live stream y.table.names ≡ true) is (sym live_is ∙ yes_live)

-- ---- calls of groups

abbrev pub with_groups : List Seating → HubInMemory → HubInMemory
with_groups groups h = record h { table = record h.table { groups = groups } }

pub groups_hold : (t : HubTable) (groups : List Seating) → TableHolds t → TableHolds (record t { groups = groups })
groups_hold t groups h = record { views = h.views; last = h.last }

pub grouped : (c : Call) (x a : HubInMemory) (groups : List Seating) (r : Answer c) → x ≡ a → TableHolds x.table → TableStep c x.table r (with_groups groups x).table → Counts c x r (with_groups groups x) → MemoryDoes c a r (with_groups groups x)
grouped c x a groups r is h step counts =
    subst (λ (y : HubInMemory). MemoryDoes c y r (with_groups groups x)) is (record { table = record { before = h; holds = groups_hold x.table groups h; step = step }; counts = counts })

pub joined_by : (stream : ℕ) (name : Words) (consumer : ConsumerId) (index : ℕ) (t : HubTable) (mid groups : List Seating) (r : Result (Unit {0}) AllocError) → index ≡ part_index stream t.names → GroupStep t.groups (Leaves consumer) mid
    → OnOk r (GroupStep mid (Joins stream name index consumer) groups) → OnErr r (groups ≡ mid) → JoinBy stream name consumer t r (record t { groups = groups })
joined_by stream name consumer index t mid groups (Ok u) is leaves ok err = record {
  mid = mid;
  leaves = leaves;
  joins = subst (λ (i : ℕ). GroupStep mid (Joins stream name i consumer) groups) is ok;
  rest = refl;
}
joined_by stream name consumer index t mid groups (Err e) is leaves ok err = record { step = subst (GroupStep t.groups (Leaves consumer)) (sym err) leaves; rest = refl }

-- ---- what is told of lists

pub if_told : {A : Type 0} (value told : A) (r : Result A AllocError) → IfOk r (λ v. v ≡ told) → told ≡ value → IfTold value r
if_told value told (Ok v) h same = h ∙ same
if_told value told (Err e) h same = tt

pub asked_here : (ask : HubTable → Rule) (x a : HubInMemory) (r : Result Change CatalogFault) → x ≡ a → Asks r (ask x.table x.table.names) → Asks r (ask a.table a.table.names)
asked_here ask x a r is h = subst (λ (y : HubInMemory). Asks r (ask y.table y.table.names)) is h

pub fit_here : (x a : HubInMemory) (r : Result Change CatalogFault) → x ≡ a → IfOk r (λ c. fits c x.table.names ≡ true) → IfOk r (λ c. fits c a.table.names ≡ true)
fit_here x a r is h = subst (λ (y : HubInMemory). IfOk r (λ c. fits c y.table.names ≡ true)) is h
