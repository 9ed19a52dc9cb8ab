-- Streams of a table hand out confirms, one after the other.
use Rattle.std.proofs.Common.{◌≡◌, ℕ, zero, suc, ◌+◌, ◌≤◌, List, [], ◌∷◌, ◌++◌, map, length, take, drop, Ok, Err, Option, Some, None, refl, sym, ap, subst, ◌∙◌, append_assoc, arith}
use Rattle.std.specs.Prelude.{slice_get, slice_set, Bool}
use Rattle.std.proofs.lemmas.List.{append-nil}
use Rattle.std.specs.List.{filter}
use Rattle.std.specs.declared.alloc.AllocError.{AllocError}
use Rattle.std.proofs.lemmas.Grind.{common_steps}
use Rattle.stream_terms.specs.declared.terms.Confirm.{Confirm}
use Rattle.stream_terms.specs.declared.terms.Waits.{Waits}
use Rattle.stream_terms.specs.Views.{StreamView, StreamHolds, Known, Caused, covers}
use Rattle.stream_terms.specs.Steps.{HandStep, is_of, is_other, confirm_of}
use Rattle.stream_terms.proofs.Counts.{each_filter, count_parts}
use Rattle.hub_terms.specs.Calls.{Confirming}
use Rattle.hub_terms.specs.Tables.{HubTable, HoldsFrom, TableHolds, ViewLater, ViewsLater, HandAll, TableDoes}
use Rattle.hub_terms.proofs.TableLaws.{holds_at, holds_set, set_later, views_join, views_same}

-- ---- confirms

ready_holds : (v : StreamView) (f : Waits → Bool) → StreamHolds v [] → StreamHolds (record v { ready = filter f v.ready }) []
ready_holds v f h = record {
  log = h.log;
  of_stream = h.of_stream;
  waiting_known = h.waiting_known;
  ready_known = each_filter (Known v.passes) f v.ready h.ready_known;
  waiting_past = h.waiting_past;
  ready_caused = each_filter (Caused v.chunks) f v.ready h.ready_caused;
  spent_caused = tt;
  apart = λ at. let all = h.apart at in let part = count_parts (covers at) f v.ready in omega (arith, all, part);
}

ready_none : (v : StreamView) → StreamHolds v [] → StreamHolds (record v { ready = [] }) []
ready_none v h = record {
  log = h.log;
  of_stream = h.of_stream;
  waiting_known = h.waiting_known;
  ready_known = tt;
  waiting_past = h.waiting_past;
  ready_caused = tt;
  spent_caused = tt;
  apart = λ at. let all = h.apart at in omega (arith, all);
}

-- the streams before the i-th have handed out what they had
pub record HandsSoFar (session i : ℕ) (vs ws : List StreamView) (out : List Confirm) : Type 0 where
  pub hands : HandAll session (take i vs) out (take i ws)
  pub rest : drop i ws ≡ drop i vs
  pub count : length ws ≡ length vs
  pub holds : HoldsFrom 1 ws
  pub before : HoldsFrom 1 vs
  pub later : ViewsLater vs ws

pub no_hands : (session : ℕ) (vs : List StreamView) (out : List Confirm) → out ≡ [] → HoldsFrom 1 vs → HandsSoFar session 0 vs vs out
no_hands session vs out e h = record { hands = e; rest = refl; count = refl; holds = h; before = h; later = views_same vs }

hands_more : (session : ℕ) (vs ws : List StreamView) (v w : StreamView) (out : List Confirm) → HandAll session vs out ws → HandStep v session (filter (is_of session) v.ready) w
    → HandAll session (vs ++ v ∷ []) (out ++ map confirm_of (filter (is_of session) v.ready)) (ws ++ w ∷ [])
hands_more session [] [] v w out h step =
    let mine = map confirm_of (filter (is_of session) v.ready) in
    record { out = filter (is_of session) v.ready; rest = []; step = step; all_is = ap (λ (l : List Confirm). l ++ mine) h ∙ sym (append-nil mine); behind = refl }
hands_more session [] (w' ∷ ws) v w out h step = absurd h
hands_more session (v' ∷ vs) [] v w out h step = absurd h
hands_more session (v' ∷ vs) (w' ∷ ws) v w out h step =
    let mine = map confirm_of (filter (is_of session) v.ready) in
    record {
      out = h.out;
      rest = h.rest ++ mine;
      step = h.step;
      all_is = ap (λ (l : List Confirm). l ++ mine) h.all_is ∙ append_assoc (map confirm_of h.out) h.rest mine;
      behind = hands_more session vs ws v w h.rest h.behind step;
    }

get_at_drop : (xs : List StreamView) (i : ℕ) → slice_get xs i ≡ slice_get (drop i xs) 0
get_at_drop [] zero = refl
get_at_drop [] (suc i) = refl
get_at_drop (x ∷ xs) zero = refl
get_at_drop (x ∷ xs) (suc i) = get_at_drop xs i

get_same : (xs ys : List StreamView) (i : ℕ) → drop i ys ≡ drop i xs → slice_get ys i ≡ slice_get xs i
get_same xs ys i e = get_at_drop ys i ∙ ap (λ (l : List StreamView). slice_get l 0) e ∙ sym (get_at_drop xs i)

none_is_some : (v : StreamView) → let none : Option StreamView = None in none ≡ Some v → ⊥
none_is_some v e = cc

same_some : (v w : StreamView) → let one : Option StreamView = Some v in one ≡ Some w → v ≡ w
same_some v w e = cc

take_get : (xs : List StreamView) (i : ℕ) (v : StreamView) → slice_get xs i ≡ Some v → take (suc i) xs ≡ take i xs ++ v ∷ []
take_get [] i v h = absurd (none_is_some v h)
take_get (x ∷ xs) zero v h = ap (λ (y : StreamView). y ∷ []) (same_some x v h)
take_get (x ∷ xs) (suc i) v h = ap (λ (l : List StreamView). x ∷ l) (take_get xs i v h)

take_set : (xs : List StreamView) (i : ℕ) (v w : StreamView) → slice_get xs i ≡ Some v → take (suc i) (slice_set xs i w) ≡ take i xs ++ w ∷ []
take_set [] i v w h = absurd (none_is_some v h)
take_set (x ∷ xs) zero v w h = refl
take_set (x ∷ xs) (suc i) v w h = ap (λ (l : List StreamView). x ∷ l) (take_set xs i v w h)

drop_set : (xs : List StreamView) (i : ℕ) (w : StreamView) → drop (suc i) (slice_set xs i w) ≡ drop (suc i) xs
drop_set [] i w = refl
drop_set (x ∷ xs) zero w = refl
drop_set (x ∷ xs) (suc i) w = drop_set xs i w

drop_one : (xs : List StreamView) (i : ℕ) → drop (suc i) xs ≡ drop 1 (drop i xs)
drop_one [] zero = refl
drop_one [] (suc i) = refl
drop_one (x ∷ xs) zero = refl
drop_one (x ∷ xs) (suc i) = drop_one xs i

set_length : (xs : List StreamView) (i : ℕ) (w : StreamView) → length (slice_set xs i w) ≡ length xs
set_length [] i w = refl
set_length (x ∷ xs) zero w = refl
set_length (x ∷ xs) (suc i) w = ap suc (set_length xs i w)

take_whole : (xs : List StreamView) (i : ℕ) → length xs ≤ i → take i xs ≡ xs
take_whole xs i h = grind (arith, common_steps)

later_by_ready : (v : StreamView) (ready : List Waits) → ViewLater v (record v { ready = ready })
later_by_ready v ready = record { number = refl; chunks = ([], sym (append-nil v.chunks)); passes = ([], sym (append-nil v.passes)) }

-- one stream more
pub hands_turn : (session i n : ℕ) (vs ws : List StreamView) (old new : StreamView) (out out' : List Confirm) → n ≡ suc i → HandsSoFar session i vs ws out → slice_get ws i ≡ Some old
    → new ≡ record old { ready = filter (is_other session) old.ready } → out' ≡ out ++ map confirm_of (filter (is_of session) old.ready) → HandsSoFar session n vs (slice_set ws i new) out'
hands_turn session i n vs ws old new out out' n_is so there new_is out_is =
    let first : slice_get vs i ≡ Some old = sym (get_same vs ws i so.rest) ∙ there in
    let step : HandStep old session (filter (is_of session) old.ready) new = record { out_is = refl; new_is = new_is } in
    let more = hands_more session (take i vs) (take i ws) old new out so.hands step in
    let old_holds = holds_at 1 ws i old so.holds there in
    let new_holds : StreamHolds new [] = subst (λ (x : StreamView). StreamHolds x []) (sym new_is) (ready_holds old (is_other session) old_holds) in
    let number : new.number ≡ old.number = ap (λ (x : StreamView). x.number) new_is in
    let later : ViewLater old new = subst (ViewLater old) (sym new_is) (later_by_ready old (filter (is_other session) old.ready)) in
    let whole : HandsSoFar session (suc i) vs (slice_set ws i new) out' = record {
      hands =
          subst (λ (l : List StreamView). HandAll session l out' (take (suc i) (slice_set ws i new))) (sym (take_get vs i old first))
          (subst (λ (l : List StreamView). HandAll session (take i vs ++ old ∷ []) out' l) (sym (take_set ws i old new there))
          (subst (λ (l : List Confirm). HandAll session (take i vs ++ old ∷ []) l (take i ws ++ new ∷ [])) (sym out_is) more));
      rest = drop_set ws i new ∙ drop_one ws i ∙ ap (drop 1) so.rest ∙ sym (drop_one vs i);
      count = set_length ws i new ∙ so.count;
      holds = holds_set 1 ws i old new so.holds there number new_holds;
      before = so.before;
      later = views_join vs ws (slice_set ws i new) so.later (set_later ws i old new there later);
    } in
    subst (λ (k : ℕ). HandsSoFar session k vs (slice_set ws i new) out') (sym n_is) whole

views_length : (a b : List StreamView) → length b ≡ length a → (n : ℕ) → n ≡ length a → n ≡ length b
views_length a b e n is = is ∙ sym e

pub hands_end : (t : HubTable) (session i : ℕ) (vs ws : List StreamView) (out : List Confirm) → HandsSoFar session i vs ws out → length vs ≤ i → t.views ≡ vs → TableHolds t
    → TableDoes (Confirming session) t (Ok out) (record t { views = ws })
hands_end t session i vs ws out so h is holds =
    let count = so.count in
    let all : HandAll session vs out ws =
    subst (λ (l : List StreamView). HandAll session l out ws) (take_whole vs i h)
    (subst (λ (l : List StreamView). HandAll session (take i vs) out l) (take_whole ws i (omega (arith, h, count))) so.hands) in
    let last : t.names.last ≡ length ws = views_length vs ws so.count t.names.last (holds.last ∙ ap length is) in
    record { before = holds; holds = record { views = so.holds; last = last }; step = (subst (λ (l : List StreamView). HandAll session l out ws) (sym is) all, refl) }

pub hands_lost : (t : HubTable) (session i : ℕ) (vs ws : List StreamView) (old new : StreamView) (out : List Confirm) (e : AllocError) → HandsSoFar session i vs ws out → slice_get ws i ≡ Some old
    → new ≡ record old { ready = [] } → t.views ≡ vs → TableHolds t → TableDoes (Confirming session) t (Err e) (record t { views = slice_set ws i new })
hands_lost t session i vs ws old new out e so there new_is is holds =
    let old_holds = holds_at 1 ws i old so.holds there in
    let none : StreamHolds (record old { ready = [] }) [] = ready_none old old_holds in
    let new_holds : StreamHolds new [] = subst (λ (x : StreamView). StreamHolds x []) (sym new_is) none in
    let number : new.number ≡ old.number = ap (λ (x : StreamView). x.number) new_is in
    let later : ViewLater old new = subst (ViewLater old) (sym new_is) (later_by_ready old []) in
    let last : t.names.last ≡ length (slice_set ws i new) = views_length vs (slice_set ws i new) (set_length ws i new ∙ so.count) t.names.last (holds.last ∙ ap length is) in
    let all : ViewsLater vs (slice_set ws i new) = views_join vs ws (slice_set ws i new) so.later (set_later ws i old new there later) in
    record {
      before = holds;
      holds = record { views = holds_set 1 ws i old new so.holds there number new_holds; last = last };
      step = (subst (λ (l : List StreamView). ViewsLater l (slice_set ws i new)) (sym is) all, refl);
    }

pub is_suc : (i : ℕ) → i + 1 ≡ suc i
is_suc i = omega arith
