-- Offers that wait, in the order of their ends.
use Rattle.std.proofs.Common.{◌≡◌, ℕ, ◌+◌, ◌<◌, ◌≤◌, Bool, true, false, not, cond, ◌&&◌, nat_lt, List, [], ◌∷◌, ◌++◌, map, length, Option, Some, None, Result, Ok, Err, OnOk, OnErr, refl, sym, ap, subst, ◌∙◌, arith, append_assoc}
use Rattle.std.specs.declared.alloc.AllocError.{AllocError}
use Rattle.stream_terms.specs.declared.terms.Confirm.{Confirm}
use Rattle.std.specs.Prelude.{slice_index_or, ◌==◌}
use Rattle.std.specs.List.{filter, AllByRecursion}
use Rattle.chunk_format.proofs.NameLaws.{each_join, each_map}
use Rattle.stream_terms.specs.declared.terms.Given.{Given}
use Rattle.stream_terms.specs.declared.terms.Waits.{Waits}
use Rattle.stream_terms.specs.Steps.{of_epoch, is_of, confirm_of}
use Rattle.stream_terms.proofs.Counts.{each_filter}
use Rattle.stream_passes.specs.Parts.{PassesState, parts, parts_moved, is_past, is_within, waits_on}
use Rattle.stream_passes.specs.Keeps.{EndsFrom, OfOneEpoch, IsLast, Keeps, SerialsFrom, IsShort, NextReached}

abbrev in_epoch : ℕ → Waits → Type 0
in_epoch epoch w = w.given.pass.epoch ≡ epoch

-- ---- ends that don't fall

ends_lower : (m n : ℕ) (ws : List Waits) → n ≤ m → EndsFrom m ws → EndsFrom n ws
ends_lower m n [] le h = tt
ends_lower m n (w ∷ ws) le h = let above = h.0 in (omega (arith, above, le), h.1)

ends_by : (b : Bool) (n : ℕ) (w : Waits) (ws : List Waits) → n ≤ w.end → EndsFrom w.end ws → EndsFrom n (cond b (w ∷ ws) ws)
ends_by true n w ws le h = (le, h)
ends_by false n w ws le h = ends_lower w.end n ws le h

pub ends_filter : (f : Waits → Bool) (n : ℕ) (ws : List Waits) → EndsFrom n ws → EndsFrom n (filter f ws)
ends_filter f n [] h = tt
ends_filter f n (w ∷ ws) h = ends_by (f w) n w (filter f ws) h.0 (ends_filter f w.end ws h.1)

pub ends_push : (n : ℕ) (ws : List Waits) (w : Waits) → EndsFrom n ws → n ≤ w.end → AllByRecursion (λ (x : Waits). x.end ≤ w.end) ws → EndsFrom n (ws ++ w ∷ [])
ends_push n [] w h le all = (le, tt)
ends_push n (x ∷ xs) w h le all = (h.0, ends_push x.end xs w h.1 all.0 all.1)

-- where the first one is past the end, all are
past_is : (end n m : ℕ) → end < n → n ≤ m → nat_lt end m ≡ true
past_is end n m lt le = grind arith

reached_is : (end m : ℕ) → m ≤ end → nat_lt end m ≡ false
reached_is end m le = grind arith

none_reached : (end n : ℕ) (ws : List Waits) → end < n → EndsFrom n ws → filter (is_within end) ws ≡ []
none_reached end n [] lt h = refl
none_reached end n (w ∷ ws) lt h =
    let above = h.0 in
    ap (λ (b : Bool). cond (not b) (w ∷ filter (is_within end) ws) (filter (is_within end) ws)) (past_is end n w.end lt h.0) ∙ none_reached end w.end ws (omega (arith, lt, above)) h.1

all_past : (end n : ℕ) (ws : List Waits) → end < n → EndsFrom n ws → filter (is_past end) ws ≡ ws
all_past end n [] lt h = refl
all_past end n (w ∷ ws) lt h =
    let above = h.0 in
    ap (λ (b : Bool). cond b (w ∷ filter (is_past end) ws) (filter (is_past end) ws)) (past_is end n w.end lt h.0) ∙ ap (λ (l : List Waits). w ∷ l) (all_past end w.end ws (omega (arith, lt, above)) h.1)

pub first_past : (end : ℕ) (ws : List Waits) (first : Waits) → EndsFrom 0 ws → first ≡ slice_index_or ws 0 first → end < first.end → NextReached end ws ws None
first_past end [] first h e lt = (refl, refl, refl)
first_past end (w ∷ ws) first h e lt =
    let same = ap (λ (x : Waits). x.end) e in
    let more : end < w.end = omega (arith, lt, same) in
    let from : EndsFrom w.end (w ∷ ws) = (omega arith, h.1) in
    (refl, none_reached end w.end (w ∷ ws) more from, all_past end w.end (w ∷ ws) more from)

pub none_waits : (end : ℕ) (ws : List Waits) → length ws ≡ 0 → NextReached end ws ws None
none_waits end [] none = (refl, refl, refl)
none_waits end (w ∷ ws) none = absurd (omega (arith, none))

-- one more is ready
pub record TookOne (end : ℕ) (new ready ws0 ready0 : List Waits) : Type 0 where
  pub ends : EndsFrom 0 new
  pub reached : ready ++ filter (is_within end) new ≡ ready0 ++ filter (is_within end) ws0
  pub past : filter (is_past end) new ≡ filter (is_past end) ws0

pub took_one : (end : ℕ) (ws new ready ready' : List Waits) (w : Waits) (ws0 ready0 : List Waits) → ws ≡ w ∷ new → w.end ≤ end → ready' ≡ ready ++ w ∷ []
    → EndsFrom 0 ws → ready ++ filter (is_within end) ws ≡ ready0 ++ filter (is_within end) ws0 → filter (is_past end) ws ≡ filter (is_past end) ws0 → TookOne end new ready' ws0 ready0
took_one end ws new ready ready' w ws0 ready0 e le r h k p =
    let h' : EndsFrom 0 (w ∷ new) = subst (EndsFrom 0) e h in
    let isnt = reached_is end w.end le in
    let taken : filter (is_within end) (w ∷ new) ≡ w ∷ filter (is_within end) new = ap (λ (b : Bool). cond (not b) (w ∷ filter (is_within end) new) (filter (is_within end) new)) isnt in
    let passed : filter (is_past end) (w ∷ new) ≡ filter (is_past end) new = ap (λ (b : Bool). cond b (w ∷ filter (is_past end) new) (filter (is_past end) new)) isnt in record {
      ends = ends_lower w.end 0 new (omega arith) h'.1;
      reached = ap (λ (l : List Waits). l ++ filter (is_within end) new) r
          ∙ (append_assoc ready (w ∷ []) (filter (is_within end) new)
          ∙ (ap (λ (l : List Waits). ready ++ l) (sym taken ∙ ap (filter (is_within end)) (sym e)) ∙ k));
      past = sym passed ∙ (ap (filter (is_past end)) (sym e) ∙ p);
    }

-- ---- of one epoch

all_of : (epoch : ℕ) (running : Option ℕ) (b : Bool) (ws : List Waits) → AllByRecursion (in_epoch epoch) ws → ((w : Waits) → w.given.pass.epoch ≡ epoch → of_epoch running w ≡ b) → filter (of_epoch running) ws ≡ cond b ws []
all_of epoch running true [] all is = refl
all_of epoch running false [] all is = refl
all_of epoch running true (w ∷ ws) all is =
    ap (λ (b : Bool). cond b (w ∷ filter (of_epoch running) ws) (filter (of_epoch running) ws)) (is w all.0) ∙ ap (λ (l : List Waits). w ∷ l) (all_of epoch running true ws all.1 is)
all_of epoch running false (w ∷ ws) all is =
    ap (λ (b : Bool). cond b (w ∷ filter (of_epoch running) ws) (filter (of_epoch running) ws)) (is w all.0) ∙ all_of epoch running false ws all.1 is

same_epoch : (running : Option ℕ) (a b : Waits) → a.given.pass.epoch ≡ b.given.pass.epoch → of_epoch running a ≡ of_epoch running b
same_epoch None a b is = refl
same_epoch (Some epoch) a b is = ap (λ (n : ℕ). n == epoch) is

pub runs_as_first : (ws : List Waits) (first : Waits) (running : Option ℕ) (b : Bool) → OfOneEpoch ws → first ≡ slice_index_or ws 0 first → b ≡ of_epoch running first → filter (of_epoch running) ws ≡ cond b ws []
runs_as_first [] first running true one is runs = refl
runs_as_first [] first running false one is runs = refl
runs_as_first (w ∷ ws) first running b one is runs =
    let same : first.given.pass.epoch ≡ one.0 = ap (λ (x : Waits). x.given.pass.epoch) is ∙ one.1.0 in
    all_of one.0 running b (w ∷ ws) one.1 (λ x e. same_epoch running x first (e ∙ sym same) ∙ sym runs)

pub runs_of_none : (ws : List Waits) (running : Option ℕ) → length ws ≡ 0 → filter (of_epoch running) ws ≡ cond true ws []
runs_of_none [] running none = refl
runs_of_none (w ∷ ws) running none = absurd (omega (arith, none))

pub one_of_filter : (f : Waits → Bool) (ws : List Waits) → OfOneEpoch ws → OfOneEpoch (filter f ws)
one_of_filter f ws one = (one.0, each_filter (in_epoch one.0) f ws one.1)

both_by : (a b : Bool) (w : Waits) (ws : List Waits) (running : Option ℕ) → of_epoch running w ≡ b → cond (a && b) (w ∷ filter (of_epoch running) ws) (filter (of_epoch running) ws) ≡ filter (of_epoch running) (cond a (w ∷ ws) ws)
both_by true b w ws running is = ap (λ (x : Bool). cond x (w ∷ filter (of_epoch running) ws) (filter (of_epoch running) ws)) (sym is)
both_by false b w ws running is = refl

waits_by : (a b : Bool) (w : Waits) (l l' : List Waits) → l ≡ l' → cond (a && b) (w ∷ l) l ≡ cond (a && b) (w ∷ l') l'
waits_by a b w l l' is = ap (λ (x : List Waits). cond (a && b) (w ∷ x) x) is

-- what is past the end and of the epoch that runs
pub both : (end : ℕ) (running : Option ℕ) (ws : List Waits) → filter (of_epoch running) (filter (is_past end) ws) ≡ filter (waits_on end running) ws
both end running [] = refl
both end running (w ∷ ws) =
    sym (both_by (nat_lt end w.end) (of_epoch running w) w (filter (is_past end) ws) running refl)
    ∙ waits_by (nat_lt end w.end) (of_epoch running w) w (filter (of_epoch running) (filter (is_past end) ws)) (filter (waits_on end running) ws) (both end running ws)

-- ---- what is kept

pub keeps_waiting : (passes : List Given) (waiting waiting' : List Waits) (w : Waits) → Keeps passes waiting → IsLast waiting w → waiting' ≡ waiting ++ w ∷ [] → Keeps passes waiting'
keeps_waiting passes waiting waiting' w k last is =
    let epoch = w.given.pass.epoch in
    let at : Keeps passes (waiting ++ w ∷ []) = record {
      serials = k.serials;
      short = k.short;
      rise = ends_push 0 waiting w k.rise (omega arith) last.ends;
      one_epoch = (epoch, each_join (in_epoch epoch) waiting (w ∷ []) last.epochs (refl, tt));
    } in
    subst (Keeps passes) (sym is) at

pub keeps_filter : (passes : List Given) (waiting waiting' : List Waits) (f : Waits → Bool) → Keeps passes waiting → waiting' ≡ filter f waiting → Keeps passes waiting'
keeps_filter passes waiting waiting' f k is =
    let at : Keeps passes (filter f waiting) = record { serials = k.serials; short = k.short; rise = ends_filter f 0 waiting k.rise; one_epoch = one_of_filter f waiting k.one_epoch } in
    subst (Keeps passes) (sym is) at

pub keeps_same : (passes : List Given) (waiting waiting' : List Waits) → Keeps passes waiting → waiting' ≡ waiting → Keeps passes waiting'
keeps_same passes waiting waiting' k is = subst (Keeps passes) (sym is) k

pub keeps_put : (r : Result (Unit {0}) AllocError) (passes : List Given) (waiting waiting' : List Waits) (w : Waits) → Keeps passes waiting → IsLast waiting w → OnOk r (waiting' ≡ waiting ++ w ∷ []) → OnErr r (waiting' ≡ waiting) → Keeps passes waiting'
keeps_put (Ok u) passes waiting waiting' w k last ok err = keeps_waiting passes waiting waiting' w k last ok
keeps_put (Err e) passes waiting waiting' w k last ok err = keeps_same passes waiting waiting' k err

-- ---- the move

pub moved_waiting : (end : ℕ) (running : Option ℕ) (ws past left : List Waits) → past ≡ filter (is_past end) ws → left ≡ filter (of_epoch running) past → left ≡ filter (waits_on end running) ws
moved_waiting end running ws past left p l = l ∙ ap (filter (of_epoch running)) p ∙ both end running ws

pub moved_parts : (end : ℕ) (running : Option ℕ) (number : ℕ) (passes : List Given) (waiting left ready ready' : List Waits) (s : PassesState) → parts number passes waiting ready ≡ s → left ≡ filter (waits_on end running) waiting → ready' ≡ ready ++ filter (is_within end) waiting
    → parts number passes left ready' ≡ parts_moved end running s
moved_parts end running number passes waiting left ready ready' s view l r =
    ap (λ (x : List Waits). parts number passes x ready') l ∙ ap (λ (x : List Waits). parts number passes (filter (waits_on end running) waiting) x) r ∙ ap (parts_moved end running) view

-- ---- confirms

more_by : (b : Bool) (w : Waits) (more : List Waits) → map confirm_of (cond b (w ∷ []) []) ++ map confirm_of more ≡ map confirm_of (cond b (w ∷ more) more)
more_by true w more = refl
more_by false w more = refl

pub more_confirms : (session : ℕ) (out out' all : List Confirm) (w : Waits) (rest more : List Waits) → out' ≡ out ++ map confirm_of (filter (is_of session) (w ∷ [])) → rest ≡ w ∷ more → out ++ map confirm_of (filter (is_of session) rest) ≡ all
    → out' ++ map confirm_of (filter (is_of session) more) ≡ all
more_confirms session out out' all w rest more o r a =
    ap (λ (l : List Confirm). l ++ map confirm_of (filter (is_of session) more)) o
    ∙ append_assoc out (map confirm_of (filter (is_of session) (w ∷ []))) (map confirm_of (filter (is_of session) more))
    ∙ ap (λ (l : List Confirm). out ++ l) (more_by (is_of session w) w (filter (is_of session) more) ∙ ap (λ (l : List Waits). map confirm_of (filter (is_of session) l)) (sym r))
    ∙ a
