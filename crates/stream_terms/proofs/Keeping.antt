-- Each step keeps what holds of a stream.
use Rattle.std.proofs.Common.{◌≡◌, ℕ, ◌+◌, ◌≤◌, Bool, true, false, not, cond, ◌&&◌, List, [], ◌∷◌, ◌++◌, Option, refl, sym, ap, subst, ◌∙◌, arith}
use Rattle.std.specs.Prelude.{nat_lt}
use Rattle.std.specs.List.{filter, AllByRecursion}
use Rattle.std.proofs.lemmas.List.Elements.{Contains-append_left}
use Rattle.chunk_format.specs.declared.chunk.Chunk.{Chunk}
use Rattle.stream_terms.specs.declared.terms.Pass.{Pass}
use Rattle.stream_terms.specs.declared.terms.Taken.{Taken}
use Rattle.command_data.specs.declared.item.Tagged.{Tagged}
use Rattle.stream_terms.specs.declared.terms.Given.{Given}
use Rattle.stream_terms.specs.declared.terms.Waits.{Waits}
use Rattle.chunk_format.specs.Logs.{last_epoch, Linked, IsLog, end_of, is_within}
use Rattle.stream_terms.specs.Views.{StreamView, name_of, is_name, covers, times, Caused, CausedBy, Future, StreamHolds, Known, Counted}
use Rattle.stream_terms.specs.Steps.{queued, OffsetTaken, DeclaresPass, put_by, OfferTaken, is_of, is_other, HandStep, is_reached, still_waits, of_epoch, MoveStep}
use Rattle.chunk_format.proofs.LinkLaws.{linked_behind}
use Rattle.chunk_format.proofs.NameLaws.{each_join, each_map}
use Rattle.chunk_format.proofs.BareLaws.{tally_join}
use Rattle.stream_terms.proofs.Counts.{each_filter, tally_cons, tally_by, count_parts, count_none}
use Rattle.stream_terms.proofs.Growing.{caused_stays}
use Rattle.stream_terms.proofs.Counting.{is_counted}

-- a pass that was given stays given
known_more : (passes : List Given) (g : Given) (w : Waits) → Known passes w → Known (passes ++ g ∷ []) w
known_more passes g w k = record { given = Contains-append_left passes (g ∷ []) w.given k.given; some = k.some; few = k.few }

-- ---- what was confirmed

-- nothing of what was handed out is above what stands there
pub counted : (v : StreamView) (spent : List Waits) → StreamHolds v spent → Counted spent v.chunks
counted v spent h = is_counted spent v.chunks h.spent_caused (λ at. let all = h.apart at in omega (arith, all))

-- ---- handing out

handed : (v : StreamView) (spent : List Waits) (session : ℕ) → StreamHolds v spent → StreamHolds (record v { ready = filter (is_other session) v.ready }) (spent ++ filter (is_of session) v.ready)
handed v spent session h = record {
  log = h.log;
  of_stream = h.of_stream;
  waiting_known = h.waiting_known;
  ready_known = each_filter (Known v.passes) (is_other session) v.ready h.ready_known;
  waiting_past = h.waiting_past;
  ready_caused = each_filter (Caused v.chunks) (is_other session) v.ready h.ready_caused;
  spent_caused = each_join (Caused v.chunks) spent (filter (is_of session) v.ready) h.spent_caused (each_filter (Caused v.chunks) (is_of session) v.ready h.ready_caused);
  apart = λ at.
      let all = h.apart at in
      let parts = count_parts (covers at) (is_of session) v.ready in
      let join = tally_join (covers at) spent (filter (is_of session) v.ready) in
      omega (arith, all, parts, join);
}

pub handed_holds : (old new : StreamView) (spent : List Waits) (session : ℕ) (out : List Waits) → StreamHolds old spent → HandStep old session out new → StreamHolds new (spent ++ out)
handed_holds old new spent session out h s =
    let P : StreamView → List Waits → Type 0 = λ v ws. StreamHolds v (spent ++ ws) in
    let at_view : P new (filter (is_of session) old.ready) = subst (λ (v : StreamView). P v (filter (is_of session) old.ready)) (sym s.new_is) (handed old spent session h) in
    subst (λ (ws : List Waits). P new ws) (sym s.out_is) at_view

-- each that is handed out has its cause
pub handed_caused : (old new : StreamView) (spent : List Waits) (session : ℕ) (out : List Waits) → StreamHolds old spent → HandStep old session out new → AllByRecursion (Caused old.chunks) out
handed_caused old new spent session out h s =
    subst (λ (ws : List Waits). AllByRecursion (Caused old.chunks) ws) (sym s.out_is) (each_filter (Caused old.chunks) (is_of session) old.ready h.ready_caused)

-- ---- going on

once_at_most : (past of : Bool) (k : ℕ) → cond (not past) k 0 + cond (past && of) k 0 ≤ k
once_at_most true true k = omega arith
once_at_most true false k = omega arith
once_at_most false of k = omega arith

turn : (past of : Bool) (k at : ℕ) (w : Waits) (ws r s : List Waits) → k ≡ cond (covers at w) 1 0 → times at r + times at s ≤ times at ws
    → times at (cond (not past) (w ∷ r) r) + times at (cond (past && of) (w ∷ s) s) ≤ k + times at ws
turn past of k at w ws r s e h =
    let reached = tally_by (covers at) (not past) w r in
    let waits = tally_by (covers at) (past && of) w s in
    let one = once_at_most past of (cond (covers at w) 1 0) in
    omega (arith, e, h, reached, waits, one)

-- of those that waited, none is ready and waits
reached_or_waits : (at : ℕ) (chunks : List Chunk) (running : Option ℕ) (ws : List Waits) → times at (filter (is_reached chunks) ws) + times at (filter (still_waits chunks running) ws) ≤ times at ws
reached_or_waits at chunks running [] = omega arith
reached_or_waits at chunks running (w ∷ ws) =
    let whole = tally_cons (covers at) w ws in
    let less = turn (nat_lt (end_of chunks) w.end) (of_epoch running w) (cond (covers at w) 1 0) at w ws (filter (is_reached chunks) ws) (filter (still_waits chunks running) ws) refl (reached_or_waits at chunks running ws) in
    omega (arith, whole, less)

-- The list went on. If what is ready and waits then holds, so does all with what was handed out before.
pub moved_holds : (old new : StreamView) (spent : List Waits) (more : List Chunk) → StreamHolds old spent → MoveStep old more new → StreamHolds new [] → StreamHolds new spent
moved_holds old new spent more h s n = record {
  log = n.log;
  of_stream = n.of_stream;
  waiting_known = n.waiting_known;
  ready_known = n.ready_known;
  waiting_past = n.waiting_past;
  ready_caused = n.ready_caused;
  spent_caused =
      let log : IsLog (old.chunks ++ more) = subst (λ (l : List Chunk). IsLog l) s.chunks n.log in
      let stays = each_map (Caused old.chunks) (Caused (old.chunks ++ more)) (caused_stays old.chunks more log) spent h.spent_caused in
      subst (λ (l : List Chunk). AllByRecursion (Caused l) spent) (sym s.chunks) stays;
  apart = λ at.
      let all = h.apart at in
      let ready = ap (times at) s.ready ∙ tally_join (covers at) old.ready (filter (is_reached new.chunks) old.waiting) in
      let waiting = ap (times at) s.waiting in
      let both = reached_or_waits at new.chunks new.running old.waiting in
      omega (arith, all, ready, waiting, both);
}

-- ---- a pass

each_more : (passes : List Given) (g : Given) (ws : List Waits) → AllByRecursion (Known passes) ws → AllByRecursion (Known (passes ++ g ∷ [])) ws
each_more passes g ws h = each_map (Known passes) (Known (passes ++ g ∷ [])) (known_more passes g) ws h

declared : (v : StreamView) (spent : List Waits) (g : Given) → g.pass.stream ≡ v.number → StreamHolds v spent → StreamHolds (record v { passes = v.passes ++ g ∷ [] }) spent
declared v spent g e h = record {
  log = h.log;
  of_stream = each_join (λ (x : Given). x.pass.stream ≡ v.number) v.passes (g ∷ []) h.of_stream (e, tt);
  waiting_known = each_more v.passes g v.waiting h.waiting_known;
  ready_known = each_more v.passes g v.ready h.ready_known;
  waiting_past = h.waiting_past;
  ready_caused = h.ready_caused;
  spent_caused = h.spent_caused;
  apart = h.apart;
}

pub declared_holds : (old new : StreamView) (spent : List Waits) (session : ℕ) (name : Option (List ℕ)) (p : Pass) → StreamHolds old spent → DeclaresPass old session name p new → StreamHolds new spent
declared_holds old new spent session name p h s =
    subst (λ (v : StreamView). StreamHolds v spent) (sym s.new_is) (declared old spent (record { pass = p; name = name_of name }) s.of_stream h)

-- ---- an offer

not_covered : (from to at : ℕ) (n : Bool) → to ≤ at → n && is_within from to at ≡ false
not_covered from to at true h = grind arith
not_covered from to at false h = refl

below_from : (w : Waits) (from to at : ℕ) → is_within from to at ≡ true → w.end ≤ from → covers at w ≡ false
below_from w from to at e h = let past : from ≤ at = grind (arith, e) in not_covered w.from w.end at (not (is_name w.given.name)) (omega (arith, past, h))

-- what ends before a range leaves its offsets free
free : (from to at : ℕ) (ws : List Waits) → is_within from to at ≡ true → AllByRecursion (λ (w : Waits). w.end ≤ from) ws → times at ws ≡ 0
free from to at ws e h = count_none (covers at) ws (each_map (λ (w : Waits). w.end ≤ from) (λ (w : Waits). covers at w ≡ false) (λ w q. below_from w from to at e q) ws h)

one_more : (n b : Bool) (t : ℕ) → t ≤ 1 → (b ≡ true → t ≡ 0) → cond (n && b) 1 0 + t ≤ 1
one_more true true t h z = let none = z refl in omega (arith, none)
one_more true false t h z = omega (arith, h)
one_more false b t h z = omega (arith, h)

-- the new range is apart from all
pub apart_more : (v : StreamView) (spent : List Waits) (w : Waits) (at : ℕ) → StreamHolds v spent → end_of v.chunks ≤ w.from → AllByRecursion (λ (x : Waits). x.end ≤ w.from) v.waiting
    → times at (w ∷ []) + (times at v.waiting + times at v.ready + times at spent) ≤ 1
apart_more v spent w at h past waiting =
    let reached : (x : Waits) → Caused v.chunks x → x.end ≤ w.from = λ x c. let r = c.reached in omega (arith, r, past) in
    let ready_below = each_map (Caused v.chunks) (λ (x : Waits). x.end ≤ w.from) reached v.ready h.ready_caused in
    let spent_below = each_map (Caused v.chunks) (λ (x : Waits). x.end ≤ w.from) reached spent h.spent_caused in
    let all = h.apart at in
    let more = one_more (not (is_name w.given.name)) (is_within w.from w.end at) (times at v.waiting + times at v.ready + times at spent) all
    (λ e. let a = free w.from w.end at v.waiting e waiting in let b = free w.from w.end at v.ready e ready_below in let c = free w.from w.end at spent e spent_below in omega (arith, a, b, c)) in
    let whole = tally_cons (covers at) w [] in
    omega (arith, more, whole)

offered_by : (b : Bool) (v : StreamView) (spent : List Waits) (w : Waits) → nat_lt (end_of v.chunks) w.end ≡ b → StreamHolds v spent → Known v.passes w → end_of v.chunks ≤ w.from
    → AllByRecursion (λ (x : Waits). x.end ≤ w.from) v.waiting → (w.end ≤ end_of v.chunks → CausedBy w.given.name w v.chunks) → StreamHolds (put_by b w v) spent
offered_by true v spent w e h given past waiting at_once = record {
  log = h.log;
  of_stream = h.of_stream;
  waiting_known = each_join (Known v.passes) v.waiting (w ∷ []) h.waiting_known (given, tt);
  ready_known = h.ready_known;
  waiting_past = each_join (Future v.chunks) v.waiting (w ∷ []) h.waiting_past (grind (arith, e), tt);
  ready_caused = h.ready_caused;
  spent_caused = h.spent_caused;
  apart = λ at. let more = apart_more v spent w at h past waiting in let join = tally_join (covers at) v.waiting (w ∷ []) in omega (arith, more, join);
}
offered_by false v spent w e h given past waiting at_once =
    let reached : w.end ≤ end_of v.chunks = grind (arith, e) in
    let cause : Caused v.chunks w = record { reached = reached; by_name = at_once reached } in
    record {
      log = h.log;
      of_stream = h.of_stream;
      waiting_known = h.waiting_known;
      ready_known = each_join (Known v.passes) v.ready (w ∷ []) h.ready_known (given, tt);
      waiting_past = h.waiting_past;
      ready_caused = each_join (Caused v.chunks) v.ready (w ∷ []) h.ready_caused (cause, tt);
      spent_caused = h.spent_caused;
      apart = λ at. let more = apart_more v spent w at h past waiting in let join = tally_join (covers at) v.ready (w ∷ []) in omega (arith, more, join);
    }

-- nothing is said of what is queued
requeued : (v : StreamView) (spent : List Waits) (took : List Chunk) → StreamHolds v spent → StreamHolds (queued took v) spent
requeued v spent took h = record {
  log = h.log;
  of_stream = h.of_stream;
  waiting_known = h.waiting_known;
  ready_known = h.ready_known;
  waiting_past = h.waiting_past;
  ready_caused = h.ready_caused;
  spent_caused = h.spent_caused;
  apart = h.apart;
}

pub stored_holds : (old new : StreamView) (spent : List Waits) (name : Option (List ℕ)) (offset : ℕ) (t : Taken) → StreamHolds old spent → OffsetTaken old name offset t new → StreamHolds new spent
stored_holds old new spent name offset t h s = subst (λ (v : StreamView). StreamHolds v spent) (sym s.new_is) (requeued old spent _ h)

pub offered_holds : (old new : StreamView) (spent : List Waits) (p : Pass) (items : List Tagged) (t : Taken) → StreamHolds old spent → OfferTaken old p items t new → StreamHolds new spent
offered_holds old new spent p items t h s =
    subst (λ (v : StreamView). StreamHolds v spent) (sym s.new_is)
    (offered_by (nat_lt (end_of old.chunks) s.wait.end) (queued s.took old) spent s.wait refl (requeued old spent s.took h) s.known s.past_list s.past_waiting s.at_once)

-- ---- commits

-- what a stream does by itself is commits, one after the other
pub moved_commits : (old new : StreamView) (spent : List Waits) (more : List Chunk) → StreamHolds old spent → MoveStep old more new → StreamHolds new [] → Linked (end_of old.chunks) (last_epoch old.chunks) more
moved_commits old new spent more h s n = linked_behind 0 0 old.chunks more (subst (λ (l : List Chunk). IsLog l) s.chunks n.log)
