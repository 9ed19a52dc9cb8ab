-- What holds of a stream whose list goes on.
use Rattle.std.proofs.Common.{◌≡◌, ℕ, ◌+◌, ◌<◌, ◌≤◌, Bool, true, false, not, cond, ◌&&◌, List, [], ◌∷◌, ◌++◌, Option, refl, sym, ap, subst, ◌∙◌, arith}
use Rattle.std.specs.Prelude.{nat_lt}
use Rattle.std.specs.List.{filter, AllByRecursion}
use Rattle.chunk_format.specs.declared.chunk.Chunk.{Chunk}
use Rattle.chunk_format.specs.Logs.{end_of, IsLog}
use Rattle.chunk_format.proofs.NameLaws.{each_join, each_map}
use Rattle.chunk_format.proofs.BareLaws.{tally_join}
use Rattle.stream_terms.specs.declared.terms.Waits.{Waits}
use Rattle.stream_terms.specs.declared.terms.Given.{Given}
use Rattle.stream_terms.specs.Views.{StreamView, covers, times, Caused, Future, StreamHolds, Known}
use Rattle.stream_terms.specs.Steps.{is_reached, still_waits, of_epoch, MoveStep}
use Rattle.stream_terms.proofs.Counts.{each_filter, tally_cons, tally_by}
use Rattle.stream_terms.proofs.Growing.{caused_stays}

once_at_most : (past of : Bool) (k : ℕ) → cond (not past) k 0 + cond (past && of) k 0 ≤ k
once_at_most true true k = omega arith
once_at_most true false k = omega arith
once_at_most false of k = omega arith

turn : (past of : Bool) (k at : ℕ) (w : Waits) (ws r s : List Waits) → k ≡ cond (covers at w) 1 0 → times at r + times at s ≤ times at ws
    → times at (cond (not past) (w ∷ r) r) + times at (cond (past && of) (w ∷ s) s) ≤ k + times at ws
turn past of k at w ws r s e h =
    let reached = tally_by (covers at) (not past) w r in
    let waits = tally_by (covers at) (past && of) w s in
    let one = once_at_most past of (cond (covers at w) 1 0) in
    omega (arith, e, h, reached, waits, one)

-- of those that waited, none is ready and waits
reached_or_waits : (at : ℕ) (chunks : List Chunk) (running : Option ℕ) (ws : List Waits) → times at (filter (is_reached chunks) ws) + times at (filter (still_waits chunks running) ws) ≤ times at ws
reached_or_waits at chunks running [] = omega arith
reached_or_waits at chunks running (w ∷ ws) =
    let whole = tally_cons (covers at) w ws in
    let less = turn (nat_lt (end_of chunks) w.end) (of_epoch running w) (cond (covers at w) 1 0) at w ws (filter (is_reached chunks) ws) (filter (still_waits chunks running) ws) refl (reached_or_waits at chunks running ws) in
    omega (arith, whole, less)

past_by : (p q : Bool) (chunks : List Chunk) (w : Waits) (ws : List Waits) → nat_lt (end_of chunks) w.end ≡ p → AllByRecursion (Future chunks) ws → AllByRecursion (Future chunks) (cond (p && q) (w ∷ ws) ws)
past_by true true chunks w ws e h = (grind (arith, e), h)
past_by true false chunks w ws e h = h
past_by false q chunks w ws e h = h

-- what still waits ends past the list
all_past : (chunks : List Chunk) (running : Option ℕ) (ws : List Waits) → AllByRecursion (Future chunks) (filter (still_waits chunks running) ws)
all_past chunks running [] = tt
all_past chunks running (w ∷ ws) = past_by (nat_lt (end_of chunks) w.end) (of_epoch running w) chunks w (filter (still_waits chunks running) ws) refl (all_past chunks running ws)

moved_at : (old : StreamView) (more queue : List Chunk) (running : Option ℕ) → StreamHolds old [] → IsLog (old.chunks ++ more) → AllByRecursion (Caused (old.chunks ++ more)) (filter (is_reached (old.chunks ++ more)) old.waiting)
    → StreamHolds (record { number = old.number; chunks = old.chunks ++ more; queue = queue; running = running; passes = old.passes; waiting = filter (still_waits (old.chunks ++ more) running) old.waiting; ready = old.ready ++ filter (is_reached (old.chunks ++ more)) old.waiting }) []
moved_at old more queue running h log caused =
    let chunks = old.chunks ++ more in record {
      log = log;
      of_stream = h.of_stream;
      waiting_known = each_filter (Known old.passes) (still_waits chunks running) old.waiting h.waiting_known;
      ready_known = each_join (Known old.passes) old.ready (filter (is_reached chunks) old.waiting) h.ready_known (each_filter (Known old.passes) (is_reached chunks) old.waiting h.waiting_known);
      waiting_past = all_past chunks running old.waiting;
      ready_caused = each_join (Caused chunks) old.ready (filter (is_reached chunks) old.waiting) (each_map (Caused old.chunks) (Caused chunks) (caused_stays old.chunks more log) old.ready h.ready_caused) caused;
      spent_caused = tt;
      apart = λ at.
          let all = h.apart at in
          let ready = tally_join (covers at) old.ready (filter (is_reached chunks) old.waiting) in
          let both = reached_or_waits at chunks running old.waiting in
          omega (arith, all, ready, both);
    }

from_parts : (number : ℕ) (chunks chunks' queue : List Chunk) (running : Option ℕ) (passes passes' : List Given) (waiting waiting' ready ready' : List Waits)
    → chunks ≡ chunks' → passes ≡ passes' → waiting ≡ waiting' → ready ≡ ready'
    → StreamHolds (record { number = number; chunks = chunks'; queue = queue; running = running; passes = passes'; waiting = waiting'; ready = ready' }) []
    → StreamHolds (record { number = number; chunks = chunks; queue = queue; running = running; passes = passes; waiting = waiting; ready = ready }) []
from_parts number chunks chunks' queue running passes passes' waiting waiting' ready ready' a b d e h =
    subst (λ (x : List Chunk). StreamHolds (record { number = number; chunks = x; queue = queue; running = running; passes = passes; waiting = waiting; ready = ready }) []) (sym a)
    (subst (λ (x : List Given). StreamHolds (record { number = number; chunks = chunks'; queue = queue; running = running; passes = x; waiting = waiting; ready = ready }) []) (sym b)
    (subst (λ (x : List Waits). StreamHolds (record { number = number; chunks = chunks'; queue = queue; running = running; passes = passes'; waiting = x; ready = ready }) []) (sym d)
    (subst (λ (x : List Waits). StreamHolds (record { number = number; chunks = chunks'; queue = queue; running = running; passes = passes'; waiting = waiting'; ready = x }) []) (sym e) h)))

pub moved : (old new : StreamView) (more : List Chunk) → StreamHolds old [] → MoveStep old more new → IsLog new.chunks → AllByRecursion (Caused new.chunks) (filter (is_reached new.chunks) old.waiting) → StreamHolds new []
moved old new more h s log caused =
    let at_log = subst IsLog s.chunks log in
    let at_caused = subst (λ (l : List Chunk). AllByRecursion (Caused l) (filter (is_reached l) old.waiting)) s.chunks caused in
    let there = moved_at old more new.queue new.running h at_log at_caused in
    let waiting = s.waiting ∙ ap (λ (l : List Chunk). filter (still_waits l new.running) old.waiting) s.chunks in
    let ready = s.ready ∙ ap (λ (l : List Chunk). old.ready ++ filter (is_reached l) old.waiting) s.chunks in
    let numbered = subst (λ (n : ℕ). StreamHolds (record { number = n; chunks = old.chunks ++ more; queue = new.queue; running = new.running; passes = old.passes; waiting = filter (still_waits (old.chunks ++ more) new.running) old.waiting; ready = old.ready ++ filter (is_reached (old.chunks ++ more)) old.waiting }) []) (sym s.number) there in
    from_parts new.number new.chunks (old.chunks ++ more) new.queue new.running new.passes old.passes new.waiting (filter (still_waits (old.chunks ++ more) new.running) old.waiting) new.ready (old.ready ++ filter (is_reached (old.chunks ++ more)) old.waiting) s.chunks s.passes waiting ready numbered
