-- An offer that is in the list at once.
use Rattle.std.proofs.Common.{◌≡◌, ℕ, ◌-◌, ◌^◌, ◌<◌, ◌≤◌, Bool, true, false, not, cond, ◌&&◌, nat_lt, List, [], ◌∷◌, ◌++◌, map, length, Option, Some, None, refl, sym, ap, subst, ◌∙◌, arith}
use Rattle.std.specs.Prelude.{position}
use Rattle.std.specs.List.{filter, Contains, AllByRecursion}
use Rattle.std.proofs.lemmas.List.{append-nil, length-map}
use Rattle.chunk_format.specs.declared.chunk.Chunk.{Chunk}
use Rattle.chunk_format.specs.Chunks.{end_of_chunk, IsChunk}
use Rattle.chunk_format.specs.Logs.{end_of, last_epoch, IsLog, bare_in}
use Rattle.chunk_format.specs.ByName.{Greatest, AtMost}
use Rattle.chunk_format.proofs.LinkLaws.{linked_push, end_push, epoch_push, chunk_goes_on}
use Rattle.chunk_format.proofs.NameLaws.{each_join, each_map}
use Rattle.chunk_format.proofs.BareLaws.{tally_join}
use Rattle.command_data.specs.declared.item.Tagged.{Tagged}
use Rattle.tracking_state.specs.Tracked.{Tracked, tracked_of}
use Rattle.stream_terms.specs.declared.terms.Pass.{Pass}
use Rattle.stream_terms.specs.declared.terms.Taken.{Taken}
use Rattle.stream_terms.specs.declared.terms.Given.{Given}
use Rattle.stream_terms.specs.declared.terms.Waits.{Waits}
use Rattle.stream_terms.specs.declared.terms.OfferFault.{OfferFault}
use Rattle.stream_terms.specs.declared.terms.OfferFault.TheVariants as refused
use Rattle.stream_terms.specs.Views.{StreamView, StreamHolds, name_of, Known, Caused, CausedBy, covers}
use Rattle.stream_terms.specs.Steps.{DeclaresPass, OfferRefused, IsOfUse, has_none, no_delta, put_by, queued, is_reached, still_waits, of_epoch, item_id, item_entry}
use Rattle.stream_terms.proofs.Growing.{caused_stays}
use Rattle.stream_terms.proofs.Keeping.{apart_more}
use Rattle.memory_stream.specs.Chosen.{is_new, new_items, chosen, IsMade, IsWait, IsLimit}
use Rattle.memory_stream.specs.Kept.{Keeps, SerialsFrom, IsShort}
use Rattle.memory_stream.specs.Gives.{OfferGave}
use Rattle.memory_stream.proofs.Serials.{serials_push, all_below}
use Rattle.memory_stream.proofs.Growth.{rows_more, ids_made, ids_at_most, bounded}

-- a stream of which nothing is queued and nothing waits
abbrev pub view : ℕ → List Chunk → Option ℕ → List Given → List Waits → StreamView
view number chunks running passes ready = record { number = number; chunks = chunks; queue = []; running = running; passes = passes; waiting = []; ready = ready }

-- ---- passes

pub declares : (a : StreamView) (number : ℕ) (chunks : List Chunk) (running : Option ℕ) (passes passes' : List Given) (ready : List Waits) (session : ℕ) (name : Option (List ℕ)) (p : Pass) (g : Given)
    → view number chunks running passes ready ≡ a → p.stream ≡ number → p.session ≡ session → running ≡ Some p.epoch → p.serial ≡ length passes → length passes < 2 ^ 32 - 1 → SerialsFrom 0 passes
    → g ≡ record { pass = p; name = name_of name } → passes' ≡ passes ++ g ∷ [] → DeclaresPass a session name p (view number chunks running passes' ready)
declares a number chunks running passes passes' ready session name p g is stream of_session runs serial room serials given more =
    let at : DeclaresPass (view number chunks running passes ready) session name p (view number chunks running (passes ++ record { pass = p; name = name_of name } ∷ []) ready) = record {
      of_stream = stream;
      of_session = of_session;
      running = runs;
      room = room;
      fresh = all_below passes p.serial serials (omega (arith, serial));
      new_is = refl;
    } in
    let there = more ∙ ap (λ (x : Given). passes ++ x ∷ []) given in
    subst (λ (v : StreamView). DeclaresPass v session name p (view number chunks running passes' ready)) is
    (subst (λ (l : List Given). DeclaresPass (view number chunks running passes ready) session name p (view number chunks running l ready)) (sym there) at)

pub keeps_pass : (end epoch : ℕ) (tracking : Tracked) (chunks : List Chunk) (passes passes' : List Given) (g : Given) → Keeps end epoch tracking chunks passes → g.pass.serial ≡ length passes → IsShort g → passes' ≡ passes ++ g ∷ [] → Keeps end epoch tracking chunks passes'
keeps_pass end epoch tracking chunks passes passes' g k serial short more =
    let at : Keeps end epoch tracking chunks (passes ++ g ∷ []) = record {
      end_is = k.end_is;
      in_epoch = k.in_epoch;
      tracks = k.tracks;
      serials = serials_push 0 passes g k.serials (omega (arith, serial));
      short = each_join IsShort passes (g ∷ []) k.short (short, tt);
    } in
    subst (Keeps end epoch tracking chunks) (sym more) at

-- ---- refusals

pub limit_refused : (a : StreamView) (p : Pass) (items : List Tagged) (f : OfferFault) → IsLimit f → IsOfUse a p → position has_none items ≡ None → OfferRefused a p items f
limit_refused a p items (refused.Stale asked running) is useful whole = absurd is
limit_refused a p items (refused.BadName len) is useful whole = absurd is
limit_refused a p items (refused.EmptyBatch place) is useful whole = absurd is
limit_refused a p items (refused.Limit what most) is useful whole = (useful, whole)
limit_refused a p items refused.Memory is useful whole = tt

pub memory_refused : (a : StreamView) (p : Pass) (items : List Tagged) (f : OfferFault) → f ≡ refused.Memory → OfferRefused a p items f
memory_refused a p items f is = subst (OfferRefused a p items) (sym is) tt

-- ---- what is taken

few_by : (b : Bool) (t : Tagged) (new old ts : List Tagged) → length new ≤ length ts → length old ≤ length ts → length (cond b (t ∷ new) old) ≤ length (t ∷ ts)
few_by true t new old ts h k = omega (arith, h)
few_by false t new old ts h k = omega (arith, k)

few_new : (g : Option ℕ) (items : List Tagged) → length (new_items g items) ≤ length items
few_new g [] = omega arith
few_new g (t ∷ ts) = few_by (is_new g t.id) t (new_items (Some t.id) ts) (new_items g ts) ts (few_new (Some t.id) ts) (few_new g ts)

few_chosen : (name : List ℕ) (g : Option ℕ) (items : List Tagged) → length (chosen name g items) ≤ length items
few_chosen [] g items = omega arith
few_chosen (x ∷ xs) g items = few_new g items

reached_one : (chunks : List Chunk) (w : Waits) → w.end ≤ end_of chunks → w ∷ [] ≡ filter (is_reached chunks) (w ∷ [])
reached_one chunks w h = let past : nat_lt (end_of chunks) w.end ≡ false = grind arith in ap (λ (b : Bool). cond (not b) (w ∷ []) []) (sym past)

waits_none : (chunks : List Chunk) (running : Option ℕ) (w : Waits) → w.end ≤ end_of chunks → [] ≡ filter (still_waits chunks running) (w ∷ [])
waits_none chunks running w h = let past : nat_lt (end_of chunks) w.end ≡ false = grind arith in ap (λ (b : Bool). cond (b && of_epoch running w) (w ∷ []) []) (sym past)

-- an offer, and what waits for its confirm
pub record Offer (passes : List Given) (p : Pass) (items : List Tagged) (t : Taken) (w : Waits) : Type 0 where
  pub some : 1 ≤ length items
  pub few : length items ≤ 1048576
  pub whole : position has_none items ≡ None
  pub passed : w.given.pass ≡ p
  pub known : Contains passes w.given
  pub ids : w.ids ≡ map item_id items
  pub entries : w.entries ≡ map item_entry items
  pub ends : w.end ≡ t.end
  pub accepted : t.accepted ≤ length items

known_of : (passes : List Given) (p : Pass) (items : List Tagged) (t : Taken) (w : Waits) → Offer passes p items t w → Known passes w
known_of passes p items t w o =
    let ids : length w.ids ≡ length items = ap length o.ids ∙ length-map items item_id in
    let some = o.some in
    let few = o.few in
    record { given = o.known; some = omega (arith, ids, some); few = omega (arith, ids, few) }

pub gives_new : (number : ℕ) (chunks : List Chunk) (running : Option ℕ) (passes : List Given) (ready : List Waits) (p : Pass) (items : List Tagged) (c : Chunk) (w : Waits) (t : Taken)
    → StreamHolds (view number chunks running passes ready) [] → Offer passes p items t w → running ≡ Some p.epoch → last_epoch chunks ≤ c.epoch → IsChunk c → c.first ≡ end_of chunks → no_delta c.kind ≡ true
    → w.from ≡ end_of chunks → w.end ≡ end_of_chunk c → CausedBy w.given.name w (chunks ++ c ∷ [])
    → OfferGave (view number chunks running passes ready) p items t (view number (chunks ++ c ∷ []) running passes (ready ++ w ∷ []))
gives_new number chunks running passes ready p items c w t h o runs epochs is first kind from end by_name =
    let v = view number chunks running passes ready in
    let all = chunks ++ c ∷ [] in
    let log : IsLog all = linked_push 0 0 chunks c h.log first epochs is in
    let end_is : end_of all ≡ end_of_chunk c = end_push chunks c in
    let goes = chunk_goes_on c is in
    let reached : w.end ≤ end_of all = omega (arith, end_is, end) in
    let past : end_of chunks < w.end = omega (arith, end, first, goes) in
    let waits : nat_lt (end_of chunks) w.end ≡ true = grind arith in
    let known = known_of passes p items t w o in
    let cause : Caused all w = record { reached = reached; by_name = by_name } in
    record {
      mid = put_by true w (queued (c ∷ []) v);
      more = c ∷ [];
      step = record {
        wait = w;
        took = c ∷ [];
        passed = o.passed;
        known = known;
        running = runs;
        whole = o.whole;
        ids = o.ids;
        entries = o.entries;
        begins = from ∙ ap end_of (sym (append-nil chunks));
        ends = end ∙ sym end_is;
        end_is = o.ends;
        few = o.accepted;
        kinds = (kind, tt);
        past_list = omega (arith, from);
        past_waiting = tt;
        at_once = λ less. absurd (omega (arith, less, past));
        new_is = ap (λ (b : Bool). put_by b w (queued (c ∷ []) v)) (sym waits);
      };
      moved = record {
        number = refl;
        chunks = refl;
        in_order = λ epoch before now. refl;
        passes = refl;
        ready = ap (λ (ws : List Waits). ready ++ ws) (reached_one all w reached);
        waiting = waits_none all running w reached;
      };
      holds = record {
        log = log;
        of_stream = h.of_stream;
        waiting_known = tt;
        ready_known = each_join (Known passes) ready (w ∷ []) h.ready_known (known, tt);
        waiting_past = tt;
        ready_caused = each_join (Caused all) ready (w ∷ []) (each_map (Caused chunks) (Caused all) (caused_stays chunks (c ∷ []) log) ready h.ready_caused) (cause, tt);
        spent_caused = tt;
        apart = λ at. let more = apart_more v [] w at h (omega (arith, from)) tt in let join = tally_join (covers at) ready (w ∷ []) in omega (arith, more, join);
      };
    }

pub gives_again : (number : ℕ) (chunks : List Chunk) (running : Option ℕ) (passes : List Given) (ready : List Waits) (p : Pass) (items : List Tagged) (w : Waits) (t : Taken)
    → StreamHolds (view number chunks running passes ready) [] → Offer passes p items t w → running ≡ Some p.epoch → w.from ≡ end_of chunks → w.end ≡ end_of chunks → CausedBy w.given.name w chunks
    → OfferGave (view number chunks running passes ready) p items t (view number chunks running passes (ready ++ w ∷ []))
gives_again number chunks running passes ready p items w t h o runs from end by_name =
    let v = view number chunks running passes ready in
    let reached : w.end ≤ end_of chunks = omega (arith, end) in
    let waits : nat_lt (end_of chunks) w.end ≡ false = grind arith in
    let known = known_of passes p items t w o in
    let cause : Caused chunks w = record { reached = reached; by_name = by_name } in
    record {
      mid = put_by false w (queued [] v);
      more = [];
      step = record {
        wait = w;
        took = [];
        passed = o.passed;
        known = known;
        running = runs;
        whole = o.whole;
        ids = o.ids;
        entries = o.entries;
        begins = from ∙ ap end_of (sym (append-nil chunks));
        ends = end ∙ ap end_of (sym (append-nil chunks));
        end_is = o.ends;
        few = o.accepted;
        kinds = tt;
        past_list = omega (arith, from);
        past_waiting = tt;
        at_once = λ less. by_name;
        new_is = ap (λ (b : Bool). put_by b w (queued [] v)) (sym waits);
      };
      moved = record {
        number = refl;
        chunks = sym (append-nil chunks);
        in_order = λ epoch before now. refl;
        passes = refl;
        ready = sym (append-nil (ready ++ w ∷ []));
        waiting = refl;
      };
      holds = record {
        log = h.log;
        of_stream = h.of_stream;
        waiting_known = tt;
        ready_known = each_join (Known passes) ready (w ∷ []) h.ready_known (known, tt);
        waiting_past = tt;
        ready_caused = each_join (Caused chunks) ready (w ∷ []) h.ready_caused (cause, tt);
        spent_caused = tt;
        apart = λ at. let more = apart_more v [] w at h (omega (arith, from)) tt in let join = tally_join (covers at) ready (w ∷ []) in omega (arith, more, join);
      };
    }

-- ---- causes

cause_new : (name : List ℕ) (chunks : List Chunk) (c : Chunk) (items kept : List Tagged) (w : Waits) (epoch : ℕ) → IsLog chunks → length name ≤ 255 → kept ≡ chosen name (Greatest name chunks) items → IsMade epoch (end_of chunks) name kept c
    → w.from ≡ end_of chunks → w.end ≡ end_of_chunk c → w.ids ≡ map item_id items → w.entries ≡ map item_entry items → CausedBy name w (chunks ++ c ∷ [])
cause_new [] chunks c items kept w epoch log short is made from end ids entries =
    let all = chunks ++ c ∷ [] in
    let rows = rows_more chunks c log made.1 made.0.begins made.0.kind made.0.trailer in
    entries ∙ ap (map item_entry) (sym is) ∙ sym made.0.entries ∙ sym rows ∙ ap (λ (n : ℕ). bare_in n (end_of_chunk c) all) (sym from) ∙ ap (λ (n : ℕ). bare_in w.from n all) (sym end)
cause_new (x ∷ xs) chunks c items kept w epoch log short is made from end ids entries =
    let name = x ∷ xs in
    let is_name : (1 ≤ length name) × (length name < 2 ^ 8) = (omega arith, omega (arith, short)) in
    let these = ids_made name kept c is_name made.0.ids made.0.kind made.0.entries made.0.trailer in
    subst (λ (l : List ℕ). AllByRecursion (λ (id : ℕ). AtMost id (Greatest name (chunks ++ c ∷ []))) l) (sym ids) (ids_at_most name chunks c items kept is these)

cause_again : (name : List ℕ) (chunks : List Chunk) (items : List Tagged) (w : Waits) → 1 ≤ length items → chosen name (Greatest name chunks) items ≡ [] → w.ids ≡ map item_id items → CausedBy name w chunks
cause_again [] chunks items w some none ids = absurd (let count = ap length none in omega (arith, some, count))
cause_again (x ∷ xs) chunks items w some none ids =
    let name = x ∷ xs in
    let f = Greatest name chunks in
    let kept : AllByRecursion (λ (id : ℕ). AtMost id f) (map item_id (new_items f items)) = subst (λ (l : List Tagged). AllByRecursion (λ (id : ℕ). AtMost id f) (map item_id l)) (sym none) tt in
    subst (λ (l : List ℕ). AllByRecursion (λ (id : ℕ). AtMost id f) l) (sym ids) (bounded f f items (λ id q. q) kept)

-- ---- as the calls have it

pub appended : (a : StreamView) (number end epoch : ℕ) (tracking : Tracked) (chunks chunks' : List Chunk) (running : Option ℕ) (passes : List Given) (ready ready' : List Waits) (items kept : List Tagged) (given : Given) (c : Chunk) (w : Waits) (t : Taken)
    → view number chunks running passes ready ≡ a → Keeps end epoch tracking chunks passes → StreamHolds a [] → IsOfUse a given.pass → position has_none items ≡ None → 1 ≤ length items → length items ≤ 1048576
    → Contains a.passes given → IsShort given → kept ≡ chosen given.name (Greatest given.name a.chunks) items → IsMade epoch end given.name kept c → IsWait given end t.end items w → t.end ≡ end_of_chunk c → t.accepted ≡ length kept
    → chunks' ≡ chunks ++ c ∷ [] → ready' ≡ ready ++ w ∷ [] → OfferGave a given.pass items t (view number chunks' running passes ready')
appended a number end epoch tracking chunks chunks' running passes ready ready' items kept given c w t is k holds useful whole some few known short choice made wait ends accepted more waits =
    let v = view number chunks running passes ready in
    let at_holds : StreamHolds v [] = subst (λ (x : StreamView). StreamHolds x []) (sym is) holds in
    let runs : running ≡ Some given.pass.epoch = ap (λ (x : StreamView). x.running) is ∙ useful.0 in
    let at_known : Contains passes given = subst (λ (x : StreamView). Contains x.passes given) (sym is) known in
    let choice_here : kept ≡ chosen given.name (Greatest given.name chunks) items = subst (λ (x : StreamView). kept ≡ chosen given.name (Greatest given.name x.chunks) items) (sym is) choice in
    let few_kept = few_chosen given.name (Greatest given.name chunks) items in
    let count : length kept ≡ length (chosen given.name (Greatest given.name chunks) items) = ap length choice_here in
    let o : Offer passes given.pass items t w = record {
      some = some;
      few = few;
      whole = whole;
      passed = ap (λ (g : Given). g.pass) wait.given_is;
      known = subst (λ (g : Given). Contains passes g) (sym wait.given_is) at_known;
      ids = wait.ids;
      entries = wait.entries;
      ends = wait.ends;
      accepted = omega (arith, accepted, count, few_kept);
    } in
    let made_here : IsMade epoch (end_of chunks) given.name kept c = subst (λ (n : ℕ). IsMade epoch n given.name kept c) k.end_is made in
    let from : w.from ≡ end_of chunks = wait.begins ∙ k.end_is in
    let end_here : w.end ≡ end_of_chunk c = wait.ends ∙ ends in
    let in_epoch = k.in_epoch in
    let c_epoch = made.0.in_epoch in
    let by_given : CausedBy given.name w (chunks ++ c ∷ []) = cause_new given.name chunks c items kept w epoch at_holds.log short choice_here made_here from end_here wait.ids wait.entries in
    let by_name : CausedBy w.given.name w (chunks ++ c ∷ []) = subst (λ (g : Given). CausedBy g.name w (chunks ++ c ∷ [])) (sym wait.given_is) by_given in
    let kind : no_delta c.kind ≡ true = ap no_delta made.0.kind in
    let gave = gives_new number chunks running passes ready given.pass items c w t at_holds o runs (omega (arith, in_epoch, c_epoch)) made.1 made_here.0.begins kind from end_here by_name in
    let at_chunks = subst (λ (l : List Chunk). OfferGave v given.pass items t (view number l running passes (ready ++ w ∷ []))) (sym more) gave in
    let at_ready = subst (λ (ws : List Waits). OfferGave v given.pass items t (view number chunks' running passes ws)) (sym waits) at_chunks in
    subst (λ (x : StreamView). OfferGave x given.pass items t (view number chunks' running passes ready')) is at_ready

pub again : (a : StreamView) (number end epoch : ℕ) (tracking : Tracked) (chunks : List Chunk) (running : Option ℕ) (passes : List Given) (ready ready' : List Waits) (items : List Tagged) (given : Given) (w : Waits) (t : Taken)
    → view number chunks running passes ready ≡ a → Keeps end epoch tracking chunks passes → StreamHolds a [] → IsOfUse a given.pass → position has_none items ≡ None → 1 ≤ length items → length items ≤ 1048576
    → Contains a.passes given → chosen given.name (Greatest given.name a.chunks) items ≡ [] → IsWait given end t.end items w → t.end ≡ end → t.accepted ≡ 0 → ready' ≡ ready ++ w ∷ []
    → OfferGave a given.pass items t (view number chunks running passes ready')
again a number end epoch tracking chunks running passes ready ready' items given w t is k holds useful whole some few known none wait ends accepted waits =
    let v = view number chunks running passes ready in
    let at_holds : StreamHolds v [] = subst (λ (x : StreamView). StreamHolds x []) (sym is) holds in
    let runs : running ≡ Some given.pass.epoch = ap (λ (x : StreamView). x.running) is ∙ useful.0 in
    let at_known : Contains passes given = subst (λ (x : StreamView). Contains x.passes given) (sym is) known in
    let none_here : chosen given.name (Greatest given.name chunks) items ≡ [] = subst (λ (x : StreamView). chosen given.name (Greatest given.name x.chunks) items ≡ []) (sym is) none in
    let o : Offer passes given.pass items t w = record {
      some = some;
      few = few;
      whole = whole;
      passed = ap (λ (g : Given). g.pass) wait.given_is;
      known = subst (λ (g : Given). Contains passes g) (sym wait.given_is) at_known;
      ids = wait.ids;
      entries = wait.entries;
      ends = wait.ends;
      accepted = omega (arith, accepted);
    } in
    let by_given : CausedBy given.name w chunks = cause_again given.name chunks items w some none_here wait.ids in
    let by_name : CausedBy w.given.name w chunks = subst (λ (g : Given). CausedBy g.name w chunks) (sym wait.given_is) by_given in
    let gave = gives_again number chunks running passes ready given.pass items w t at_holds o runs (wait.begins ∙ k.end_is) (wait.ends ∙ ends ∙ k.end_is) by_name in
    let at_ready = subst (λ (ws : List Waits). OfferGave v given.pass items t (view number chunks running passes ws)) (sym waits) gave in
    subst (λ (x : StreamView). OfferGave x given.pass items t (view number chunks running passes ready')) is at_ready

pub keeps_more : (end end' epoch : ℕ) (tracking tracking' : Tracked) (chunks chunks' : List Chunk) (passes : List Given) (c : Chunk) → Keeps end epoch tracking chunks passes → c.epoch ≡ epoch → end' ≡ end_of_chunk c → chunks' ≡ chunks ++ c ∷ []
    → ((log : List Chunk) → tracking ≡ tracked_of log → tracking' ≡ tracked_of (log ++ c ∷ [])) → Keeps end' epoch tracking' chunks' passes
keeps_more end end' epoch tracking tracking' chunks chunks' passes c k in_epoch ends more tracks =
    let last = epoch_push chunks c in
    let at : Keeps end' epoch tracking' (chunks ++ c ∷ []) passes = record {
      end_is = ends ∙ sym (end_push chunks c);
      in_epoch = omega (arith, last, in_epoch);
      tracks = tracks chunks k.tracks;
      serials = k.serials;
      short = k.short;
    } in
    subst (λ (l : List Chunk). Keeps end' epoch tracking' l passes) (sym more) at

-- ---- small parts

pub named_as : (p : Pass) (name other : List ℕ) → name ≡ other → let given : Given = record { pass = p; name = name } in given ≡ record { pass = p; name = other }
named_as p name other is = ap (λ (n : List ℕ). record { pass = p; name = n }) is

pub runs_as : (runs : Bool) (epoch : ℕ) → runs ≡ true → cond {A = Option ℕ} runs (Some epoch) None ≡ Some epoch
runs_as runs epoch is = ap (λ (b : Bool). cond {A = Option ℕ} b (Some epoch) None) is

pub few_kept : (name : List ℕ) (g : Option ℕ) (items kept : List Tagged) → kept ≡ chosen name g items → length items ≤ 1048576 → length kept ≤ 1048576
few_kept name g items kept is few = let count = ap length is in let less = few_chosen name g items in omega (arith, count, less, few)

pub made_as : (epoch first : ℕ) (name name' : List ℕ) (items items' : List Tagged) (c : Chunk) → name' ≡ name → items' ≡ items → IsMade epoch first name' items' c → IsMade epoch first name items c
made_as epoch first name name' items items' c same same_items made = subst (λ (n : List ℕ). IsMade epoch first n items c) same (subst (λ (l : List Tagged). IsMade epoch first name' l c) same_items made)
