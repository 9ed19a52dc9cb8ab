-- The law over runs.
use Rattle.std.proofs.Common.{◌≡◌, ◌⊎◌, ℕ, ◌+◌, List, [], ◌∷◌, ◌++◌, Option, Some, refl, sym, ap, subst, ◌∙◌, inl, inr, append_assoc}
use Rattle.std.specs.Prelude.{flat_map}
use Rattle.std.specs.List.{AllByRecursion}
use Rattle.std.proofs.lemmas.List.{append-nil}
use Rattle.std.proofs.lemmas.Grind.{flat_map-append}
use Rattle.command_data.specs.declared.item.Tagged.{Tagged}
use Rattle.command_all.specs.declared.identity.Identity.{Identity}
use Rattle.client_terms.specs.States.{ClientState, last_id}
use Rattle.client_terms.specs.Sending.{message}
use Rattle.client_terms.specs.Steps.{Input, enqueues, creates, queries, subscribes, connects, loses, sends, hears, faults, takes}
use Rattle.list_machine.specs.Streams.{Declaration, Stream, items_of}
use Rattle.list_machine.specs.Discipline.{RunsIn, IsDisciplined, Disciplined}
use Rattle.list_machine.proofs.Lists.{all_weaker}
use Rattle.client_laws.specs.Worlds.{World, first_world, Event, calls, connects_by, restarts, reads, moves, WorldStep, WorldRun, Kept, queued, body_in, bodies_of, enqueued_by_input, enqueued_by, enqueued_by_all}
use Rattle.client_laws.proofs.Alike.{Of}
use Rattle.client_laws.proofs.Holding.{History, PipeFits, DeclFits, Ours, Holds}
use Rattle.client_laws.proofs.Serving.{serve_keeps, other_keeps}
use Rattle.client_laws.proofs.Calling.{call_keeps, connect_keeps, restart_keeps}

first_holds : (name : List ℕ) (identity : Identity) (stream : Option (List ℕ)) (n : ℕ) → Holds name (first_world identity stream name n)
first_holds name identity stream n = record {
  named = refl;
  front = [];
  is = refl;
  below = tt;
  stood = tt;
  rises = tt;
  above = λ id i. absurd i;
  history = λ c. record { before = []; sent = [] };
  pipes = λ c. record { rest = []; run = refl; stood = tt };
  asks_fit = λ c. tt;
  unasked = λ c. inl tt;
  declarations = tt;
  apart = tt;
  line = inl (refl, refl, refl);
}

step_keeps : (name : List ℕ) (w : World) (event : Event) (new : World) → WorldStep name w event new → Holds name w → Holds name new
step_keeps name w (calls input) new step h = call_keeps name w input new step h
step_keeps name w (connects_by c) new step h = connect_keeps name w c new step h
step_keeps name w (restarts n kept) new step h = subst (Holds name) (sym step.1) (restart_keeps name w n kept step.0 h)
step_keeps name w (reads c command) new step h = serve_keeps name w c command new step h
step_keeps name w (moves move) new step h = other_keeps name w move new step h

run_keeps : (name : List ℕ) (w : World) (events : List Event) (new : World) → WorldRun name w events new → Holds name w → Holds name new
run_keeps name w [] new run h = subst (Holds name) (sym run) h
run_keeps name w (event ∷ events) new run h = run_keeps name run.0 events new run.2 (step_keeps name w event run.0 run.1 h)

runs_in : (name : List ℕ) (stream : Stream) (all : List Tagged) (h : History) (unread : List _) (d : Declaration) → PipeFits name stream all h → DeclFits name h unread d → (items_of d ≡ []) ⊎ RunsIn name all d
runs_in name stream all h unread d p q = elim q.known_is [
  | inl none ↦ inl none
  | inr k ↦ inr record {
    before = h.before;
    behind = q.later ++ p.rest;
    run = p.run ∙ ap (λ (l : List Tagged). (h.before ++ l) ++ p.rest) (sym q.sent_is) ∙ ap (λ (l : List Tagged). l ++ p.rest) (sym (append_assoc h.before (items_of d) q.later)) ∙ append_assoc (h.before ++ items_of d) q.later p.rest;
    confirmed = k;
  }
]

pub disciplined : (name : List ℕ) (identity : Identity) (stream : Option (List ℕ)) (n : ℕ) (events : List Event) (new : World) → WorldRun name (first_world identity stream name n) events new → Disciplined name new.all new.stream.declarations
disciplined name identity stream n events new run =
    let h : Holds name new = run_keeps name (first_world identity stream name n) events new run (first_holds name identity stream n) in
    record {
      rises = h.rises;
      each = all_weaker (Of name (Ours name h.history new.unread)) (IsDisciplined name new.all)
          (λ d q is. runs_in name new.stream new.all (h.history d.connection) (new.unread d.connection) d (h.pipes d.connection) (q is)) new.stream.declarations h.declarations;
    }

pub queue_kept : (name : List ℕ) (identity : Identity) (stream : Option (List ℕ)) (n : ℕ) (events : List Event) (new : World) → WorldRun name (first_world identity stream name n) events new
    → Kept name new.all new.stream new.client.confirmed new.client.queue
queue_kept name identity stream n events new run =
    let h : Holds name new = run_keeps name (first_world identity stream name n) events new run (first_holds name identity stream n) in
    record { front = h.front; is = h.is; below = h.below; stood = h.stood }

-- ---- what was queued

bodies_append : (xs ys : List Tagged) → bodies_of (xs ++ ys) ≡ bodies_of xs ++ bodies_of ys
bodies_append xs ys = flat_map-append (λ (x : Tagged). body_in x.entry) xs ys

queued_bodies : (s : ClientState) (input : Input) → bodies_of (queued s input) ≡ enqueued_by_input input
queued_bodies s (enqueues body) = refl
queued_bodies s creates = refl
queued_bodies s queries = refl
queued_bodies s (subscribes spec credit) = refl
queued_bodies s connects = refl
queued_bodies s loses = refl
queued_bodies s sends = refl
queued_bodies s (hears command) = refl
queued_bodies s (faults command fault) = refl
queued_bodies s takes = refl

same_all : (old new : World) → new.all ≡ old.all → bodies_of new.all ≡ bodies_of old.all ++ []
same_all old new e = ap bodies_of e ∙ sym (append-nil (bodies_of old.all))

step_tells : (name : List ℕ) (old : World) (event : Event) (new : World) → WorldStep name old event new → bodies_of new.all ≡ bodies_of old.all ++ enqueued_by event
step_tells name old (calls input) new step =
    ap (λ (w : World). bodies_of w.all) step.is ∙ bodies_append old.all (queued old.client input) ∙ ap (λ (l : List (List ℕ)). bodies_of old.all ++ l) (queued_bodies old.client input)
step_tells name old (connects_by c) new step = same_all old new (ap (λ (w : World). w.all) step.is)
step_tells name old (restarts n kept) new step = same_all old new (ap (λ (w : World). w.all) step.1)
step_tells name old (reads c command) new step = same_all old new (ap (λ (w : World). w.all) step.is)
step_tells name old (moves move) new step = same_all old new (ap (λ (w : World). w.all) step.is)

run_tells : (name : List ℕ) (old : World) (events : List Event) (new : World) → WorldRun name old events new → bodies_of new.all ≡ bodies_of old.all ++ enqueued_by_all events
run_tells name old [] new run = same_all old new (ap (λ (w : World). w.all) run)
run_tells name old (event ∷ events) new run =
    run_tells name run.0 events new run.2 ∙ ap (λ (l : List (List ℕ)). l ++ enqueued_by_all events) (step_tells name old event run.0 run.1) ∙ append_assoc (bodies_of old.all) (enqueued_by event) (enqueued_by_all events)

pub told : (name : List ℕ) (identity : Identity) (stream : Option (List ℕ)) (n : ℕ) (events : List Event) (new : World) → WorldRun name (first_world identity stream name n) events new → bodies_of new.all ≡ enqueued_by_all events
told name identity stream n events new run = run_tells name (first_world identity stream name n) events new run
