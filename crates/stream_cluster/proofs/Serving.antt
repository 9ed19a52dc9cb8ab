-- What waits for confirms goes on waiting, or is ready with its cause, where the list goes on.
use Rattle.std.proofs.Common.{◌≡◌, ℕ, ◌<◌, ◌≤◌, ◌⊎◌, Bool, true, false, not, cond, ◌&&◌, ◌==◌, nat_lt, List, [], ◌∷◌, ◌++◌, Option, Some, None, inl, inr, refl, sym, ap, subst, ◌∙◌, arith}
use Rattle.std.specs.Prelude.{IsTrue, ◌↔◌}
use Rattle.std.specs.List.{filter, AllByRecursion}
use Rattle.frame_wire.specs.declared.limits.Limits.{Limits}
use Rattle.chunk_format.specs.declared.chunk.Chunk.{Chunk}
use Rattle.chunk_format.specs.Logs.{GoesOn, IsLog, Truthful, end_of}
use Rattle.replication_laws.specs.Cluster.{ClusterState, Reign, RunsWith}
use Rattle.replication_laws.specs.Events.{AnyStep, Happens}
use Rattle.replication_laws.specs.Soundness.{IsSound}
use Rattle.replication_laws.specs.Confirms.{Stands, Awaits}
use Rattle.replication_laws.specs.Confirms as claims
use Rattle.replication_laws.proofs.Claims.{claim_moves}
use Rattle.replication_laws.proofs.Causes.{caused_stands}
use Rattle.replication_laws.proofs.Properties.{with_sound}
use Rattle.stream_terms.specs.declared.terms.Waits.{Waits}
use Rattle.stream_terms.specs.Views.{Caused, CausedBy}
use Rattle.stream_terms.specs.Steps.{is_reached, still_waits, of_epoch}
use Rattle.stream_passes.specs.Parts.{PassesState, parts_moved}
use Rattle.stream_passes.proofs.Moving.{moved}
use Rattle.cluster_core.specs.declared.outcome.Outcome.{Outcome}
use Rattle.cluster_core.specs.declared.outcome.Outcome.TheVariants.{Did, Nothing, Later, Last, Differs, Memory}
use Rattle.cluster_core.specs.Up.{running, leader_by}
use Rattle.cluster_core.specs.States.{ReplicaState, IsStream, IfDid, Happened, reigned}
use Rattle.cluster_core.proofs.Running.{runs}
use Rattle.cluster_core.proofs.Seeing.{moves}
use Rattle.cluster_core.proofs.Streams.{committed_log}
use Rattle.stream_cluster.specs.declared.event.Event.{Event}
use Rattle.stream_cluster.specs.Happens.{EventGives, numbered_state}
use Rattle.stream_cluster.specs.Served.{ServedState, served, parts_of, view_of, members_of, claim_of, OfferAwaits, IsServed, Moves}
use Rattle.stream_cluster.proofs.Soundly.{event_goes, event_kept, event_grows}

-- ---- reigns are nothing to those that use a stream

pub runs_reigned : (rs : List Reign) (w : ClusterState) (epoch leader : ℕ) → RunsWith w epoch leader → RunsWith (reigned rs w) epoch leader
runs_reigned rs w epoch leader r = record { coordinated = r.coordinated; phase = r.phase; epoch_is = r.epoch_is; is_member = r.is_member; leader_up = r.leader_up; promised = r.promised; is_open = r.is_open }

pub runs_without : (rs : List Reign) (w : ClusterState) (epoch leader : ℕ) → RunsWith (reigned rs w) epoch leader → RunsWith w epoch leader
runs_without rs w epoch leader r = record { coordinated = r.coordinated; phase = r.phase; epoch_is = r.epoch_is; is_member = r.is_member; leader_up = r.leader_up; promised = r.promised; is_open = r.is_open }

pub awaits_reigned : (Says : List Chunk → Type 0) (rs : List Reign) (w : ClusterState) (epoch end : ℕ) → Awaits Says epoch end w → Awaits Says epoch end (reigned rs w)
awaits_reigned Says rs w epoch end a = record { leader = a.leader; runs = runs_reigned rs w epoch a.leader a.runs; past = a.past; stands = a.stands }

pub awaits_without : (Says : List Chunk → Type 0) (rs : List Reign) (w : ClusterState) (epoch end : ℕ) → Awaits Says epoch end (reigned rs w) → Awaits Says epoch end w
awaits_without Says rs w epoch end a = record { leader = a.leader; runs = runs_without rs w epoch a.leader a.runs; past = a.past; stands = a.stands }

-- ---- what stands is a cause

pub by_name : (name : List ℕ) (x : Waits) (list : List Chunk) → claims.Caused name x.ids x.entries x.from x.end list → CausedBy name x list
by_name [] x list h = h
by_name (n ∷ name) x list h = h

pub stood : (list : List Chunk) (x : Waits) → IsLog list → x.end ≤ end_of list → Stands (claim_of x) x.end list → Caused list x
stood list x log le h = record { reached = le; by_name = by_name x.given.name x list (caused_stands x.given.name x.ids x.entries x.from x.end list log h) }

epoch_runs : (r : Option ℕ) (x : Waits) → of_epoch r x ≡ true → r ≡ Some x.given.pass.epoch
epoch_runs None x h = absurd (cc h)
epoch_runs (Some epoch) x h = ap Some (same x.given.pass.epoch epoch h)
  where
    same : (a b : ℕ) → (a == b) ≡ true → b ≡ a
    same a b h = grind (arith, h)

-- ---- over a step

module _ (o : ℕ) (rs rs' : List Reign) (w w' : ClusterState) (s : IsSound o (reigned rs w)) (step : AnyStep (reigned rs w) (reigned rs' w')) where
  pub on_the_way : (x : Waits) → OfferAwaits w x → (x.end ≤ end_of w'.committed → Stands (claim_of x) x.end w'.committed) × ((l : ℕ) → end_of w'.committed < x.end → RunsWith w' x.given.pass.epoch l → OfferAwaits w' x)
  on_the_way x a =
      let m = claim_moves (claim_of x) o x.given.pass.epoch x.end (reigned rs w) (reigned rs' w') s step (awaits_reigned (claim_of x) rs w x.given.pass.epoch x.end a) in
      (m.0, λ l lt r. awaits_without (claim_of x) rs' w' x.given.pass.epoch x.end (m.1 l lt (runs_reigned rs' w' x.given.pass.epoch l r)))

  ready_by : (b : Bool) (x : Waits) (rest : List Waits) → nat_lt (end_of w'.committed) x.end ≡ b → IsLog w'.committed → OfferAwaits w x → AllByRecursion (Caused w'.committed) rest → AllByRecursion (Caused w'.committed) (cond (not b) (x ∷ rest) rest)
  ready_by true x rest e log a h = h
  ready_by false x rest e log a h = let le : x.end ≤ end_of w'.committed = grind (arith, e) in (stood w'.committed x log le ((on_the_way x a).0 le), h)

  pub all_ready : (xs : List Waits) → IsLog w'.committed → AllByRecursion (OfferAwaits w) xs → AllByRecursion (Caused w'.committed) (filter (is_reached w'.committed) xs)
  all_ready [] log a = tt
  all_ready (x ∷ xs) log a = ready_by (nat_lt (end_of w'.committed) x.end) x (filter (is_reached w'.committed) xs) refl log a.0 (all_ready xs log a.1)

  waits_by : (p q : Bool) (x : Waits) (rest : List Waits) → nat_lt (end_of w'.committed) x.end ≡ p → of_epoch (running w') x ≡ q → OfferAwaits w x → AllByRecursion (OfferAwaits w') rest → AllByRecursion (OfferAwaits w') (cond (p && q) (x ∷ rest) rest)
  waits_by true true x rest e f a h =
      let lt : end_of w'.committed < x.end = grind (arith, e) in
      ((on_the_way x a).1 (leader_by w'.coordinator.phase) lt (runs w' x.given.pass.epoch (epoch_runs (running w') x f)), h)
  waits_by true false x rest e f a h = h
  waits_by false q x rest e f a h = h

  pub all_wait : (xs : List Waits) → AllByRecursion (OfferAwaits w) xs → AllByRecursion (OfferAwaits w') (filter (still_waits w'.committed (running w')) xs)
  all_wait [] a = tt
  all_wait (x ∷ xs) a = waits_by (nat_lt (end_of w'.committed) x.end) (of_epoch (running w') x) x (filter (still_waits w'.committed (running w')) xs) refl refl a.0 (all_wait xs a.1)

-- ---- an event

pub record Served (old new : ServedState) : Type 0 where
  pub holds : IsServed new
  pub move : Moves old new

happened_serves : (now : ℕ) (old : ServedState) (new : ReplicaState) → IsServed old → IsStream new.cluster → Happened now old.state.cluster new.cluster → GoesOn old.state.cluster.committed new.cluster.committed
    → Served old (served old.limits new (parts_moved (end_of new.cluster.committed) (running new.cluster) (parts_of old)))
happened_serves now old new h stream step g =
    let w = old.state.cluster in
    let w' = new.cluster in
    let s = h.stream in
    let one = step s.reigns in
    let sound = with_sound Truthful s.opened (reigned s.reigns w) s.sound in
    let any : AnyStep (reigned s.reigns w) (reigned (one.0 ++ s.reigns) w') = Happens now one.1 in
    let log = committed_log w' stream in
    let move = moves now old.number w w' g.0 old.passes old.waiting old.ready s step g.1 in
    let ready = all_ready s.opened s.reigns (one.0 ++ s.reigns) w w' sound any old.waiting log h.awaits in
    let waits = all_wait s.opened s.reigns (one.0 ++ s.reigns) w w' sound any old.waiting h.awaits in
    record {
      holds = record { stream = stream; holds = moved (view_of old) _ g.0 h.holds move log ready; awaits = waits };
      move = record { more = g.0; grown = g.1; step = move; limits = refl };
    }

pub event_serves : (event : Event) (now : ℕ) (result : Outcome) (old : ServedState) (new : ReplicaState) → EventGives event now result (members_of old) new → IsServed old → result ≡ Did
    → Served old (served old.limits new (parts_moved (end_of new.cluster.committed) (running new.cluster) (parts_of old)))
event_serves event now result old new g h did =
    let goes = event_goes event now result (members_of old) new g h.stream in
    let step = subst (λ (r : Outcome). IfDid r (Happened now old.state.cluster new.cluster)) did goes.1 in
    happened_serves now old new h goes.0 step (event_grows event now result (members_of old) new g h.stream)

-- where it didn't happen nothing changes
pub event_stays : (event : Event) (now : ℕ) (result : Outcome) (old : ServedState) (new : ReplicaState) → EventGives event now result (members_of old) new → (result ≡ Did → ⊥) → new ≡ old.state
event_stays event now result old new g no_did = by (event_kept event now result (members_of old) new g)
  where
    by : (result ≡ Did) ⊎ (new ≡ old.state) → new ≡ old.state
    by (inl d) = absurd (no_did d)
    by (inr e) = e

if_not : (result : Outcome) (P : Type 0) → (result ≡ Did → ⊥) → IfDid result P
if_not Did P n = absurd (n refl)
if_not Nothing P n = tt
if_not (Later k) P n = tt
if_not (Last epoch) P n = tt
if_not (Differs a b) P n = tt
if_not Memory P n = tt

-- ---- all that the call says

pub record EventDone (event : Event) (now : ℕ) (result : Outcome) (old new : ServedState) : Type 0 where
  pub holds : IsServed new
  pub gives : EventGives event now result (members_of old) new.state
  pub number : new.number ≡ old.number
  pub sound : IsStream new.state.cluster
  pub grows : GoesOn old.state.cluster.committed new.state.cluster.committed
  pub step : IfDid result (Happened now old.state.cluster new.state.cluster)
  pub moved : IfDid result (Moves old new)
  pub same : (result ≡ Did) ⊎ (new ≡ old)

done_all : (event : Event) (now : ℕ) (result : Outcome) (old : ServedState) (new : ReplicaState) → EventGives event now result (members_of old) new → IsServed old → result ≡ Did
    → EventDone event now result old (served old.limits new (parts_moved (end_of new.cluster.committed) (running new.cluster) (parts_of old)))
done_all event now result old new g h did =
    let goes = event_goes event now result (members_of old) new g h.stream in
    let s = event_serves event now result old new g h did in
    record {
      holds = s.holds;
      gives = g;
      number = refl;
      sound = goes.0;
      grows = event_grows event now result (members_of old) new g h.stream;
      step = goes.1;
      moved = subst (λ (r : Outcome). IfDid r (Moves old (served old.limits new (parts_moved (end_of new.cluster.committed) (running new.cluster) (parts_of old))))) (sym did) s.move;
      same = inl did;
    }

done_none : (event : Event) (now : ℕ) (result : Outcome) (old : ServedState) → EventGives event now result (members_of old) old.state → IsServed old → (result ≡ Did → ⊥) → EventDone event now result old old
done_none event now result old g h no_did = record {
  holds = h;
  gives = g;
  number = refl;
  sound = h.stream;
  grows = event_grows event now result (members_of old) old.state g h.stream;
  step = if_not result (Happened now old.state.cluster old.state.cluster) no_did;
  moved = if_not result (Moves old old) no_did;
  same = inr refl;
}

pub is_true : (b : Bool) → b ≡ true → IsTrue b
is_true true e = refl
is_true false e = absurd (cc e)

pub is_false : (b : Bool) → b ≡ false → IsTrue b → ⊥
is_false true e h = absurd (cc e)
is_false false e h = absurd (cc h)

module _ (event : Event) (now : ℕ) (result : Outcome) (b : Bool) (n : ℕ) (limits : Limits) (r r' : ReplicaState) (p : PassesState) (old : ServedState) (view : served limits r p ≡ old) (h : IsServed (served limits r p)) (n_is : n ≡ p.number) (g : EventGives event now result (numbered_state n r) r') (tells : IsTrue b ↔ (result ≡ Did)) where
  here : EventGives event now result (members_of (served limits r p)) r'
  here = subst (λ (k : ℕ). EventGives event now result (numbered_state k r) r') n_is g

  pub did : (end : ℕ) (runs : Option ℕ) (p' : PassesState) → b ≡ true → end ≡ end_of r'.cluster.committed → runs ≡ running r'.cluster → p' ≡ parts_moved end runs p → EventDone event now result old (served limits r' p')
  did end runs p' e end_is runs_is p_is =
      let so = p_is ∙ ap (λ (k : ℕ). parts_moved k runs p) end_is ∙ ap (λ (k : Option ℕ). parts_moved (end_of r'.cluster.committed) k p) runs_is in
      subst (λ (o : ServedState). EventDone event now result o (served limits r' p')) view
      (subst (λ (x : PassesState). EventDone event now result (served limits r p) (served limits r' x)) (sym so)
      (done_all event now result (served limits r p) r' here h (tells.0 (is_true b e))))

  pub did_not : b ≡ false → EventDone event now result old (served limits r' p)
  did_not e =
      let no_did : result ≡ Did → ⊥ = λ d. is_false b e (tells.1 d) in
      let same = event_stays event now result (served limits r p) r' here no_did in
      subst (λ (o : ServedState). EventDone event now result o (served limits r' p)) view
      (subst (λ (x : ReplicaState). EventDone event now result (served limits r p) (served limits x p)) (sym same)
      (done_none event now result (served limits r p) (subst (EventGives event now result (members_of (served limits r p))) same here) h no_did))
