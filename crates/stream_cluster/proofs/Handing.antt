-- A stream that is opened, declarations, and confirms that are handed out.
use Rattle.std.proofs.Common.{◌≡◌, ℕ, List, [], map, Option, Result, Ok, Err, OnOk, OnErr, refl, sym, ap, subst, arith}
use Rattle.std.specs.Prelude.{IfOk}
use Rattle.std.specs.declared.alloc.AllocError.{AllocError}
use Rattle.std.specs.List.{filter, AllByRecursion}
use Rattle.frame_wire.specs.declared.limits.Limits.{Limits}
use Rattle.stream_terms.specs.declared.terms.Pass.{Pass}
use Rattle.stream_terms.specs.declared.terms.Waits.{Waits}
use Rattle.stream_terms.specs.declared.terms.Confirm.{Confirm}
use Rattle.stream_terms.specs.declared.terms.DeclareFault.{DeclareFault}
use Rattle.stream_terms.specs.Views.{StreamView, StreamHolds, covers}
use Rattle.stream_terms.specs.Steps.{DeclareStep, HandStep, is_of, confirm_of}
use Rattle.stream_terms.proofs.Counts.{count_none}
use Rattle.stream_terms.proofs.Keeping.{declared_holds, handed_holds}
use Rattle.stream_passes.specs.Parts.{PassesState, parts, PartsDeclare, parts_handed}
use Rattle.cluster_core.specs.Up.{running}
use Rattle.cluster_core.specs.Seen.{queue_by}
use Rattle.cluster_core.specs.States.{ReplicaState, IsStream}
use Rattle.cluster_core.proofs.Streams.{committed_log}
use Rattle.stream_cluster.specs.Served.{ServedState, served, view_of, IsServed, OfferAwaits}
use Rattle.stream_cluster.specs.Takes.{ConfirmsGive, Hands}

-- ---- an opening

served_none : (limits : Limits) (number : ℕ) (r : ReplicaState) → IsStream r.cluster → IsServed (served limits r (parts number [] [] []))
served_none limits number r stream = record {
  stream = stream;
  holds = record {
    log = committed_log r.cluster stream;
    of_stream = tt;
    waiting_known = tt;
    ready_known = tt;
    waiting_past = tt;
    ready_caused = tt;
    spent_caused = tt;
    apart = λ at. let z = count_none (covers at) [] tt in omega (arith, z);
  };
  awaits = tt;
}

pub opened_served : (limits : Limits) (number : ℕ) (r : ReplicaState) (p : PassesState) → p ≡ parts number [] [] [] → IsStream r.cluster → IsServed (served limits r p)
opened_served limits number r p is stream = subst (λ (x : PassesState). IsServed (served limits r x)) (sym is) (served_none limits number r stream)

-- ---- declarations

module _ (limits : Limits) (r : ReplicaState) (p p' : PassesState) (runs : Option ℕ) (session : ℕ) (name : Option (List ℕ)) (res : Result Pass DeclareFault) (runs_is : runs ≡ running r.cluster) (d : PartsDeclare p runs session name res p') where
  declares_here : DeclareStep (view_of (served limits r p)) session name res (view_of (served limits r p'))
  declares_here = subst (λ (x : Option ℕ). PartsDeclare p x session name res p') runs_is d r.cluster.committed (queue_by (running r.cluster) r.cluster)

  pub declares_so : (old : ServedState) → served limits r p ≡ old → DeclareStep (view_of old) session name res (view_of (served limits r p'))
  declares_so old view = subst (λ (o : ServedState). DeclareStep (view_of o) session name res (view_of (served limits r p'))) view declares_here

  pub declares_keeps : IsServed (served limits r p) → IsServed (served limits r p')
  declares_keeps h = by res declares_here
    where
      by : (x : Result Pass DeclareFault) → DeclareStep (view_of (served limits r p)) session name x (view_of (served limits r p')) → IsServed (served limits r p')
      by (Ok pass) s = record {
        stream = h.stream;
        holds = declared_holds (view_of (served limits r p)) (view_of (served limits r p')) [] session name pass h.holds s;
        awaits = subst (AllByRecursion (OfferAwaits r.cluster)) (sym (ap (λ (v : StreamView). v.waiting) s.new_is)) h.awaits;
      }
      by (Err fault) s = record {
        stream = h.stream;
        holds = subst (λ (v : StreamView). StreamHolds v []) (sym s.1) h.holds;
        awaits = subst (AllByRecursion (OfferAwaits r.cluster)) (sym (ap (λ (v : StreamView). v.waiting) s.1)) h.awaits;
      }

-- ---- confirms

without_spent : (v : StreamView) (spent : List Waits) → StreamHolds v spent → StreamHolds v []
without_spent v spent h = record {
  log = h.log;
  of_stream = h.of_stream;
  waiting_known = h.waiting_known;
  ready_known = h.ready_known;
  waiting_past = h.waiting_past;
  ready_caused = h.ready_caused;
  spent_caused = tt;
  apart = λ at. let all = h.apart at in let z = count_none (covers at) [] tt in omega (arith, all, z);
}

module _ (limits : Limits) (r : ReplicaState) (p : PassesState) (session : ℕ) where
  handed_step : HandStep (view_of (served limits r p)) session (filter (is_of session) p.ready) (view_of (served limits r (parts_handed session p)))
  handed_step = record { out_is = refl; new_is = refl }

  handed_served : IsServed (served limits r p) → IsServed (served limits r (parts_handed session p))
  handed_served h =
      let v = view_of (served limits r p) in
      let v' = view_of (served limits r (parts_handed session p)) in
      record {
        stream = h.stream;
        holds = without_spent v' (filter (is_of session) p.ready) (handed_holds v v' [] session (filter (is_of session) p.ready) h.holds handed_step);
        awaits = h.awaits;
      }

  pub hand_keeps : (p' : PassesState) (res : Result (List Confirm) AllocError) → OnOk res (p' ≡ parts_handed session p) → OnErr res (p' ≡ p) → IsServed (served limits r p) → IsServed (served limits r p')
  hand_keeps p' (Ok confirms) ok err h = subst (λ (x : PassesState). IsServed (served limits r x)) (sym ok) (handed_served h)
  hand_keeps p' (Err e) ok err h = subst (λ (x : PassesState). IsServed (served limits r x)) (sym err) h

  hands_here : (p' : PassesState) (res : Result (List Confirm) AllocError) → IfOk res (λ (out : List Confirm). out ≡ map confirm_of (filter (is_of session) p.ready)) → OnOk res (p' ≡ parts_handed session p) → OnErr res (p' ≡ p) → ConfirmsGive (served limits r p) session res (served limits r p')
  hands_here p' (Ok confirms) out ok err =
      subst (λ (x : PassesState). Hands (served limits r p) session confirms (served limits r x)) (sym ok)
      (record { out = filter (is_of session) p.ready; step = handed_step; confirms_are = out; state = refl; limits = refl })
  hands_here p' (Err e) out ok err = ap (served limits r) err

  pub hands_so : (old : ServedState) → served limits r p ≡ old → (p' : PassesState) (res : Result (List Confirm) AllocError) → IfOk res (λ (out : List Confirm). out ≡ map confirm_of (filter (is_of session) p.ready)) → OnOk res (p' ≡ parts_handed session p) → OnErr res (p' ≡ p) → ConfirmsGive old session res (served limits r p')
  hands_so old view p' res out ok err = subst (λ (o : ServedState). ConfirmsGive o session res (served limits r p')) view (hands_here p' res out ok err)
