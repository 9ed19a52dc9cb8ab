-- What comes of an offer and of a stored offset, all at once.
use Rattle.std.proofs.Common.{◌≡◌, ℕ, zero, suc, ◌<◌, ◌≤◌, Bool, true, false, List, [], ◌∷◌, length, slice_set, slice_index_or, Option, Some, None, Result, Ok, Err, refl, sym, ap, subst, ◌∙◌, arith}
use Rattle.std.specs.Prelude.{IsTrue, ◌↔◌, unwrap_or}
use Rattle.std.specs.List.{Contains}
use Rattle.frame_wire.specs.declared.limits.Limits.{Limits}
use Rattle.chunk_format.specs.Logs.{end_of}
use Rattle.command_data.specs.declared.item.Tagged.{Tagged}
use Rattle.epoch_coordinator.specs.Members.{MemberState, sequence_of}
use Rattle.replication_laws.specs.Cluster.{Seat, nobody, seat_in, placed, RunsWith}
use Rattle.stream_terms.specs.declared.terms.Pass.{Pass}
use Rattle.stream_terms.specs.declared.terms.Given.{Given}
use Rattle.stream_terms.specs.declared.terms.Taken.{Taken}
use Rattle.stream_terms.specs.declared.terms.OfferFault.{OfferFault}
use Rattle.stream_terms.specs.declared.terms.OfferFault.TheVariants as refused
use Rattle.stream_terms.specs.Steps.{IsOfUse, IsRunning, OfferStep, OffsetStep}
use Rattle.stream_terms.specs.Steps as steps
use Rattle.stream_passes.specs.Parts.{PassesState, parts_put}
use Rattle.stream_passes.specs.Keeps.{WasGiven}
use Rattle.leader_offers.specs.Adds.{OfferRefused, OffsetRefused, OffsetGives, OfferAdded}
use Rattle.cluster_core.specs.Up.{running}
use Rattle.cluster_core.specs.States.{ReplicaState}
use Rattle.stream_cluster.specs.Seats.{in_seat}
use Rattle.stream_cluster.specs.Served.{ServedState, served, parts_of, view_of, IsServed}
use Rattle.stream_cluster.specs.Takes.{leader_of, leading, led_by, wait_of, LeaderTakes, OfferFails, OfferBrings, OffsetFails, OffsetBrings}
use Rattle.stream_cluster.proofs.Serving.{is_true, is_false}
use Rattle.stream_cluster.proofs.Offering.{runs_so, offered_done, stored_done}

-- ---- a leader that stays

set_same : (xs : List Seat) (i : ℕ) → slice_set xs i (slice_index_or xs i nobody) ≡ xs
set_same [] zero = refl
set_same [] (suc i) = refl
set_same (x ∷ xs) zero = refl
set_same (x ∷ xs) (suc i) = ap (λ (l : List Seat). x ∷ l) (set_same xs i)

placed_same : (k : ℕ) (seats : List Seat) → 0 < k → (seat_in seats k).up ≡ true → placed k (in_seat (seat_in seats k).state) seats ≡ seats
placed_same zero seats some up = absurd (omega (arith, some))
placed_same (suc i) seats some up =
    let s = slice_index_or seats i nobody in
    ap (λ (b : Bool). slice_set seats i (record { up = b; state = s.state })) (sym up) ∙ set_same seats i

pub led_same : (r : ReplicaState) (e : ℕ) → RunsWith r.cluster e (leader_of r.cluster) → led_by (leading r.cluster) r ≡ r
led_same r e runs = ap (λ (l : List Seat). record { cluster = record r.cluster { seats = l }; numbers = r.numbers }) (placed_same (leader_of r.cluster) r.cluster.seats runs.is_member.0 runs.leader_up)

-- ---- an offer

pub record OfferAll (old : ServedState) (p : Pass) (items : List Tagged) (now : ℕ) (res : Result Taken OfferFault) (new : ServedState) : Type 0 where
  pub holds : IsServed new
  pub brings : OfferBrings old p items now res new
  pub step : OfferStep (view_of old) p items res (view_of new)

fails_by : (old : ServedState) (p : Pass) (items : List Tagged) (now : ℕ) (given : Given) → IsOfUse (view_of old) p → Contains old.passes given → given.pass ≡ p → (fault : OfferFault)
    → OfferRefused old.limits (leading old.state.cluster) given.name items now fault → OfferFails old p items now fault
fails_by old p items now given useful known passed (refused.Stale asked runs) why = absurd why
fails_by old p items now given useful known passed (refused.BadName len) why = absurd why
fails_by old p items now given useful known passed (refused.EmptyBatch place) why = record { useful = useful; given = given; known = known; passed = passed; refused = why }
fails_by old p items now given useful known passed (refused.Limit what most) why = record { useful = useful; given = given; known = known; passed = passed; refused = why }
fails_by old p items now given useful known passed refused.Memory why = tt

fails_step : (old : ServedState) (p : Pass) (items : List Tagged) (now : ℕ) (fault : OfferFault) → OfferFails old p items now fault → steps.OfferRefused (view_of old) p items fault
fails_step old p items now (refused.Stale asked runs) f = f
fails_step old p items now (refused.BadName len) f = f
fails_step old p items now (refused.EmptyBatch place) f = (f.useful, f.refused)
fails_step old p items now (refused.Limit what most) f = (f.useful, f.refused.0)
fails_step old p items now refused.Memory f = tt

failed_all : (old : ServedState) (p : Pass) (items : List Tagged) (now : ℕ) (fault : OfferFault) → IsServed old → OfferFails old p items now fault → OfferAll old p items now (Err fault) old
failed_all old p items now fault h f = record { holds = h; brings = (f, refl); step = (fails_step old p items now fault f, refl) }

same_after : (old : ServedState) (r' : ReplicaState) (q : PassesState) (m : MemberState) (e : ℕ) → RunsWith old.state.cluster e (leader_of old.state.cluster) → r' ≡ led_by m old.state → m ≡ leading old.state.cluster → q ≡ parts_of old → old ≡ served old.limits r' q
same_after old r' q m e runs r_is m_is q_is =
    sym (ap (λ (x : ReplicaState). served old.limits x q) (r_is ∙ ap (λ (x : MemberState). led_by x old.state) m_is ∙ led_same old.state e runs) ∙ ap (served old.limits old.state) q_is)

module _ (old : ServedState) (h : IsServed old) (p : Pass) (items : List Tagged) (now : ℕ) (given : Given) (useful : IsOfUse (view_of old) p) (known : Contains old.passes given) (passed : given.pass ≡ p) (short : length given.name ≤ 255) (some : 1 ≤ length items) (few : length items ≤ 1048576) where
  taken_all : (t : Taken) (m : MemberState) → OfferAdded old.limits (leading old.state.cluster) given.name items now t m
      → OfferAll old p items now (Ok t) (served old.limits (led_by m old.state) (parts_put (end_of old.state.cluster.committed) (wait_of given (end_of (sequence_of (leading old.state.cluster))) t.end items) (parts_of old)))
  taken_all t m a =
      let d = offered_done old h p items now t given m useful.0 known passed short some few a in
      record { holds = d.holds; brings = record { useful = useful; given = given; known = known; passed = passed; short = short; leader = m; added = a; new_is = refl }; step = d.step }

  pub offer_all : (res : Result Taken OfferFault) (m : MemberState) (r' : ReplicaState) (q : PassesState) → LeaderTakes old.limits (end_of old.state.cluster.committed) given items now res (leading old.state.cluster) m (parts_of old) q → r' ≡ led_by m old.state
      → OfferAll old p items now res (served old.limits r' q)
  offer_all (Ok t) m r' q takes r_is =
      subst (λ (x : ReplicaState). OfferAll old p items now (Ok t) (served old.limits x q)) (sym r_is)
      (subst (λ (x : PassesState). OfferAll old p items now (Ok t) (served old.limits (led_by m old.state) x)) (sym takes.1) (taken_all t m takes.0))
  offer_all (Err fault) m r' q takes r_is =
      subst (OfferAll old p items now (Err fault)) (same_after old r' q m p.epoch (runs_so old.state.cluster p.epoch h.stream useful.0) r_is takes.1.0 takes.1.1)
      (failed_all old p items now fault h (fails_by old p items now given useful known passed fault takes.0))

-- the same of a value that is seen
module _ (limits : Limits) (r : ReplicaState) (p : PassesState) (old : ServedState) (view : served limits r p ≡ old) (h : IsServed (served limits r p)) (pass : Pass) (items : List Tagged) (now : ℕ) (runs : Option ℕ) (runs_is : runs ≡ running r.cluster) (b : Bool) (tells : IsTrue b ↔ ((runs ≡ Some pass.epoch) × WasGiven p.passes pass)) where
  pub is_useful : b ≡ true → IsOfUse (view_of (served limits r p)) pass
  is_useful e = let t = tells.0 (is_true b e) in (sym runs_is ∙ t.0, t.1)

  pub useless : (fault : OfferFault) → b ≡ false → fault ≡ refused.Stale pass.epoch (unwrap_or runs 0) → OfferAll old pass items now (Err fault) old
  useless fault e is =
      let s = served limits r p in
      subst (λ (o : ServedState). OfferAll o pass items now (Err fault) o) view
      (subst (λ (f : OfferFault). OfferAll s pass items now (Err f) s) (sym is)
      (failed_all s pass items now (refused.Stale pass.epoch (unwrap_or runs 0)) h (refl, ap (λ (x : Option ℕ). unwrap_or x 0) runs_is, λ u. is_false b e (tells.1 (runs_is ∙ u.0, u.1)))))

  pub no_room : OfferAll old pass items now (Err refused.Memory) old
  no_room = let s = served limits r p in subst (λ (o : ServedState). OfferAll o pass items now (Err refused.Memory) o) view (failed_all s pass items now refused.Memory h tt)

  pub came_of : (given : Given) → b ≡ true → given.pass ≡ pass → Contains p.passes given → length given.name ≤ 255 → 1 ≤ length items → length items ≤ 1048576
      → (res : Result Taken OfferFault) (m : MemberState) (r' : ReplicaState) (q : PassesState) → LeaderTakes limits (end_of r.cluster.committed) given items now res (leading r.cluster) m p q → r' ≡ led_by m r
      → OfferAll old pass items now res (served limits r' q)
  came_of given e passed known short some few res m r' q takes r_is =
      subst (λ (o : ServedState). OfferAll o pass items now res (served limits r' q)) view
      (offer_all (served limits r p) h pass items now given (is_useful e) known passed short some few res m r' q takes r_is)

-- ---- a stored offset

pub record OffsetAll (old : ServedState) (name : Option (List ℕ)) (offset now : ℕ) (res : Result Taken OfferFault) (new : ServedState) : Type 0 where
  pub holds : IsServed new
  pub brings : OffsetBrings old name offset now res new
  pub step : OffsetStep (view_of old) name offset res (view_of new)

offset_fails : (old : ServedState) (name : Option (List ℕ)) (offset now : ℕ) → IsRunning (view_of old) → (fault : OfferFault) → OffsetRefused old.limits (leading old.state.cluster) name offset now fault → OffsetFails old name offset now fault
offset_fails old name offset now runs (refused.Stale asked running) why = absurd why
offset_fails old name offset now runs (refused.BadName len) why = (runs, why)
offset_fails old name offset now runs (refused.EmptyBatch place) why = absurd why
offset_fails old name offset now runs (refused.Limit what most) why = (runs, why)
offset_fails old name offset now runs refused.Memory why = tt

offset_fails_step : (old : ServedState) (name : Option (List ℕ)) (offset now : ℕ) (fault : OfferFault) → OffsetFails old name offset now fault → steps.OffsetRefused (view_of old) name fault
offset_fails_step old name offset now (refused.Stale asked running) f = f
offset_fails_step old name offset now (refused.BadName len) f = (f.0, f.1.0, f.1.1)
offset_fails_step old name offset now (refused.EmptyBatch place) f = f
offset_fails_step old name offset now (refused.Limit what most) f = (f.0, f.1.0)
offset_fails_step old name offset now refused.Memory f = tt

offset_failed : (old : ServedState) (name : Option (List ℕ)) (offset now : ℕ) (fault : OfferFault) → IsServed old → OffsetFails old name offset now fault → OffsetAll old name offset now (Err fault) old
offset_failed old name offset now fault h f = record { holds = h; brings = (f, refl); step = (offset_fails_step old name offset now fault f, refl) }

offset_all : (old : ServedState) (h : IsServed old) (name : Option (List ℕ)) (offset now e : ℕ) → running old.state.cluster ≡ Some e → (res : Result Taken OfferFault) (m : MemberState) (r' : ReplicaState) → OffsetGives old.limits (leading old.state.cluster) name offset now res m → r' ≡ led_by m old.state
    → OffsetAll old name offset now res (served old.limits r' (parts_of old))
offset_all old h name offset now e run (Ok t) m r' gives r_is =
    let d = stored_done old h name offset now t e m run gives in
    subst (λ (x : ReplicaState). OffsetAll old name offset now (Ok t) (served old.limits x (parts_of old))) (sym r_is)
    (record { holds = d.holds; brings = record { runs = (e, run); leader = m; added = gives; new_is = refl }; step = d.step })
offset_all old h name offset now e run (Err fault) m r' gives r_is =
    subst (OffsetAll old name offset now (Err fault)) (same_after old r' (parts_of old) m e (runs_so old.state.cluster e h.stream run) r_is gives.1 refl)
    (offset_failed old name offset now fault h (offset_fails old name offset now (e, run) fault gives.0))

module _ (limits : Limits) (r : ReplicaState) (p : PassesState) (old : ServedState) (view : served limits r p ≡ old) (h : IsServed (served limits r p)) (name : Option (List ℕ)) (offset now : ℕ) where
  pub none_runs : running r.cluster ≡ None → OffsetAll old name offset now (Err (refused.Stale 0 0)) old
  none_runs none = let s = served limits r p in subst (λ (o : ServedState). OffsetAll o name offset now (Err (refused.Stale 0 0)) o) view (offset_failed s name offset now (refused.Stale 0 0) h (refl, refl, none))

  pub offset_came_of : (e : ℕ) → running r.cluster ≡ Some e → (res : Result Taken OfferFault) (m : MemberState) (r' : ReplicaState) → OffsetGives limits (leading r.cluster) name offset now res m → r' ≡ led_by m r → OffsetAll old name offset now res (served limits r' p)
  offset_came_of e run res m r' gives r_is = subst (λ (o : ServedState). OffsetAll o name offset now res (served limits r' p)) view (offset_all (served limits r p) h name offset now e run res m r' gives r_is)
