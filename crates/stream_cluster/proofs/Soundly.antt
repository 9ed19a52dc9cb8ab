-- Each event keeps a stream sound.
use Rattle.std.proofs.Common.{◌≡◌, ◌<◌, ◌⊎◌, ℕ, zero, suc, Bool, true, false, cond, not, ◌&&◌, ◌==◌, nat_lt, List, [], length, length-set, inl, inr, refl, sym, ap, subst, ◌∙◌, arith}
use Rattle.std.proofs.lemmas.List.{append-nil}
use Rattle.chunk_format.specs.declared.chunk.Chunk.{Chunk}
use Rattle.chunk_format.specs.Logs.{GoesOn}
use Rattle.replication_laws.specs.Cluster.{ClusterState, IsMember, seat, member}
use Rattle.replication_laws.specs.Events.{Restart}
use Rattle.cluster_core.specs.declared.outcome.Outcome.{Outcome}
use Rattle.cluster_core.specs.declared.outcome.Outcome.TheVariants.{Did, Nothing, Later, Last, Differs, Memory}
use Rattle.cluster_core.specs.States.{ReplicaState, IsStream, Happened, Goes, Gives, IfDid, elect_due, deliver_due, lose_due, done_due, stop_due, reopen_due}
use Rattle.cluster_core.specs.Kept.{after_elect, after_deliver, after_lose, after_forget, after_nudge, after_done, after_stop, after_reopen}
use Rattle.cluster_core.proofs.Streams.{keeps, goes_stream, goes_step, elect_goes, deliver_goes, lose_goes, forget_goes, nudge_goes, done_goes, stop_goes, reopen_goes, grows}
use Rattle.stream_cluster.specs.declared.event.Event.{Event}
use Rattle.stream_cluster.specs.declared.event.Event.TheVariants as events
use Rattle.stream_cluster.specs.Restarts.{is_down, MayHave, after_restart, RestartGives}
use Rattle.stream_cluster.specs.Happens.{StreamState, receipt_due, EventGives}

both : (a b : Bool) → (a && b) ≡ true → (a ≡ true) × (b ≡ true)
both true true h = (refl, refl)
both true false h = absurd (cc h)
both false b h = absurd (cc h)

less : (a b : ℕ) → nat_lt a b ≡ true → a < b
less a b h = grind (arith, h)

turned : (b : Bool) → not b ≡ true → b ≡ false
turned false h = refl
turned true h = absurd (cc h)

-- ---- a member comes up

pub down_is : (w : ClusterState) (i : ℕ) → is_down w (suc i) ≡ true → (i < length w.seats) × ((seat w (suc i)).up ≡ false)
down_is w i d = let p = both (nat_lt i (length w.seats)) (not (seat w (suc i)).up) d in (less i (length w.seats) p.0, turned (seat w (suc i)).up p.1)

pub restart_goes : (now k promise : ℕ) (log : List Chunk) (r : ReplicaState) → is_down r.cluster k ≡ true → MayHave (member r.cluster k) promise log → Goes now r (after_restart k promise log r)
restart_goes now zero promise log r d may = absurd (cc d)
restart_goes now (suc i) promise log r d may =
    let w = r.cluster in
    let p = down_is w i d in
    let lt = p.0 in
    let m : IsMember w (suc i) = (omega arith, omega (arith, lt)) in
    record { same = length-set w.seats i _; step = λ rs. ([], Restart (suc i) promise log m p.1 may.log_is may.promise_is refl) }

restarted : (now k promise : ℕ) (log : List Chunk) (result : Outcome) (old new : ReplicaState) → RestartGives k promise log result old new → IsStream old.cluster → IsStream new.cluster × IfDid result (Happened now old.cluster new.cluster)
restarted now k promise log Did old new g h =
    let go = restart_goes now k promise log old g.0 g.1.0 in (
      subst (λ (r : ReplicaState). IsStream r.cluster) (sym g.1.1) (keeps now old.cluster (after_restart k promise log old).cluster h go.same go.step),
      subst (λ (r : ReplicaState). Happened now old.cluster r.cluster) (sym g.1.1) go.step,
    )
restarted now k promise log Nothing old new g h = (subst (λ (r : ReplicaState). IsStream r.cluster) (sym g.1) h, tt)
restarted now k promise log (Later n) old new g h = absurd g
restarted now k promise log (Last epoch) old new g h = absurd g
restarted now k promise log (Differs a b) old new g h = (subst (λ (r : ReplicaState). IsStream r.cluster) (sym g.1.1.1.1) h, tt)
restarted now k promise log Memory old new g h = (subst (λ (r : ReplicaState). IsStream r.cluster) (sym g) h, tt)

-- ---- any event

goes_both : (now : ℕ) (due result : Outcome) (old new after : ReplicaState) → Gives due result old new after → IsStream old.cluster → (due ≡ Did → Goes now old after) → IsStream new.cluster × IfDid result (Happened now old.cluster new.cluster)
goes_both now due result old new after g h k = (goes_stream now due result old new after g h k, goes_step now due result old new after g k)

received : (b : Bool) (due : Outcome) → cond {A = Outcome} b due Nothing ≡ Did → due ≡ Did
received true due h = h
received false due h = absurd (cc h)

pub event_goes : (event : Event) (now : ℕ) (result : Outcome) (old : StreamState) (new : ReplicaState) → EventGives event now result old new → IsStream old.state.cluster → IsStream new.cluster × IfDid result (Happened now old.state.cluster new.cluster)
event_goes events.Elect now result old new g h = let r = old.state in goes_both now (elect_due r.cluster) result r new (after_elect r) g h (λ d. elect_goes now r h d)
event_goes (events.Deliver number) now result old new g h = let r = old.state in goes_both now (deliver_due number r.cluster) result r new (after_deliver number now r) g h (λ d. deliver_goes now number r d)
event_goes (events.Lose number) now result old new g h = let r = old.state in goes_both now (lose_due number r.cluster) result r new (after_lose number r) g h (λ d. lose_goes now number r d)
event_goes events.Forget now result old new g h = let r = old.state in goes_both now Did result r new (after_forget r) g h (λ d. forget_goes now r)
event_goes events.Nudge now result old new g h = let r = old.state in goes_both now Did result r new (after_nudge r) g h (λ d. nudge_goes now r)
event_goes (events.Done receipt) now result old new g h =
    let r = old.state in
    goes_both now (receipt_due receipt old) result r new (after_done receipt.member r) g h (λ d. done_goes now receipt.member receipt.number r (received (receipt.stream == old.number) (done_due receipt.member receipt.number r) d))
event_goes (events.Stop member) now result old new g h = let r = old.state in goes_both now (stop_due member r.cluster) result r new (after_stop member r) g h (λ d. stop_goes now member r d)
event_goes (events.Restart found) now result old new g h = restarted now found.member found.promise found.chunks result old.state new g h
event_goes (events.Reopen epoch) now result old new g h = let r = old.state in goes_both now (reopen_due epoch r.cluster) result r new (after_reopen epoch r) g h (λ d. reopen_goes now epoch r d)

-- ---- what stays, and what grows

gives_kept : (due result : Outcome) (old new after : ReplicaState) → Gives due result old new after → (result ≡ Did) ⊎ (new ≡ old)
gives_kept due Did old new after g = inl refl
gives_kept due Nothing old new after g = inr g.1
gives_kept due (Later n) old new after g = inr g.1
gives_kept due (Last epoch) old new after g = inr g.1
gives_kept due (Differs a b) old new after g = inr g.1
gives_kept due Memory old new after g = inr g

restart_kept : (k promise : ℕ) (log : List Chunk) (result : Outcome) (old new : ReplicaState) → RestartGives k promise log result old new → (result ≡ Did) ⊎ (new ≡ old)
restart_kept k promise log Did old new g = inl refl
restart_kept k promise log Nothing old new g = inr g.1
restart_kept k promise log (Later n) old new g = absurd g
restart_kept k promise log (Last epoch) old new g = absurd g
restart_kept k promise log (Differs a b) old new g = inr g.1.1.1.1
restart_kept k promise log Memory old new g = inr g

pub event_kept : (event : Event) (now : ℕ) (result : Outcome) (old : StreamState) (new : ReplicaState) → EventGives event now result old new → (result ≡ Did) ⊎ (new ≡ old.state)
event_kept events.Elect now result old new g = let r = old.state in gives_kept (elect_due r.cluster) result r new (after_elect r) g
event_kept (events.Deliver number) now result old new g = let r = old.state in gives_kept (deliver_due number r.cluster) result r new (after_deliver number now r) g
event_kept (events.Lose number) now result old new g = let r = old.state in gives_kept (lose_due number r.cluster) result r new (after_lose number r) g
event_kept events.Forget now result old new g = let r = old.state in gives_kept Did result r new (after_forget r) g
event_kept events.Nudge now result old new g = let r = old.state in gives_kept Did result r new (after_nudge r) g
event_kept (events.Done receipt) now result old new g = let r = old.state in gives_kept (receipt_due receipt old) result r new (after_done receipt.member r) g
event_kept (events.Stop member) now result old new g = let r = old.state in gives_kept (stop_due member r.cluster) result r new (after_stop member r) g
event_kept (events.Restart found) now result old new g = restart_kept found.member found.promise found.chunks result old.state new g
event_kept (events.Reopen epoch) now result old new g = let r = old.state in gives_kept (reopen_due epoch r.cluster) result r new (after_reopen epoch r) g

-- the committed list only grows
pub event_grows : (event : Event) (now : ℕ) (result : Outcome) (old : StreamState) (new : ReplicaState) → EventGives event now result old new → IsStream old.state.cluster → GoesOn old.state.cluster.committed new.cluster.committed
event_grows event now result old new g h = by (event_kept event now result old new g)
  where
    by : (result ≡ Did) ⊎ (new ≡ old.state) → GoesOn old.state.cluster.committed new.cluster.committed
    by (inl d) =
        let step = subst (λ (o : Outcome). IfDid o (Happened now old.state.cluster new.cluster)) d (event_goes event now result old new g h).1 in
        grows now old.state.cluster new.cluster h step
    by (inr e) = ([], ap (λ (r : ReplicaState). r.cluster.committed) e ∙ sym (append-nil old.state.cluster.committed))
