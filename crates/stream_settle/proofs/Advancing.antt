-- A settle comes from one stream to the next by its steps.
use Rattle.std.proofs.Common.{◌≡◌, ◌≢◌, ◌⊎◌, inl, inr, ℕ, zero, suc, List, [], ◌∷◌, ◌++◌, length, Option, Some, None, refl, sym, ap, ◌∙◌, subst}
use Rattle.epoch_coordinator.specs.declared.message.Message.{Message}
use Rattle.epoch_coordinator.specs.declared.message.Message.TheVariants as messages
use Rattle.epoch_coordinator.specs.declared.message.Sent.{Sent}
use Rattle.replication_laws.specs.Cluster.{ClusterState, letter_in, marked}
use Rattle.replication_laws.specs.Events.{to_coordinator, comes, begins, performed, goes_down}
use Rattle.replication_laws.proofs.Sounds.{count_put}
use Rattle.settling_laws.specs.Settling.{Answer, Receipt, Fault, answered, Stage, Jobs, Letters, Rest, Turn, bare, turn, SettleStep, Perform, Nudge, Follow_up, Deliver, Forget, next_job, next_letter}
use Rattle.settling_laws.proofs.Stepping.{none_yet, and_then}
use Rattle.segment_store.specs.Receipts.{JobDone}
use Rattle.cluster_core.specs.declared.outcome.Outcome.{Outcome}
use Rattle.cluster_core.specs.declared.outcome.Outcome.TheVariants.{Did}
use Rattle.cluster_core.specs.States.{ReplicaState, IfDid, reigned, deliver_by}
use Rattle.cluster_core.specs.Kept.{delivered_by}
use Rattle.stream_cluster.specs.declared.event.Event.{Event}
use Rattle.stream_cluster.specs.declared.event.Event.TheVariants as events
use Rattle.stream_cluster.specs.Happens.{EventGives}
use Rattle.stream_cluster.specs.Served.{ServedState, Moves, members_of}
use Rattle.stream_settle.specs.declared.settled.Settled.{Settled}
use Rattle.stream_settle.specs.declared.settled.Settled.TheVariants as settled
use Rattle.stream_settle.specs.Settles.{MovesBy, last_of, Moving, Progress, SameStream, Leads, Advances, TurnedBy, IsAtRest}

-- ---- reigns stand apart

bare_to : (message : Message) (w : ClusterState) → bare (to_coordinator message (bare w)) ≡ bare (to_coordinator message w)
bare_to (messages.Stopped epoch from tail) w = refl
bare_to (messages.Stop epoch) w = refl
bare_to (messages.Open epoch) w = refl
bare_to (messages.Follow epoch leader) w = refl
bare_to (messages.Shape epoch runs) w = refl
bare_to (messages.Ask epoch from tail) w = refl
bare_to (messages.Append epoch previous chunk) w = refl

bare_comes : (now k : ℕ) (message : Message) (w : ClusterState) → bare (comes now k message (bare w)) ≡ bare (comes now k message w)
bare_comes now zero message w = bare_to message w
bare_comes now (suc i) message w = refl

bare_begins : (j : Option ℕ) (w : ClusterState) → bare (begins j (bare w)) ≡ bare (begins j w)
bare_begins None w = refl
bare_begins (Some epoch) w = refl

bare_performed : (k : ℕ) (w : ClusterState) → bare (performed k (bare w)) ≡ bare (performed k w)
bare_performed zero w = bare_begins w.coordinator.job w
bare_performed (suc i) w = refl

bare_down : (k : ℕ) (w : ClusterState) → bare (goes_down k (bare w)) ≡ bare (goes_down k w)
bare_down zero w = refl
bare_down (suc i) w = refl

bare_answered : (a : Answer) (k : ℕ) (w : ClusterState) → bare (answered a k (bare w)) ≡ bare (answered a k w)
bare_answered Receipt k w = bare_performed k w
bare_answered Fault k w = bare_down k w

at_stage : Stage → ClusterState → Turn
at_stage stage w = record { stage = stage; cluster = w }

-- ---- members stay as many

seats_to : (message : Message) (w : ClusterState) → length (to_coordinator message w).seats ≡ length w.seats
seats_to (messages.Stopped epoch from tail) w = refl
seats_to (messages.Stop epoch) w = refl
seats_to (messages.Open epoch) w = refl
seats_to (messages.Follow epoch leader) w = refl
seats_to (messages.Shape epoch runs) w = refl
seats_to (messages.Ask epoch from tail) w = refl
seats_to (messages.Append epoch previous chunk) w = refl

seats_comes : (now k : ℕ) (message : Message) (w : ClusterState) → length (comes now k message w).seats ≡ length w.seats
seats_comes now zero message w = seats_to message w
seats_comes now (suc i) message w = count_put (suc i) _ w.seats

seats_begins : (j : Option ℕ) (w : ClusterState) → length (begins j w).seats ≡ length w.seats
seats_begins None w = refl
seats_begins (Some epoch) w = refl

seats_answered : (a : Answer) (k : ℕ) (w : ClusterState) → length (answered a k w).seats ≡ length w.seats
seats_answered Receipt zero w = seats_begins w.coordinator.job w
seats_answered Receipt (suc i) w = count_put (suc i) _ w.seats
seats_answered Fault zero w = refl
seats_answered Fault (suc i) w = count_put (suc i) _ w.seats

-- ---- steps

abbrev IsUnderWay : Stage → Type 0
IsUnderWay Jobs = Unit {0}
IsUnderWay Letters = Unit {0}
IsUnderWay Rest = ⊥

step_job : (now : ℕ) (stage : Stage) (a : Answer) (k : ℕ) (w w' : ClusterState) → IsUnderWay stage → next_job w ≡ Some k → w' ≡ reigned [] (answered a k w) → SettleStep now (turn stage w) (turn stage w')
unfolding at_stage
step_job now Jobs a k w w' under due is = Perform k a refl due (ap (turn Jobs) is ∙ ap (at_stage Jobs) (sym (bare_answered a k w)))
step_job now Letters a k w w' under due is = Follow_up k a refl due (ap (turn Letters) is ∙ ap (at_stage Letters) (sym (bare_answered a k w)))
step_job now Rest a k w w' under due is = absurd under

step_letter : (now number : ℕ) (o : Option Sent) (w w' : ClusterState) → next_job w ≡ None → next_letter w ≡ Some number → letter_in number w.mail ≡ o → deliver_by o w ≡ Did
    → w' ≡ reigned [] (delivered_by o number now w) → SettleStep now (turn Letters w) (turn Letters w')
unfolding at_stage
step_letter now number None w w' none next at due is = absurd (cc due)
step_letter now number (Some s) w w' none next at due is =
    Deliver number s refl none next at (ap (turn Letters) is ∙ ap (at_stage Letters) (sym (bare_comes now s.to s.message (record w { mail = marked number w.mail }))))

seats_letter : (now number : ℕ) (o : Option Sent) (w : ClusterState) → length (delivered_by o number now w).seats ≡ length w.seats
seats_letter now number None w = refl
seats_letter now number (Some s) w = seats_comes now s.to s.message (record w { mail = marked number w.mail })

-- ---- moves, one behind the other

moves_more : (s x y : ServedState) (states : List ServedState) → MovesBy s states → last_of s states ≡ x → Moves x y → MovesBy s (states ++ y ∷ [])
moves_more s x y [] moves e step = (subst (λ (z : ServedState). Moves z y) (sym e) step, tt)
moves_more s x y (z ∷ zs) moves e step = (moves.0, moves_more z x y zs moves.1 e step)

last_more : (s y : ServedState) (states : List ServedState) → last_of s (states ++ y ∷ []) ≡ y
last_more s y [] = refl
last_more s y (z ∷ zs) = last_more z y zs

moved_on : (start old new : ServedState) → Moving start old → Moves old new → Moving start new
moved_on start old new m step = record { states = m.states ++ new ∷ []; moves = moves_more start old new m.states m.moves m.ends step; ends = last_more start new m.states }

pub begins_here : (now : ℕ) (s : ServedState) → Progress now Jobs s s
begins_here now s = record { steps = none_yet now (turn Jobs s.state.cluster); moving = record { states = []; moves = tt; ends = refl } }

progress_on : (now : ℕ) (from to : Stage) (start old new : ServedState) → SettleStep now (turn from old.state.cluster) (turn to new.state.cluster) → Moves old new → Progress now from start old → Progress now to start new
progress_on now from to start old new step moves p =
    record { steps = and_then now (turn Jobs start.state.cluster) (turn from old.state.cluster) (turn to new.state.cluster) p.steps step; moving = moved_on start old new p.moving moves }

stays : (now : ℕ) (stage : Stage) (start old new : ServedState) → new ≡ old → Progress now stage start old → Progress now stage start new
stays now stage start old new e p = subst (λ (s : ServedState). Progress now stage start s) (sym e) p

pub unmoved : (old new : ServedState) → new ≡ old → SameStream old new
unmoved old new e = record { number = ap (λ (s : ServedState). s.number) e; seats = ap (λ (s : ServedState). length s.state.cluster.seats) e }

pub same_then : (a b c : ServedState) → SameStream a b → SameStream b c → SameStream a c
same_then a b c first second = record { number = second.number ∙ first.number; seats = second.seats ∙ first.seats }

-- ---- what an event of a settle comes to

pub turned_by : (event : Event) (now : ℕ) (o : Outcome) (result : Settled) (old new : ServedState) → (result ≡ settled.Did → o ≡ Did) → (result ≡ settled.Memory → o ≢ Did)
    → EventGives event now o (members_of old) new.state → IfDid o (Moves old new) → (o ≡ Did) ⊎ (new ≡ old) → new.number ≡ old.number
    → TurnedBy (EventGives event now Did (members_of old) new.state) result old new
turned_by event now o result old new did not gives moves same number = record {
  did = λ e. subst (λ (x : Outcome). EventGives event now x (members_of old) new.state) (did e) gives;
  moved = λ e. subst (λ (x : Outcome). IfDid x (Moves old new)) (did e) moves;
  number = number;
  memory = λ e. elim same [ inl d ↦ absurd (not e d) | inr s ↦ s ];
}

pub leads_same : (now : ℕ) (stage : Stage) (old new : ServedState) → new ≡ old → Leads now stage stage old new
leads_same now stage old new e = record { on = λ start p. stays now stage start old new e p }

pub rests : (now : ℕ) (old new : ServedState) → new ≡ old → Advances now old new
rests now old new e = record { before = leads_same now Jobs old new e; behind = leads_same now Letters old new e }

answer_leads : (now : ℕ) (stage : Stage) (k : ℕ) (a : Answer) (old new : ServedState) → IsUnderWay stage → next_job old.state.cluster ≡ Some k → new.state.cluster ≡ reigned [] (answered a k old.state.cluster) → Moves old new → Leads now stage stage old new
answer_leads now stage k a old new under due is moves = record { on = λ start p. progress_on now stage stage start old new (step_job now stage a k old.state.cluster new.state.cluster under due is) moves p }

answer_is : (now k : ℕ) (a : Answer) (old new : ServedState) → next_job old.state.cluster ≡ Some k → new.state.cluster ≡ reigned [] (answered a k old.state.cluster) → Moves old new → Advances now old new
answer_is now k a old new due is moves = record { before = answer_leads now Jobs k a old new tt due is moves; behind = answer_leads now Letters k a old new tt due is moves }

answer_same : (k : ℕ) (a : Answer) (old new : ServedState) → new.state.cluster ≡ reigned [] (answered a k old.state.cluster) → new.number ≡ old.number → SameStream old new
answer_same k a old new is number = record { number = number; seats = ap (λ (w : ClusterState). length w.seats) is ∙ seats_answered a k old.state.cluster }

cluster_is : (a : Answer) (k m : ℕ) (old new : ServedState) → m ≡ k → new.state.cluster ≡ reigned [] (answered a m old.state.cluster) → new.state.cluster ≡ reigned [] (answered a k old.state.cluster)
cluster_is a k m old new e is = is ∙ ap (λ (n : ℕ). reigned [] (answered a n old.state.cluster)) e

-- the receipt of the job of least number
pub done_advances : (now k : ℕ) (r : JobDone) (result : Settled) (old new : ServedState) → r.member ≡ k → next_job old.state.cluster ≡ Some k → TurnedBy (EventGives (events.Done r) now Did (members_of old) new.state) result old new → Advances now old new
done_advances now k r settled.Did old new of due t = answer_is now k Receipt old new due (cluster_is Receipt k r.member old new of (ap (λ (x : ReplicaState). x.cluster) (t.did refl).1)) (t.moved refl)
done_advances now k r settled.Memory old new of due t = rests now old new (t.memory refl)

pub done_same : (now : ℕ) (r : JobDone) (result : Settled) (old new : ServedState) → TurnedBy (EventGives (events.Done r) now Did (members_of old) new.state) result old new → SameStream old new
done_same now r settled.Did old new t = answer_same r.member Receipt old new (ap (λ (x : ReplicaState). x.cluster) (t.did refl).1) t.number
done_same now r settled.Memory old new t = unmoved old new (t.memory refl)

-- the stop of who has the job of least number
pub stop_advances : (now k : ℕ) (result : Settled) (old new : ServedState) → next_job old.state.cluster ≡ Some k → TurnedBy (EventGives (events.Stop k) now Did (members_of old) new.state) result old new → Advances now old new
stop_advances now k settled.Did old new due t = answer_is now k Fault old new due (ap (λ (x : ReplicaState). x.cluster) (t.did refl).1) (t.moved refl)
stop_advances now k settled.Memory old new due t = rests now old new (t.memory refl)

pub stop_same : (now k : ℕ) (result : Settled) (old new : ServedState) → TurnedBy (EventGives (events.Stop k) now Did (members_of old) new.state) result old new → SameStream old new
stop_same now k settled.Did old new t = answer_same k Fault old new (ap (λ (x : ReplicaState). x.cluster) (t.did refl).1) t.number
stop_same now k settled.Memory old new t = unmoved old new (t.memory refl)

-- the message of least number
pub letter_leads : (now number : ℕ) (result : Settled) (old new : ServedState) → next_job old.state.cluster ≡ None → next_letter old.state.cluster ≡ Some number
    → TurnedBy (EventGives (events.Deliver number) now Did (members_of old) new.state) result old new → Leads now Letters Letters old new
letter_leads now number settled.Did old new none next t =
    let w = old.state.cluster in
    let gives = t.did refl in
    record { on = λ start p. progress_on now Letters Letters start old new (step_letter now number (letter_in number w.mail) w new.state.cluster none next refl gives.0 (ap (λ (x : ReplicaState). x.cluster) gives.1)) (t.moved refl) p }
letter_leads now number settled.Memory old new none next t = leads_same now Letters old new (t.memory refl)

pub letter_same : (now number : ℕ) (result : Settled) (old new : ServedState) → TurnedBy (EventGives (events.Deliver number) now Did (members_of old) new.state) result old new → SameStream old new
letter_same now number settled.Did old new t =
    let w = old.state.cluster in
    record { number = t.number; seats = ap (λ (x : ReplicaState). length x.cluster.seats) (t.did refl).1 ∙ seats_letter now number (letter_in number w.mail) w }
letter_same now number settled.Memory old new t = unmoved old new (t.memory refl)

-- one nudge
pub nudge_leads : (now : ℕ) (result : Settled) (old new : ServedState) → next_job old.state.cluster ≡ None → TurnedBy (EventGives events.Nudge now Did (members_of old) new.state) result old new
    → result ≡ settled.Did → Leads now Jobs Letters old new
nudge_leads now result old new none t did = record { on = λ start p. progress_on now Jobs Letters start old new (Nudge refl none (ap (turn Letters) (ap (λ (x : ReplicaState). x.cluster) (t.did did).1))) (t.moved did) p }

pub nudge_same : (now : ℕ) (result : Settled) (old new : ServedState) → TurnedBy (EventGives events.Nudge now Did (members_of old) new.state) result old new → SameStream old new
nudge_same now settled.Did old new t = record { number = t.number; seats = ap (λ (x : ReplicaState). length x.cluster.seats) (t.did refl).1 }
nudge_same now settled.Memory old new t = unmoved old new (t.memory refl)

-- and all is forgotten
pub forget_leads : (now : ℕ) (result : Settled) (old new : ServedState) → next_job old.state.cluster ≡ None → next_letter old.state.cluster ≡ None → TurnedBy (EventGives events.Forget now Did (members_of old) new.state) result old new
    → result ≡ settled.Did → Leads now Letters Rest old new
forget_leads now result old new none next t did = record { on = λ start p. progress_on now Letters Rest start old new (Forget refl none next (ap (turn Rest) (ap (λ (x : ReplicaState). x.cluster) (t.did did).1))) (t.moved did) p }

pub forget_rests : (now : ℕ) (result : Settled) (old new : ServedState) → next_job old.state.cluster ≡ None → TurnedBy (EventGives events.Forget now Did (members_of old) new.state) result old new
    → result ≡ settled.Did → IsAtRest new.state.cluster
forget_rests now result old new none t did =
    let is = ap (λ (x : ReplicaState). x.cluster) (t.did did).1 in
    record { jobs = ap next_job is ∙ none; mail = ap (λ (x : ClusterState). x.mail) is; last = ap (λ (x : ClusterState). x.last) is }

pub forget_same : (now : ℕ) (result : Settled) (old new : ServedState) → TurnedBy (EventGives events.Forget now Did (members_of old) new.state) result old new → SameStream old new
forget_same now settled.Did old new t = record { number = t.number; seats = ap (λ (x : ReplicaState). length x.cluster.seats) (t.did refl).1 }
forget_same now settled.Memory old new t = unmoved old new (t.memory refl)

-- ---- one behind the other

pub leads_then : (now : ℕ) (from by to : Stage) (a b c : ServedState) → Leads now from by a b → Leads now by to b c → Leads now from to a c
leads_then now from by to a b c first second = record { on = λ start p. second.on start (first.on start p) }

pub advances_then : (now : ℕ) (a b c : ServedState) → Advances now a b → Advances now b c → Advances now a c
advances_then now a b c first second = record { before = leads_then now Jobs Jobs Jobs a b c first.before second.before; behind = leads_then now Letters Letters Letters a b c first.behind second.behind }

-- a settle so far
pub came : (now : ℕ) (to : Stage) (a b : ServedState) → Leads now Jobs to a b → Progress now to a b
came now to a b leads = leads.on a (begins_here now a)

-- the jobs, the nudge and the messages
pub so_far : (now : ℕ) (a b c d : ServedState) → Advances now a b → Leads now Jobs Letters b c → Leads now Letters Letters c d → Progress now Letters a d
so_far now a b c d jobs one letters = came now Letters a d (leads_then now Jobs Letters Letters a c d (leads_then now Jobs Jobs Letters a b c jobs.before one) letters)

-- and all to its end
pub to_the_end : (now : ℕ) (a d e : ServedState) → Progress now Letters a d → Leads now Letters Rest d e → Progress now Rest a e
to_the_end now a d e far last = last.on a far

-- whether it came to its end or not
pub however : (now : ℕ) (result : Settled) (a d e : ServedState) → Progress now Letters a d → (result ≡ settled.Did → Leads now Letters Rest d e) → (result ≡ settled.Memory → e ≡ d) → (stage : Stage) × Progress now stage a e
however now settled.Did a d e far did same = (Rest, to_the_end now a d e far (did refl))
however now settled.Memory a d e far did same = (Letters, stays now Letters a d e (same refl) far)
