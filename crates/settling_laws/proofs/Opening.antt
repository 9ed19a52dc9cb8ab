-- Where everyone is up an election ends in an open leader, or in one that can't open.
use Rattle.std.proofs.Common.{◌≡◌, ℕ, ◌<◌, ◌⊎◌, List, [], ◌∷◌, ◌++◌, length, refl, sym, ap, ◌∙◌, subst, inl, inr, arith, Option, Some, None, true, false, zero, suc}
use Rattle.std.proofs.lemmas.Bool.{cases_eq}
use Rattle.chunk_format.specs.Logs.{Truthful}
use Rattle.epoch_coordinator.specs.declared.message.Message.{Message}
use Rattle.epoch_coordinator.specs.declared.message.Message.TheVariants as messages
use Rattle.epoch_coordinator.specs.declared.message.Sent.{Sent}
use Rattle.epoch_coordinator.specs.Members.{Stopped}
use Rattle.epoch_coordinator.specs.MemberSteps.{Took, finished, taken}
use Rattle.replication_laws.specs.Cluster.{Seat, Reign, ClusterState, seat, member, IsMember, last_number, send, letter_in, marked, is_opened, RunsWith}
use Rattle.replication_laws.specs.Events.{IsFree, took, comes, begins, performed, to_coordinator, nudges}
use Rattle.replication_laws.specs.Properties.{SoundWith}
use Rattle.replication_laws.proofs.Sounds.{seat_put, count_put}
use Rattle.settling_laws.specs.Settling.{is_up, next_job, next_letter, Answer, Receipt, Fault, answered, Jobs, Letters, Rest, Turn, bare, turn, SettleStep, Perform, Nudge, Follow_up, Deliver, Forget, last_turn, with_reigns}
use Rattle.settling_laws.specs.Measures.{IsInOrder}
use Rattle.settling_laws.specs.Tokens.{Running_by, IsStuck}
use Rattle.settling_laws.specs.Electing.{Electing_in, Elects_next, HasCalls, IsLost}
use Rattle.settling_laws.specs.Clean.{IsPerformed, CleanStep, CleanSteps}
use Rattle.settling_laws.proofs.Nexts.{JobOf, Of_coordinator, Of_member, job_of, up_is, free_is, due_is}
use Rattle.settling_laws.proofs.Mails.{due_with}
use Rattle.settling_laws.proofs.Evented.{comes_apart, performed_apart, free_with}
use Rattle.settling_laws.proofs.Ending.{at_rest}
use Rattle.settling_laws.proofs.Known.{leader_opened}
use Rattle.settling_laws.proofs.Bringing.{seat_same}
use Rattle.settling_laws.proofs.Resting.{followed}
use Rattle.settling_laws.proofs.Completing.{Brought, Going, Onward, Goes, Ends, onward}
use Rattle.settling_laws.proofs.Voting.{Voting, Votes, Still_votes, Now_runs, Now_lost, Votes_end, votes, Called, Calls, Still_called, Now_votes, calls, nudge_word}
use Rattle.settling_laws.proofs.Calling.{calls_delivered, calls_done, calls_quiet, calls_told, nudge_calls, elects_on}

-- ---- everyone stays up

-- it is so where nobody stops
abbrev AllUp : ClusterState → Type 0
AllUp w = (i : ℕ) → i < length w.seats → (seat w (suc i)).up ≡ true

up_took : (w : ClusterState) (j : ℕ) (t : Took) → IsMember w j → AllUp w → AllUp (took j t w)
up_took w j t mk all i lt = elim (cases_eq (suc i) j) [
  | inl eq ↦ subst (λ (x : ℕ). (seat (took j t w) x).up ≡ true) (sym eq) (ap (λ (s : Seat). s.up) (seat_put w j (record { up = true; state = t.state }) mk))
  | inr ne ↦ ap (λ (s : Seat). s.up) (seat_same w j (suc i) t ne) ∙ all i (let c = count_put j (record { up = true; state = t.state }) w.seats in omega (arith, lt, c))
]

up_to : (msg : Message) (w : ClusterState) → AllUp w → AllUp (to_coordinator msg w)
up_to (messages.Stopped x from u) w all = all
up_to (messages.Stop x) w all = all
up_to (messages.Open x) w all = all
up_to (messages.Follow x f) w all = all
up_to (messages.Shape x runs) w all = all
up_to (messages.Ask x from u) w all = all
up_to (messages.Append x u c) w all = all

up_comes : (now k : ℕ) (msg : Message) (w : ClusterState) → IsFree w k → AllUp w → AllUp (comes now k msg w)
up_comes now zero msg w free all = up_to msg w all
up_comes now (suc i) msg w free all = up_took w (suc i) (taken now msg (member w (suc i))) free.0.0 all

up_begins : (j : Option ℕ) (w : ClusterState) → AllUp w → AllUp (begins j w)
up_begins None w all = all
up_begins (Some e) w all = all

up_performed : (w : ClusterState) (k : ℕ) → JobOf w k → AllUp w → AllUp (performed k w)
up_performed w k (Of_coordinator epoch is up job) all = subst (λ (x : ℕ). AllUp (performed x w)) (sym is) (up_begins w.coordinator.job w all)
up_performed w k (Of_member i is up some) all = subst (λ (x : ℕ). AllUp (performed x w)) (sym is) (up_took w (suc i) (finished (member w (suc i))) up.0 all)

free_of : (t : Turn) (n : ℕ) (s : Sent) → IsInOrder t.cluster → next_job t.cluster ≡ None → next_letter t.cluster ≡ Some n → letter_in n t.cluster.mail ≡ Some s → IsFree t.cluster s.to
free_of t n s order none next is =
    let d = due_is t.cluster 0 t.cluster.mail t.cluster.last n order.rising next in
    let ds : d.sent ≡ s = (let z : Some d.sent ≡ Some s = sym d.is ∙ is in cc z) in
    free_is t.cluster s.to none (up_is t.cluster s.to (ap (λ (y : Sent). is_up t.cluster y.to) (sym ds) ∙ d.up))

free_marked : (w : ClusterState) (n k : ℕ) → IsFree w k → IsFree (record w { mail = marked n w.mail }) k
free_marked w n zero f = f
free_marked w n (suc i) f = f

up_step : (now : ℕ) (t x : Turn) → IsInOrder t.cluster → (s : SettleStep now t x) → IsPerformed s → AllUp t.cluster → AllUp x.cluster
up_step now t x order (Perform k Fault st next eq) p all = absurd p
up_step now t x order (Perform k Receipt st next eq) p all = subst (λ (y : Turn). AllUp y.cluster) (sym eq) (up_performed t.cluster k (job_of t.cluster k next) all)
up_step now t x order (Nudge st next eq) p all = subst (λ (y : Turn). AllUp y.cluster) (sym eq) all
up_step now t x order (Follow_up k Fault st next eq) p all = absurd p
up_step now t x order (Follow_up k Receipt st next eq) p all = subst (λ (y : Turn). AllUp y.cluster) (sym eq) (up_performed t.cluster k (job_of t.cluster k next) all)
up_step now t x order (Deliver n s st none next is eq) p all =
    subst (λ (y : Turn). AllUp y.cluster) (sym eq)
    (up_comes now s.to s.message (record t.cluster { mail = marked n t.cluster.mail }) (free_marked t.cluster n s.to (free_of t n s order none next is)) all)
up_step now t x order (Forget st none next eq) p all = subst (λ (y : Turn). AllUp y.cluster) (sym eq) all

count_comes : (now k : ℕ) (msg : Message) (w : ClusterState) → length (comes now k msg w).seats ≡ length w.seats
count_comes now zero msg w = to msg
  where
    to : (msg : Message) → length (to_coordinator msg w).seats ≡ length w.seats
    to (messages.Stopped x from u) = refl
    to (messages.Stop x) = refl
    to (messages.Open x) = refl
    to (messages.Follow x f) = refl
    to (messages.Shape x runs) = refl
    to (messages.Ask x from u) = refl
    to (messages.Append x u c) = refl
count_comes now (suc i) msg w = count_put (suc i) (record { up = true; state = (taken now msg (member w (suc i))).state }) w.seats

count_answered : (a : Answer) (k : ℕ) (w : ClusterState) → length (answered a k w).seats ≡ length w.seats
count_answered Receipt zero w = begun w.coordinator.job
  where
    begun : (j : Option ℕ) → length (begins j w).seats ≡ length w.seats
    begun None = refl
    begun (Some e) = refl
count_answered Receipt (suc i) w = count_put (suc i) (record { up = true; state = (finished (member w (suc i))).state }) w.seats
count_answered Fault zero w = refl
count_answered Fault (suc i) w = count_put (suc i) (record { up = false; state = record (member w (suc i)) { role = Stopped } }) w.seats

steps_count : (now : ℕ) (t x : Turn) → IsInOrder t.cluster → SettleStep now t x → length x.cluster.seats ≡ length t.cluster.seats
steps_count now t x order (Perform k a st next eq) = ap (λ (y : Turn). length y.cluster.seats) eq ∙ count_answered a k t.cluster
steps_count now t x order (Nudge st next eq) = ap (λ (y : Turn). length y.cluster.seats) eq
steps_count now t x order (Follow_up k a st next eq) = ap (λ (y : Turn). length y.cluster.seats) eq ∙ count_answered a k t.cluster
steps_count now t x order (Deliver n s st none next is eq) = ap (λ (y : Turn). length y.cluster.seats) eq ∙ count_comes now s.to s.message (record t.cluster { mail = marked n t.cluster.mail })
steps_count now t x order (Forget st none next eq) = ap (λ (y : Turn). length y.cluster.seats) eq

-- ---- calls along the run

calls_with : (reigns : List Reign) (w : ClusterState) (e : ℕ) → HasCalls w e → HasCalls (with_reigns reigns w) e
calls_with reigns w e h = record { all_up = h.all_up; called = h.called; vote = h.vote }

calls_without : (reigns : List Reign) (w : ClusterState) (e : ℕ) → HasCalls (with_reigns reigns w) e → HasCalls w e
calls_without reigns w e h = record { all_up = h.all_up; called = h.called; vote = h.vote }

calls_next : (o e now : ℕ) (t x : Turn) → Voting o e t → HasCalls t.cluster e → CleanStep now t x → Voting o e x → HasCalls x.cluster e
calls_next o e now t x h hc c v = go c.step c.performed
  where
    w : ClusterState
    w = with_reigns h.reigns t.cluster

    hw : HasCalls w e
    hw = calls_with h.reigns t.cluster e hc

    works : (k : ℕ) → JobOf w k → HasCalls (performed k w) e
    works k (Of_coordinator epoch is up job) = absurd (let z : Some epoch ≡ None = sym job ∙ h.words.elects.idle in cc z)
    works k (Of_member i is up some) = subst (λ (y : ℕ). HasCalls (performed y w) e) (sym is) (calls_done h.sound.tree w o e (suc i) h.sound.sound hw h.words.elects.epoch_is up.0)

    delivers : (n : ℕ) (s : Sent) → letter_in n w.mail ≡ Some s → (k : ℕ) → s.to ≡ k → IsFree w k → (msg : Message) → s.message ≡ msg → Electing_in (comes now k msg (record w { mail = marked n w.mail })) e
        → HasCalls (comes now k msg (record w { mail = marked n w.mail })) e
    delivers n s is (suc i) to free msg eq el = subst (λ (m : Message). HasCalls (took (suc i) (taken now m (member w (suc i))) (record w { mail = marked n w.mail })) e) eq
        (calls_delivered h.sound.tree w o now n e (suc i) s h.sound.sound hw h.words.elects.epoch_is free.0.0 free.1 is to)
    delivers n s is zero to free (messages.Stopped q from u) eq el = calls_told h.sound.tree w o n e q from u s h.sound.sound h.words.elects hw is to eq el
    delivers n s is zero to free (messages.Stop q) eq el = calls_quiet w n e s hw is to (λ k y z. (let r = sym eq ∙ z in cc r))
    delivers n s is zero to free (messages.Open q) eq el = calls_quiet w n e s hw is to (λ k y z. (let r = sym eq ∙ z in cc r))
    delivers n s is zero to free (messages.Follow q f) eq el = calls_quiet w n e s hw is to (λ k y z. (let r = sym eq ∙ z in cc r))
    delivers n s is zero to free (messages.Shape q runs) eq el = calls_quiet w n e s hw is to (λ k y z. (let r = sym eq ∙ z in cc r))
    delivers n s is zero to free (messages.Ask q from u) eq el = calls_quiet w n e s hw is to (λ k y z. (let r = sym eq ∙ z in cc r))
    delivers n s is zero to free (messages.Append q u d) eq el = calls_quiet w n e s hw is to (λ k y z. (let r = sym eq ∙ z in cc r))

    go : (s : SettleStep now t x) → IsPerformed s → HasCalls x.cluster e
    go (Perform k a s next eq) p = absurd (let z = sym s ∙ h.stage in cc z)
    go (Nudge s next eq) p = absurd (let z = sym s ∙ h.stage in cc z)
    go (Follow_up k Fault s next eq) p = absurd p
    go (Follow_up k Receipt s next eq) p =
        let same : with_reigns h.reigns x.cluster ≡ performed k w = ap (λ (y : Turn). with_reigns h.reigns y.cluster) eq ∙ sym (performed_apart h.reigns k t.cluster) in
        calls_without h.reigns x.cluster e (subst (λ (y : ClusterState). HasCalls y e) (sym same) (works k (job_of w k next)))
    go (Deliver n s st none next is eq) p =
        let w1 : ClusterState = record w { mail = marked n w.mail } in
        let a = comes_apart h.reigns now s.to s.message (record t.cluster { mail = marked n t.cluster.mail }) in
        let same : with_reigns (a.0 ++ h.reigns) x.cluster ≡ comes now s.to s.message w1 = ap (λ (y : Turn). with_reigns (a.0 ++ h.reigns) y.cluster) eq ∙ sym a.1 in
        let free = free_with h.reigns t.cluster s.to (free_of t n s h.order none next is) in
        let v1 = v.words.elects in
        let el : Electing_in (with_reigns (a.0 ++ h.reigns) x.cluster) e = record { coordinator_up = v1.coordinator_up; phase = v1.phase; epoch_is = v1.epoch_is; idle = v1.idle } in
        calls_without (a.0 ++ h.reigns) x.cluster e (subst (λ (y : ClusterState). HasCalls y e) (sym same) (delivers n s is s.to refl free s.message refl (subst (λ (y : ClusterState). Electing_in y e) same el)))
    go (Forget st none next eq) p = absurd (let z : Rest ≡ Letters = sym (ap (λ (y : Turn). y.stage) eq) ∙ v.stage in cc z)

-- ---- what an election ends in

-- an epoch runs with its open leader, or its leader can't open
abbrev pub Outcome : ClusterState → ℕ → Type 0
Outcome w e = (l : ℕ) × (RunsWith w e l ⊎ IsStuck w e l)

outcome_bare : (w w' : ClusterState) (e l : ℕ) → bare w ≡ bare w' → RunsWith w e l ⊎ IsStuck w e l → RunsWith w' e l ⊎ IsStuck w' e l
outcome_bare w w' e l same (inl r) =
    let z : RunsWith (bare w) e l = record { coordinated = r.coordinated; phase = r.phase; epoch_is = r.epoch_is; is_member = r.is_member; leader_up = r.leader_up; promised = r.promised; is_open = r.is_open } in
    let y = subst (λ (q : ClusterState). RunsWith q e l) same z in
    inl (record { coordinated = y.coordinated; phase = y.phase; epoch_is = y.epoch_is; is_member = y.is_member; leader_up = y.leader_up; promised = y.promised; is_open = y.is_open })
outcome_bare w w' e l same (inr r) =
    let z : IsStuck (bare w) e l = record { runs = runs_as r.runs; stopped = r.stopped; cannot = r.cannot } in
    let y = subst (λ (q : ClusterState). IsStuck q e l) same z in
    inr (record { runs = runs_of y.runs; stopped = y.stopped; cannot = y.cannot })
  where
    runs_as : Running_by w e l → Running_by (bare w) e l
    runs_as r = record { coordinator_up = r.coordinator_up; phase = r.phase; epoch_is = r.epoch_is; idle = r.idle; is_member = r.is_member; leader_up = r.leader_up; promised = r.promised }

    runs_of : Running_by (bare w') e l → Running_by w' e l
    runs_of r = record { coordinator_up = r.coordinator_up; phase = r.phase; epoch_is = r.epoch_is; idle = r.idle; is_member = r.is_member; leader_up = r.leader_up; promised = r.promised }

last_is : (now : ℕ) (x : Turn) (xs : List Turn) → x.stage ≡ Rest → CleanSteps now x xs → last_turn x xs ≡ x
last_is now x [] r s = refl
last_is now x (y ∷ ys) r s = absurd (at_rest now x y r s.0.step)

run_opens : (o e l low now : ℕ) (t : Turn) (turns : List Turn) (w' : ClusterState) → Going o e l low t → CleanSteps now t turns → last_turn t turns ≡ turn Rest w' → RunsWith w' e l ⊎ IsStuck w' e l
run_opens o e l low now t [] w' h steps ends = absurd (let z : Letters ≡ Rest = sym h.stage ∙ ap (λ (y : Turn). y.stage) ends in cc z)
run_opens o e l low now t (x ∷ xs) w' h steps ends = go (onward o e l low now t x h steps.0) (λ g. run_opens o e l low now x xs w' g steps.1 ends)
  where
    w : ClusterState
    w = with_reigns h.reigns t.cluster

    left : ClusterState
    left = record w { mail = []; last = 0 }

    at_end : next_job w ≡ None → next_letter w ≡ None → Brought w e l low → RunsWith left e l ⊎ IsStuck left e l
    at_end none next (inr s) = (let r = s.runs in inr (record { runs = record { coordinator_up = r.coordinator_up; phase = r.phase; epoch_is = r.epoch_is; idle = r.idle; is_member = r.is_member; leader_up = r.leader_up; promised = r.promised }; stopped = s.stopped; cannot = s.cannot }))
    at_end none next (inl tokens) =
        let f = followed w e l low tokens none next in
        let r = tokens.runs in
        let opened = leader_opened h.sound.tree w o l f.now h.sound.sound r.leader_up f.role f.job in
        inl (record { coordinated = r.coordinator_up; phase = r.phase; epoch_is = r.epoch_is; is_member = r.is_member; leader_up = r.leader_up; promised = r.promised; is_open = ap is_opened f.role ∙ opened })

    go : Onward o e l low t x → (Going o e l low x → RunsWith w' e l ⊎ IsStuck w' e l) → RunsWith w' e l ⊎ IsStuck w' e l
    go (Goes g) on = on g
    go (Ends none next eq) on =
        let lx : x ≡ turn Rest w' = sym (last_is now x xs (ap (λ (y : Turn). y.stage) eq) steps.1) ∙ ends in
        let same : bare left ≡ bare w' = ap (λ (y : Turn). y.cluster) (sym eq ∙ lx) in
        outcome_bare left w' e l same (at_end none (due_with h.reigns t.cluster t.cluster.mail ∙ next) h.brought)

voting_opens : (o e now : ℕ) (t : Turn) (turns : List Turn) (w' : ClusterState) → 0 < length t.cluster.seats → Voting o e t → HasCalls t.cluster e → CleanSteps now t turns → last_turn t turns ≡ turn Rest w' → Outcome w' e
voting_opens o e now t [] w' some h hc steps ends = absurd (let z : Letters ≡ Rest = sym h.stage ∙ ap (λ (y : Turn). y.stage) ends in cc z)
voting_opens o e now t (x ∷ xs) w' some h hc steps ends =
    go (votes o e now t x h steps.0) (λ v. voting_opens o e now x xs w' (some_on v) v (calls_next o e now t x h hc steps.0 v) steps.1 ends)
  where
    up_x : AllUp x.cluster
    up_x = up_step now t x h.order steps.0.step steps.0.performed hc.all_up

    some_on : Voting o e x → 0 < length x.cluster.seats
    some_on v = let s = v.sound.sound in let c = steps_count now t x h.order steps.0.step in omega (arith, some, c)

    at_end : (s : SettleStep now t x) → x ≡ turn Rest (record t.cluster { mail = []; last = 0 }) → ⊥
    at_end (Perform k a s next eq) e = (let z = sym s ∙ h.stage in cc z)
    at_end (Nudge s next eq) e = (let z = sym s ∙ h.stage in cc z)
    at_end (Follow_up k a s next eq) e = (let z : Letters ≡ Rest = sym (ap (λ (y : Turn). y.stage) eq) ∙ ap (λ (y : Turn). y.stage) e in cc z)
    at_end (Deliver n s st none next is eq) e = (let z : Letters ≡ Rest = sym (ap (λ (y : Turn). y.stage) eq) ∙ ap (λ (y : Turn). y.stage) e in cc z)
    at_end (Forget st none next eq) q =
        elects_on h.sound.tree (with_reigns h.reigns t.cluster) o e h.sound.sound some h.words (calls_with h.reigns t.cluster e hc) none (due_with h.reigns t.cluster t.cluster.mail ∙ next)

    go : Votes o e t x → (Voting o e x → Outcome w' e) → Outcome w' e
    go (Still_votes v) on = on v
    go (Now_runs l low g) on = (l, run_opens o e l low now x xs w' g steps.1 ends)
    go (Now_lost l order st lost) on = absurd (by l lost)
      where
        by : (l : ℕ) → IsLost x.cluster e l → ⊥
        by zero lost = (let z = lost.is_member.0 in omega (arith, z))
        by (suc i) lost = (let z = lost.is_member.1 in let up = up_x i (omega (arith, z)) in let down = lost.down in cc (up, down))
    go (Votes_end eq) on = absurd (at_end steps.0.step eq)

called_opens : (o e now : ℕ) (t : Turn) (turns : List Turn) (w' : ClusterState) → 0 < length t.cluster.seats → AllUp t.cluster → Called o e t → CleanSteps now t turns → last_turn t turns ≡ turn Rest w' → Outcome w' e
called_opens o e now t [] w' some all h steps ends = absurd (let z : Jobs ≡ Rest = sym h.stage ∙ ap (λ (y : Turn). y.stage) ends in cc z)
called_opens o e now t (x ∷ xs) w' some all h steps ends =
    go (calls o e now t x h steps.0) (λ b. called_opens o e now x xs w' some_x up_x b steps.1 ends)
  where
    up_x : AllUp x.cluster
    up_x = up_step now t x h.order steps.0.step steps.0.performed all

    some_x : 0 < length x.cluster.seats
    some_x = let c = steps_count now t x h.order steps.0.step in omega (arith, some, c)

    w : ClusterState
    w = with_reigns h.reigns t.cluster

    nudged : (s : SettleStep now t x) → IsPerformed s → Voting o e x → HasCalls x.cluster e
    nudged (Perform k a s next eq) p v = absurd (let z : Jobs ≡ Letters = sym (ap (λ (y : Turn). y.stage) eq) ∙ v.stage in cc z)
    nudged (Nudge s next eq) p v =
        let same : with_reigns h.reigns x.cluster ≡ send w (nudges w) = ap (λ (y : Turn). with_reigns h.reigns y.cluster) eq in
        let room : (send w (nudges w)).last < last_number = subst (λ (y : ClusterState). y.last < last_number) same steps.0.room in
        let el : Electing_in w e = elects next h.elects in
        calls_without h.reigns x.cluster e (subst (λ (y : ClusterState). HasCalls y e) (sym same) (nudge_calls h.sound.tree w o e h.sound.sound el all room (λ i lt up p. nudge_word h.sound.tree w o e h.sound.sound el room i lt up p)))
      where
        elects : next_job t.cluster ≡ None → Elects_next w e → Electing_in w e
        elects none (inl el) = el
        elects none (inr p) = absurd (let z : Some e ≡ None = sym p.1 ∙ (free_is t.cluster 0 none p.0).1 in cc z)
    nudged (Follow_up k a s next eq) p v = absurd (let z = sym s ∙ h.stage in cc z)
    nudged (Deliver n q s none next is eq) p v = absurd (let z = sym s ∙ h.stage in cc z)
    nudged (Forget s none next eq) p v = absurd (let z = sym s ∙ h.stage in cc z)

    go : Calls o e x → (Called o e x → Outcome w' e) → Outcome w' e
    go (Still_called b) on = on b
    go (Now_votes v) on = voting_opens o e now x xs w' some_x v (nudged steps.0.step steps.0.performed v) steps.1 ends

pub election_opens : (o e now : ℕ) (reigns : List Reign) (w w' : ClusterState) → SoundWith Truthful o (with_reigns reigns w) → IsInOrder w → 0 < length w.seats → ((i : ℕ) → i < length w.seats → (seat w (suc i)).up ≡ true) → Elects_next w e
    → (turns : List Turn) → CleanSteps now (turn Jobs w) turns → last_turn (turn Jobs w) turns ≡ turn Rest w' → Outcome w' e
election_opens o e now reigns w w' sound order some all el turns steps ends =
    called_opens o e now (turn Jobs w) turns w' some all (record {
      stage = refl;
      order = record { rising = order.rising; fits = order.fits };
      reigns = reigns;
      sound = sound;
      elects = go el;
    }) steps ends
  where
    go : Elects_next w e → Elects_next (with_reigns reigns (bare w)) e
    go (inl x) = inl (record { coordinator_up = x.coordinator_up; phase = x.phase; epoch_is = x.epoch_is; idle = x.idle })
    go (inr p) = inr p
