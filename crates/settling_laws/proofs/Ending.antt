-- A settle ends.
use Rattle.std.proofs.Common.{◌≡◌, ℕ, ◌+◌, ◌-◌, ◌<◌, ◌≤◌, List, [], ◌∷◌, ◌++◌, length, refl, sym, ap, ◌∙◌, subst, inl, inr, arith, Option, Some, None, Bool, true, false, cond, zero, suc}
use Rattle.std.specs.Prelude.{◌&&◌, ◌==◌, ◌≢◌, not, nat_lt, is_some, slice_index_or, slice_set}
use Rattle.std.specs.List.{AllByRecursion}
use Rattle.std.proofs.lemmas.Bool.{cases_eq}
use Rattle.epoch_coordinator.specs.declared.message.Job.{Job}
use Rattle.epoch_coordinator.specs.declared.message.Job.TheVariants.{Write, Cut, Promise, Epoch}
use Rattle.epoch_coordinator.specs.declared.message.Message.{Message}
use Rattle.epoch_coordinator.specs.declared.message.Message.TheVariants as messages
use Rattle.epoch_coordinator.specs.declared.message.Sent.{Sent}
use Rattle.chunk_format.specs.declared.chunk.Chunk.{Chunk}
use Rattle.epoch_coordinator.specs.Members.{MemberRole, MemberState, Stopped, Follower, Leader, role_chunks}
use Rattle.epoch_coordinator.specs.MemberSteps.{Took, taken, finished, finished_by, asks_by, written, behind_first}
use Rattle.epoch_coordinator.specs.MemberSteps as steps
use Rattle.epoch_coordinator.specs.Coordinators.{begun, stop_all}
use Rattle.replication_laws.specs.Cluster.{Seat, Letter, Reign, ClusterState, nobody, seat, member, put, last_number, numbered, send, letter_in, marked}
use Rattle.replication_laws.specs.Events.{to_coordinator, comes, begins, performed, goes_down, nudges}
use Rattle.replication_laws.specs.Soundness.{JobHolds, IsSound}
use Rattle.replication_laws.proofs.Sounds.{seat_else, count_put}
use Rattle.replication_laws.proofs.Joined.{event_sound}
use Rattle.settling_laws.specs.Settling.{is_up, is_due, due_in, next_job, next_letter, Answer, Receipt, Fault, answered, Stage, Jobs, Letters, Rest, Turn, bare, turn, SettleStep, Perform, Nudge, Follow_up, Deliver, Forget, with_reigns}
use Rattle.settling_laws.specs.Measures.{Rising, IsInOrder, IsPast, jobs_by, seat_jobs, all_jobs, jobs_left}
use Rattle.settling_laws.proofs.Nexts.{JobOf, Of_coordinator, Of_member, job_of, job_is_up, is_up_by, DueIs, due_is, same_number, other_number}
use Rattle.settling_laws.proofs.Ordered.{rising_numbered}
use Rattle.settling_laws.proofs.Evented.{step_event, step_order}

-- ---- jobs run out

jobs_set : (seats : List Seat) (i : ℕ) (s : Seat) → i < length seats → all_jobs (slice_set seats i s) + seat_jobs (slice_index_or seats i nobody) ≡ all_jobs seats + seat_jobs s
jobs_set [] i s lt = absurd (omega (arith, lt))
jobs_set (x ∷ seats) zero s lt = omega arith
jobs_set (x ∷ seats) (suc i) s lt = (let e = jobs_set seats i s (omega (arith, lt)) in omega (arith, e))

-- a job of a member makes no epoch durable
abbrev IsOwn : Job → Type 0
IsOwn (Write c) = Unit {0}
IsOwn (Cut end) = Unit {0}
IsOwn (Promise epoch) = Unit {0}
IsOwn (Epoch epoch) = ⊥

cut_done : (r : MemberRole) (m : MemberState) → m.job ≡ None → jobs_by (asks_by r m).state.job (asks_by r m).state.role ≡ 0
cut_done Stopped m e = rw e refl
cut_done (Follower l) m e = rw e refl
cut_done (Leader l) m e = rw e refl

queue_left : (q : List Chunk) (r : MemberRole) → role_chunks r ≡ behind_first q → jobs_by (steps.next_job q) r ≡ length q
queue_left [] r e = refl
queue_left (c ∷ q) r e = (let x = ap length e in omega (arith, x))

job_done : (j : Job) (r : MemberRole) (m : MemberState) → IsOwn j → m.role ≡ r → m.job ≡ Some j → jobs_by (finished_by (Some j) m).state.job (finished_by (Some j) m).state.role < 1 + length (role_chunks r)
job_done (Write c) Stopped m own re je = rw re (omega arith)
job_done (Write c) (Follower l) m own re je = rw re (omega arith)
job_done (Write c) (Leader l) m own re je = rw re (let x = queue_left l.queue (Leader (written m.log l)) refl in omega (arith, x))
job_done (Cut end) r m own re je = (let x = cut_done m.role (record m { log = steps.cut_at end m.log; job = None }) refl in omega (arith, x))
job_done (Promise epoch) r m own re je = omega arith
job_done (Epoch epoch) r m own re je = absurd own

member_done : (m : MemberState) (j : Job) → IsOwn j → m.job ≡ Some j → jobs_by (finished m).state.job (finished m).state.role < jobs_by m.job m.role
member_done m j own e =
    let x = job_done j m.role m own refl e in
    let same : finished m ≡ finished_by (Some j) m = ap (λ (o : Option Job). finished_by o m) e in
    subst (λ (o : Option Job). jobs_by (finished m).state.job (finished m).state.role < jobs_by o m.role) (sym e)
    (subst (λ (t : Took). jobs_by t.state.job t.state.role < 1 + length (role_chunks m.role)) (sym same) x)

own_job : (o : ℕ) (w : ClusterState) (k : ℕ) → IsSound o w → (j : Job) → (member w k).job ≡ Some j → IsOwn j
own_job o w k s j e = go j (subst (JobHolds s.tree w k (member w k).promise (member w k).log) e (s.sound.each_member k).job)
  where
    go : (j : Job) → JobHolds s.tree w k (member w k).promise (member w k).log (Some j) → IsOwn j
    go (Write c) h = tt
    go (Cut end) h = tt
    go (Promise epoch) h = tt
    go (Epoch epoch) h = h

pub is_job : (o : Option Job) → is_some o ≡ true → (j : Job) × (o ≡ Some j)
is_job None h = absurd (cc h)
is_job (Some j) h = (j, refl)

coordinator_part : (w : ClusterState) (epoch : ℕ) → w.coordinator_up ≡ true → w.coordinator.job ≡ Some epoch → jobs_left w ≡ 1 + all_jobs w.seats
coordinator_part w epoch up job = rw (up, job) refl

begins_part : (w : ClusterState) (epoch : ℕ) → w.coordinator.job ≡ Some epoch → jobs_left (performed 0 w) ≡ all_jobs w.seats
begins_part w epoch job = subst (λ (j : Option ℕ). jobs_left (begins j w) ≡ all_jobs w.seats) (sym job) (go w.coordinator_up)
  where
    go : (b : Bool) → (cond (b && false) 1 0) + all_jobs w.seats ≡ all_jobs w.seats
    go true = omega arith
    go false = omega arith

jobs_put : (w w' : ClusterState) (i : ℕ) (s : Seat) → i < length w.seats → w'.seats ≡ slice_set w.seats i s → w'.coordinator_up ≡ w.coordinator_up → w'.coordinator ≡ w.coordinator
    → seat_jobs s < seat_jobs (seat w (suc i)) → jobs_left w' < jobs_left w
jobs_put w w' i s lt se ue ce less =
    let e = jobs_set w.seats i s lt in
    rw (se, ue, ce) (omega (arith, e, less))

pub jobs_fall : (o : ℕ) (w : ClusterState) (reigns : List Reign) (a : Answer) (k : ℕ) → IsSound o (with_reigns reigns w) → next_job w ≡ Some k → jobs_left (answered a k w) < jobs_left w
jobs_fall o w reigns a k s e = go a k (job_of w k e)
  where
    go : (a : Answer) (k : ℕ) → JobOf w k → jobs_left (answered a k w) < jobs_left w
    go Receipt k (Of_coordinator epoch is up job) =
        rw is (let x = coordinator_part w epoch up job in let y = begins_part w epoch job in omega (arith, x, y))
    go Fault k (Of_coordinator epoch is up job) = rw is (let x = coordinator_part w epoch up job in omega (arith, x))
    go Receipt k (Of_member i is up some) =
        rw is
        (let j = is_job (member w (suc i)).job some in
        let own = own_job o (with_reigns reigns w) (suc i) s j.0 j.1 in
        let new : Seat = record { up = true; state = (finished (member w (suc i))).state } in
        let less = member_done (member w (suc i)) j.0 own j.1 in
        jobs_put w (performed (suc i) w) i new (let l = up.0.1 in omega (arith, l)) refl refl refl (rw up.1 less))
    go Fault k (Of_member i is up some) =
        rw is
        (let j = is_job (member w (suc i)).job some in
        let new : Seat = record { up = false; state = record (member w (suc i)) { role = Stopped } } in
        jobs_put w (goes_down (suc i) w) i new (let l = up.0.1 in omega (arith, l)) refl refl refl (rw (up.1, j.1) (omega arith)))

-- ---- numbers rise

-- who is up was up
abbrev UpBefore : ClusterState → ClusterState → Type 0
UpBefore w w' = (k : ℕ) → is_up w' k ≡ true → is_up w k ≡ true

put_before : (w : ClusterState) (i : ℕ) (s : Seat) → is_up w (suc i) ≡ true → UpBefore w (put w (suc i) s)
put_before w i s up zero u = u
put_before w i s up (suc j) u = elim (cases_eq (suc j) (suc i)) [
  | inl e ↦ subst (λ (n : ℕ). is_up w n ≡ true) (sym e) up
  | inr ne ↦
      let count = count_put (suc i) s w.seats in
      let same = seat_else w (suc i) (suc j) s ne in
      subst (λ (x : Seat). (nat_lt j (length w.seats) && x.up) ≡ true) same (subst (λ (n : ℕ). (nat_lt j n && (seat (put w (suc i) s) (suc j)).up) ≡ true) count u)
]

-- a letter that is due then was due before
due_before : (w w' : ClusterState) (l : Letter) → UpBefore w w' → is_due w' l ≡ true → is_due w l ≡ true
due_before w w' l before d = go l.delivered d
  where
    go : (b : Bool) → (not b && is_up w' l.sent.to) ≡ true → (not b && is_up w l.sent.to) ≡ true
    go true h = absurd (cc h)
    go false h = before l.sent.to h

abbrev Above : ClusterState → ℕ → List Letter → Type 0
Above w n mail = AllByRecursion (λ (l : Letter). is_due w l ≡ true → n < l.number) mail

above_before : (w w' : ClusterState) (n : ℕ) (mail : List Letter) → UpBefore w w' → Above w n mail → Above w' n mail
above_before w w' n [] before h = tt
above_before w w' n (l ∷ mail) before h = (λ d. h.0 (due_before w w' l before d), above_before w w' n mail before h.1)

above_rising : (w : ClusterState) (n low : ℕ) (mail : List Letter) (last : ℕ) → n ≤ low → Rising low mail last → Above w n mail
above_rising w n low [] last le r = tt
above_rising w n low (l ∷ mail) last le r =
    (λ d. (let x = r.0 in omega (arith, le, x)), above_rising w n l.number mail last (let x = r.0 in omega (arith, le, x)) r.1)

above_join : (w : ClusterState) (n : ℕ) (mail more : List Letter) → Above w n mail → Above w n more → Above w n (mail ++ more)
above_join w n [] more h k = k
above_join w n (l ∷ mail) more h k = (h.0, above_join w n mail more h.1 k)

-- after more was sent
past_sent : (w w' : ClusterState) (n : ℕ) (sent : List Sent) → UpBefore w w' → w'.mail ≡ w.mail ++ numbered w.last sent → w'.last ≡ w.last + length (numbered w.last sent) → IsPast n w → IsPast n w'
past_sent w w' n sent before me le p = record {
  given = (let x = p.given in omega (arith, x, le));
  above = subst (Above w' n) (sym me)
      (above_join w' n w.mail (numbered w.last sent) (above_before w w' n w.mail before p.above)
      (above_rising w' n w.last (numbered w.last sent) (w.last + length (numbered w.last sent)) p.given (rising_numbered w.last sent)));
}

past_same : (w w' : ClusterState) (n : ℕ) → UpBefore w w' → w'.mail ≡ w.mail → w'.last ≡ w.last → IsPast n w → IsPast n w'
past_same w w' n before me le p = record {
  given = (let x = p.given in omega (arith, x, le));
  above = subst (Above w' n) (sym me) (above_before w w' n w.mail before p.above);
}

begins_past : (j : Option ℕ) (w : ClusterState) (n : ℕ) → IsPast n w → IsPast n (begins j w)
begins_past None w n p = p
begins_past (Some epoch) w n p = past_sent w (begins (Some epoch) w) n (stop_all (begun epoch w.coordinator)) same_up refl refl p
  where
    same_up : UpBefore w (begins (Some epoch) w)
    same_up zero u = u
    same_up (suc i) u = u

to_past : (message : Message) (w : ClusterState) (n : ℕ) → IsPast n w → IsPast n (to_coordinator message w)
to_past (messages.Stopped e from t) w n p = past_sent w (to_coordinator (messages.Stopped e from t) w) n _ same_up refl refl p
  where
    same_up : UpBefore w (to_coordinator (messages.Stopped e from t) w)
    same_up zero u = u
    same_up (suc i) u = u
to_past (messages.Stop e) w n p = p
to_past (messages.Open e) w n p = p
to_past (messages.Follow e l) w n p = p
to_past (messages.Shape e runs) w n p = p
to_past (messages.Ask e from t) w n p = p
to_past (messages.Append e t c) w n p = p

pub answered_past : (a : Answer) (k : ℕ) (w : ClusterState) (n : ℕ) → next_job w ≡ Some k → IsPast n w → IsPast n (answered a k w)
answered_past a k w n e p = go a k (is_up_by w k (job_is_up w k e))
  where
    down_zero : UpBefore w (goes_down 0 w)
    down_zero zero u = absurd (cc u)
    down_zero (suc i) u = u

    put_up : (i : ℕ) → is_up w (suc i) ≡ true → UpBefore w (performed (suc i) w)
    put_up i up zero u = u
    put_up i up (suc j) u = put_before w i (record { up = true; state = (finished (member w (suc i))).state }) up (suc j) u

    go : (a : Answer) (k : ℕ) → is_up w k ≡ true → IsPast n (answered a k w)
    go Receipt zero up = begins_past w.coordinator.job w n p
    go Receipt (suc i) up =
        past_sent w (performed (suc i) w) n (finished (member w (suc i))).sent (put_up i up) refl refl p
    go Fault zero up = past_same w (goes_down 0 w) n down_zero refl refl p
    go Fault (suc i) up = past_same w (goes_down (suc i) w) n (put_before w i (record { up = false; state = record (member w (suc i)) { role = Stopped } }) up) refl refl p

comes_past : (now k : ℕ) (message : Message) (w : ClusterState) (n : ℕ) → is_up w k ≡ true → IsPast n w → IsPast n (comes now k message w)
comes_past now zero message w n up p = to_past message w n p
comes_past now (suc i) message w n up p = past_sent w (comes now (suc i) message w) n (taken now message (member w (suc i))).sent same_up refl refl p
  where
    same_up : UpBefore w (comes now (suc i) message w)
    same_up zero u = u
    same_up (suc j) u = put_before w i (record { up = true; state = (taken now message (member w (suc i))).state }) up (suc j) u

not_due : (w : ClusterState) (l : Letter) → is_due w (record l { delivered = true }) ≡ true → ⊥
not_due w l h = cc h

-- the message of least number was delivered: what is due now is behind it
marked_above : (w : ClusterState) (low : ℕ) (mail : List Letter) (last number : ℕ) → Rising low mail last → due_in w mail ≡ Some number → Above w number (marked number mail)
marked_above w low [] last number r e = absurd (cc e)
marked_above w low (l ∷ mail) last number r e = go (is_due w l) refl e (marked_above w l.number mail last number r.1) (due_is w l.number mail last number r.1)
  where
    go : (b : Bool) → is_due w l ≡ b → cond b (Some l.number) (due_in w mail) ≡ Some number → (due_in w mail ≡ Some number → Above w number (marked number mail))
        → (due_in w mail ≡ Some number → DueIs w l.number mail last number) → Above w number (cond (l.number == number) (record l { delivered = true } ∷ mail) (l ∷ marked number mail))
    go true y h on is =
        let same : l.number ≡ number = cc h in
        subst (λ (n : ℕ). Above w n (cond (l.number == n) (record l { delivered = true } ∷ mail) (l ∷ marked n mail))) same
        (rw (same_number l.number) ((λ d. absurd (not_due w l d)), above_rising w l.number l.number mail last (omega arith) r.1))
    go false n h on is = rw (other_number l.number number (is h).behind) ((λ d. absurd (cc (n, d))), on h)

pub delivered_past : (now number : ℕ) (w : ClusterState) (s : Sent) → IsInOrder w → next_letter w ≡ Some number → letter_in number w.mail ≡ Some s
    → IsPast number (comes now s.to s.message (record w { mail = marked number w.mail }))
delivered_past now number w s order next is =
    let w1 : ClusterState = record w { mail = marked number w.mail } in
    let d = due_is w 0 w.mail w.last number order.rising next in
    let same : d.sent ≡ s = (let x : Some d.sent ≡ Some s = sym d.is ∙ is in cc x) in
    let p : IsPast number w1 = record { given = d.reached; above = above_before w w1 number (marked number w.mail) same_up (marked_above w 0 w.mail w.last number order.rising next) } in
    comes_past now s.to s.message w1 number (up_as s.to (ap (λ (x : Sent). is_up w x.to) (sym same) ∙ d.up)) p
  where
    same_up : UpBefore w (record w { mail = marked number w.mail })
    same_up zero u = u
    same_up (suc i) u = u

    up_as : (k : ℕ) → is_up w k ≡ true → is_up (record w { mail = marked number w.mail }) k ≡ true
    up_as zero u = u
    up_as (suc i) u = u

-- the next one is behind that
due_past : (w : ClusterState) (n : ℕ) (mail : List Letter) (number : ℕ) → Above w n mail → due_in w mail ≡ Some number → n < number
due_past w n [] number h e = absurd (cc e)
due_past w n (l ∷ mail) number h e = go (is_due w l) refl e (due_past w n mail number h.1)
  where
    go : (b : Bool) → is_due w l ≡ b → cond b (Some l.number) (due_in w mail) ≡ Some number → (due_in w mail ≡ Some number → n < number) → n < number
    go true y x on = (let same : l.number ≡ number = cc x in subst (λ (m : ℕ). n < m) same (h.0 y))
    go false y x on = on x

pub next_past : (w : ClusterState) (n number : ℕ) → IsPast n w → next_letter w ≡ Some number → n < number
next_past w n number p e = due_past w n w.mail number p.above e

pub first_past : (w : ClusterState) → IsInOrder w → IsPast 0 w
first_past w order = record { given = omega arith; above = above_rising w 0 0 w.mail w.last (omega arith) order.rising }

pub none_past : (w : ClusterState) → IsInOrder w → IsPast last_number w → next_letter w ≡ None
none_past w order p = go (next_letter w) refl
  where
    go : (o : Option ℕ) → next_letter w ≡ o → next_letter w ≡ None
    go None e = e
    go (Some number) e =
        absurd (let x = next_past w last_number number p e in let d = due_is w 0 w.mail w.last number order.rising e in let y = d.reached in let z = order.fits in omega (arith, x, y, z))

pub nudged_past : (w : ClusterState) (n : ℕ) → IsPast n w → IsPast n (send w (nudges w))
nudged_past w n p = past_sent w (send w (nudges w)) n (nudges w) same_up refl refl p
  where
    same_up : UpBefore w (send w (nudges w))
    same_up zero u = u
    same_up (suc i) u = u

-- ---- a step is followed by a step, until the rest

-- where all is not at rest there is a step, whatever comes of jobs
pub goes_further : (now : ℕ) (a : Answer) (t : Turn) → IsInOrder t.cluster → t.stage ≢ Rest → (x : Turn) × SettleStep now t x
goes_further now a t order busy = go t.stage refl (next_job t.cluster) refl (next_letter t.cluster) refl
  where
    go : (s : Stage) → t.stage ≡ s → (j : Option ℕ) → next_job t.cluster ≡ j → (l : Option ℕ) → next_letter t.cluster ≡ l → (x : Turn) × SettleStep now t x
    go Jobs s (Some k) j l le = (_, Perform k a s j refl)
    go Jobs s None j l le = (_, Nudge s j refl)
    go Letters s (Some k) j l le = (_, Follow_up k a s j refl)
    go Letters s None j (Some number) le = (let d = due_is t.cluster 0 t.cluster.mail t.cluster.last number order.rising le in (_, Deliver number d.sent s j le d.is refl))
    go Letters s None j None le = (_, Forget s j le refl)
    go Rest s j je l le = absurd (busy s)

-- ---- and never for ever

record At (o : ℕ) (t : Turn) : Type 0 where
  reigns : List Reign
  sound : IsSound o (with_reigns reigns t.cluster)
  order : IsInOrder t.cluster

at_step : (o now : ℕ) (t x : Turn) → At o t → SettleStep now t x → At o x
at_step o now t x h step =
    let e = step_event now t x h.order step h.reigns in
    record { reigns = e.0 ++ h.reigns; sound = event_sound o now (with_reigns h.reigns t.cluster) (with_reigns (e.0 ++ h.reigns) x.cluster) h.sound e.1; order = step_order now t x h.order step }

-- messages are delivered, up to a number
record Ready (o n : ℕ) (t : Turn) : Type 0 where
  at : At o t
  stage : t.stage ≡ Letters
  past : IsPast n t.cluster

-- a step while messages are delivered: a job less, or a greater number, or the rest
data Nearer (o n : ℕ) (t x : Turn) : Type 0 where
  A_job : Ready o n x → jobs_left x.cluster < jobs_left t.cluster → Nearer o n t x
  A_letter : (m : ℕ) → Ready o m x → n < m → m ≤ last_number → Nearer o n t x
  The_rest : x.stage ≡ Rest → Nearer o n t x

nearer : (o now n : ℕ) (t x : Turn) → Ready o n t → SettleStep now t x → Nearer o n t x
nearer o now n t x r step = go step (at_step o now t x r.at step)
  where
    came : ℕ → Sent → ClusterState
    came number s = comes now s.to s.message (record t.cluster { mail = marked number t.cluster.mail })

    not_jobs : (s : Stage) → s ≡ Jobs → s ≡ Letters → ⊥
    not_jobs s a b = cc (a, b)

    stage_is : (s : Stage) (w : ClusterState) → x ≡ turn s w → x.stage ≡ s
    stage_is s w e = ap (λ (z : Turn). z.stage) e

    cluster_is : (s : Stage) (w : ClusterState) → x ≡ turn s w → bare w ≡ x.cluster
    cluster_is s w e = sym (ap (λ (z : Turn). z.cluster) e)

    past_is : (m : ℕ) (s : Stage) (w : ClusterState) → x ≡ turn s w → IsPast m w → IsPast m x.cluster
    past_is m s w e p = subst (IsPast m) (cluster_is s w e) (past_same w (bare w) m bare_up refl refl p)
      where
        bare_up : UpBefore w (bare w)
        bare_up zero u = u
        bare_up (suc i) u = u

    go : SettleStep now t x → At o x → Nearer o n t x
    go (Perform k a s next e) h = absurd (not_jobs t.stage s r.stage)
    go (Nudge s next e) h = absurd (not_jobs t.stage s r.stage)
    go (Follow_up k a s next e) h =
        A_job (record { at = h; stage = stage_is Letters (answered a k t.cluster) e; past = past_is n Letters (answered a k t.cluster) e (answered_past a k t.cluster n next r.past) })
        (subst (λ (w : ClusterState). jobs_left w < jobs_left t.cluster) (cluster_is Letters (answered a k t.cluster) e) (jobs_fall o t.cluster r.at.reigns a k r.at.sound next))
    go (Deliver number s l none next is e) h =
        let d = due_is t.cluster 0 t.cluster.mail t.cluster.last number r.at.order.rising next in
        A_letter number (record { at = h; stage = stage_is Letters (came number s) e; past = past_is number Letters (came number s) e (delivered_past now number t.cluster s r.at.order next is) })
        (next_past t.cluster n number r.past next) (let y = d.reached in let z = r.at.order.fits in omega (arith, y, z))
    go (Forget l none next e) h = The_rest (stage_is Rest (record t.cluster { mail = []; last = 0 }) e)

pub at_rest : (now : ℕ) (t x : Turn) → t.stage ≡ Rest → SettleStep now t x → ⊥
at_rest now t x r (Perform k a s next e) = cc (r, s)
at_rest now t x r (Nudge s next e) = cc (r, s)
at_rest now t x r (Follow_up k a s next e) = cc (r, s)
at_rest now t x r (Deliver number s l none next is e) = cc (r, l)
at_rest now t x r (Forget l none next e) = cc (r, l)

-- steps without an end
abbrev Endless : ℕ → (ℕ → Turn) → Type 0
Endless now run = (i : ℕ) → SettleStep now (run i) (run (suc i))

-- with so much room above the number
abbrev EndsIn : ℕ → (ℕ → Turn) → ℕ → Type 0
EndsIn o run f = (i n : ℕ) → Ready o n (run i) → last_number ≤ n + f → ⊥

-- by the jobs that are left
jobs_end : (o now : ℕ) (run : ℕ → Turn) → Endless now run → (f : ℕ) → ((g : ℕ) → g < f → EndsIn o run g) → (j i n : ℕ) → Ready o n (run i) → last_number ≤ n + f → jobs_left (run i).cluster ≤ j → ⊥
jobs_end o now run steps f below zero i n r room le = go (nearer o now n (run i) (run (suc i)) r (steps i))
  where
    go : Nearer o n (run i) (run (suc i)) → ⊥
    go (A_job h less) = omega (arith, less, le)
    go (A_letter m h up fits) = below (last_number - m) (omega (arith, up, fits, room)) (suc i) m h (omega (arith, fits))
    go (The_rest s) = at_rest now (run (suc i)) (run (suc (suc i))) s (steps (suc i))
jobs_end o now run steps f below (suc j) i n r room le = go (nearer o now n (run i) (run (suc i)) r (steps i)) (jobs_end o now run steps f below j (suc i) n)
  where
    go : Nearer o n (run i) (run (suc i)) → (Ready o n (run (suc i)) → last_number ≤ n + f → jobs_left (run (suc i)).cluster ≤ j → ⊥) → ⊥
    go (A_job h less) on = on h room (omega (arith, less, le))
    go (A_letter m h up fits) on = below (last_number - m) (omega (arith, up, fits, room)) (suc i) m h (omega (arith, fits))
    go (The_rest s) on = at_rest now (run (suc i)) (run (suc (suc i))) s (steps (suc i))

letters_end : (o now : ℕ) (run : ℕ → Turn) → Endless now run → (f g : ℕ) → g ≤ f → EndsIn o run g
letters_end o now run steps zero g le i n r room = jobs_end o now run steps g (λ h lt. absurd (omega (arith, le, lt))) (jobs_left (run i).cluster) i n r room (omega arith)
letters_end o now run steps (suc f) g le i n r room =
    jobs_end o now run steps g (λ h lt. letters_end o now run steps f h (omega (arith, le, lt))) (jobs_left (run i).cluster) i n r room (omega arith)

-- before the nudge
data First (o : ℕ) (t x : Turn) : Type 0 where
  One_less : At o x → x.stage ≡ Jobs → jobs_left x.cluster < jobs_left t.cluster → First o t x
  Nudged : Ready o 0 x → First o t x

first : (o now : ℕ) (t x : Turn) → At o t → t.stage ≡ Jobs → SettleStep now t x → First o t x
first o now t x at stage step = go step (at_step o now t x at step)
  where
    go : SettleStep now t x → At o x → First o t x
    go (Perform k a s next e) h =
        One_less h (ap (λ (z : Turn). z.stage) e)
        (subst (λ (w : ClusterState). jobs_left w < jobs_left t.cluster) (sym (ap (λ (z : Turn). z.cluster) e)) (jobs_fall o t.cluster at.reigns a k at.sound next))
    go (Nudge s next e) h = Nudged (record { at = h; stage = ap (λ (z : Turn). z.stage) e; past = first_past x.cluster h.order })
    go (Follow_up k a s next e) h = absurd (cc (stage, s))
    go (Deliver number s l none next is e) h = absurd (cc (stage, l))
    go (Forget l none next e) h = absurd (cc (stage, l))

first_end : (o now : ℕ) (run : ℕ → Turn) → Endless now run → (j i : ℕ) → At o (run i) → (run i).stage ≡ Jobs → jobs_left (run i).cluster ≤ j → ⊥
first_end o now run steps zero i at stage le = go (first o now (run i) (run (suc i)) at stage (steps i))
  where
    go : First o (run i) (run (suc i)) → ⊥
    go (One_less h s less) = omega (arith, less, le)
    go (Nudged r) = letters_end o now run steps last_number last_number (omega arith) (suc i) 0 r (omega arith)
first_end o now run steps (suc j) i at stage le = go (first o now (run i) (run (suc i)) at stage (steps i)) (first_end o now run steps j (suc i))
  where
    go : First o (run i) (run (suc i)) → (At o (run (suc i)) → (run (suc i)).stage ≡ Jobs → jobs_left (run (suc i)).cluster ≤ j → ⊥) → ⊥
    go (One_less h s less) on = on h s (omega (arith, less, le))
    go (Nudged r) on = letters_end o now run steps last_number last_number (omega arith) (suc i) 0 r (omega arith)

pub no_endless : (o now : ℕ) (reigns : List Reign) (run : ℕ → Turn) → IsSound o (with_reigns reigns (run 0).cluster) → IsInOrder (run 0).cluster → Endless now run → ⊥
no_endless o now reigns run sound order steps = go (run 0).stage refl
  where
    at : At o (run 0)
    at = record { reigns = reigns; sound = sound; order = order }

    go : (s : Stage) → (run 0).stage ≡ s → ⊥
    go Jobs s = first_end o now run steps (jobs_left (run 0).cluster) 0 at s (omega arith)
    go Letters s = letters_end o now run steps last_number last_number (omega arith) 0 0 (record { at = at; stage = s; past = first_past (run 0).cluster order }) (omega arith)
    go Rest s = at_rest now (run 0) (run 1) s (steps 0)
