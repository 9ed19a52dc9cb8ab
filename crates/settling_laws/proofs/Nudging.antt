-- Before the nudge the leader stays, and the nudge gives everyone a token.
use Rattle.std.proofs.Common.{◌≡◌, ℕ, ◌<◌, ◌≤◌, ◌≢◌, List, [], ◌∷◌, length, refl, sym, ap, ◌∙◌, subst, inl, inr, arith, Option, Some, None, Bool, true, zero, suc}
use Rattle.std.specs.Prelude.{slice_index_or}
use Rattle.std.proofs.lemmas.Bool.{cases_eq}
use Rattle.chunk_format.specs.Logs.{Truthful}
use Rattle.epoch_coordinator.specs.declared.message.Job.{Job}
use Rattle.epoch_coordinator.specs.declared.message.Job.TheVariants.{Write, Cut, Promise, Epoch}
use Rattle.epoch_coordinator.specs.declared.message.Message.TheVariants as messages
use Rattle.epoch_coordinator.specs.declared.message.Sent.{Sent}
use Rattle.epoch_coordinator.specs.Tails.{tail_of}
use Rattle.epoch_coordinator.specs.Coordinators as coordinators
use Rattle.epoch_coordinator.specs.Members.{MemberRole, MemberState, Stopped, Follower, Leader}
use Rattle.epoch_coordinator.specs.MemberSteps.{Took, mail, nudged, nudged_by, written, wrote, finished, finished_by}
use Rattle.replication_laws.specs.Cluster.{Seat, Reign, Letter, ClusterState, nobody, seat, member, IsMember, last_number, numbered, send, RunsWith}
use Rattle.replication_laws.specs.Events.{took, performed, member_nudges, nudges_by, nudges}
use Rattle.replication_laws.specs.Events as events
use Rattle.replication_laws.specs.Properties.{SoundWith}
use Rattle.replication_laws.specs.Soundness.{Tree, IsOfLeader, LeaderLine, LineHolds, Sound, RoleHolds, IsSound}
use Rattle.replication_laws.proofs.Properties.{event_with}
use Rattle.replication_laws.proofs.Snapshots.{truthful_property}
use Rattle.settling_laws.specs.Settling.{next_job, Receipt, Fault, Jobs, Rest, Turn, bare, turn, SettleStep, Perform, Nudge, Follow_up, Deliver, Forget, last_turn, with_reigns}
use Rattle.settling_laws.specs.Measures.{Rising, IsInOrder}
use Rattle.settling_laws.specs.Tokens.{OnItsWay, Behind, Exactly, Token, Tells, Asks, LeaderToken, Leads, Is_to_open, Running_by, HasTokens}
use Rattle.settling_laws.specs.Clean.{IsPerformed, CleanStep, CleanSteps, IsLed, It_leads, It_opens, HasMost, IsComplete}
use Rattle.settling_laws.proofs.Nexts.{JobOf, Of_coordinator, Of_member, job_of, job_is_up}
use Rattle.settling_laws.proofs.Mails.{way_more, way_behind, way_sent, IsOf, of_more, of_behind}
use Rattle.settling_laws.proofs.Evented.{performed_apart, step_order}
use Rattle.settling_laws.proofs.Ending.{is_job}
use Rattle.settling_laws.proofs.Nexts.{rising_last}
use Rattle.settling_laws.proofs.Known.{follows_leader, leads_alone, stopped_idle}
use Rattle.settling_laws.proofs.Bringing.{member_is, member_same, runs_on}
use Rattle.settling_laws.proofs.Completing.{Going, run_complete}

-- ---- jobs before the nudge

-- the epoch runs, and its leader leads or is to open
record Led (w : ClusterState) (e l : ℕ) : Type 0 where
  runs : Running_by w e l
  led : IsLed w e l

job_led : (g : Tree) (w : ClusterState) (o e l j : ℕ) (job : Job) → Sound g o w → Led w e l → IsMember w j → (seat w j).up ≡ true → (member w j).job ≡ Some job → Led (took j (finished (member w j)) w) e l
job_led g w o e l j job so h lt up has = elim (cases_eq j l) [ inl eq ↦ of_leader eq h.led | inr ne ↦ of_other ne h.led ]
  where
    m : MemberState
    m = member w j

    t : Took
    t = finished m

    w' : ClusterState
    w' = took j t w

    done : t ≡ finished_by (Some job) m
    done = ap (λ (x : Option Job). finished_by x m) has

    of_other : j ≢ l → IsLed w e l → Led w' e l
    of_other ne (It_leads d role) = record { runs = runs_on w e l j t h.runs lt (λ z. absurd (ne z)); led = It_leads d (ap (λ (x : MemberState). x.role) (member_same w j l t (λ z. ne (sym z))) ∙ role) }
    of_other ne (It_opens role way) = record {
      runs = runs_on w e l j t h.runs lt (λ z. absurd (ne z));
      led = It_opens (ap (λ (x : MemberState). x.role) (member_same w j l t (λ z. ne (sym z))) ∙ role) (way_more (Behind 0) (mail l (messages.Open e)) w.mail (numbered w.last t.sent) way);
    }

    of_leader : j ≡ l → IsLed w e l → Led w' e l
    of_leader eq (It_opens role way) =
        absurd (let idle = stopped_idle g w o e l l so h.runs h.runs.leader_up h.runs.promised role in let z : Some job ≡ None = sym has ∙ (ap (λ (x : ℕ). (member w x).job) eq ∙ idle) in cc z)
    of_leader eq (It_leads d role) = by job has done
      where
        mr : m.role ≡ Leader d
        mr = ap (λ (x : ℕ). (member w x).role) eq ∙ role

        line : LeaderLine m.promise m.log m.job d
        line = subst (LineHolds m.promise m.log m.job) mr ((so.each_member j).line up)

        by : (x : Job) → m.job ≡ Some x → t ≡ finished_by (Some x) m → Led w' e l
        by (Write c) jx dx =
            let is : t ≡ wrote (Leader d) c m = dx ∙ ap (λ (r : MemberRole). wrote r c m) mr in
            record {
              runs = runs_on w e l j t h.runs lt (λ z. ap (λ (x : Took). x.state.promise) is ∙ (ap (λ (x : ℕ). (member w x).promise) eq ∙ h.runs.promised));
              led = It_leads (written m.log d) (ap (λ (x : ℕ). (member w' x).role) (sym eq) ∙ (ap (λ (x : MemberState). x.role) (member_is w j t lt) ∙ ap (λ (x : Took). x.state.role) is));
            }
        by (Cut x) jx dx = absurd (subst IsOfLeader jx line.writes)
        by (Promise x) jx dx = absurd (subst IsOfLeader jx line.writes)
        by (Epoch x) jx dx = absurd (subst IsOfLeader jx line.writes)

works_led : (g : Tree) (w : ClusterState) (o e l k : ℕ) → Sound g o w → next_job w ≡ Some k → Led w e l → Led (performed k w) e l
works_led g w o e l k so next h = go k (job_of w k next)
  where
    go : (k : ℕ) → JobOf w k → Led (performed k w) e l
    go k (Of_coordinator epoch is up job) = absurd (let z : Some epoch ≡ None = sym job ∙ h.runs.idle in cc z)
    go k (Of_member i is up some) =
        let j = is_job (member w (suc i)).job some in
        subst (λ (x : ℕ). Led (performed x w) e l) (sym is) (job_led g w o e l (suc i) j.0 so h up.0 up.1 j.1)

-- ---- the nudge

nudge_of : (seats : List Seat) (i : ℕ) (s : Sent) → i < length seats → (slice_index_or seats i nobody).up ≡ true → IsOf s (nudged (slice_index_or seats i nobody).state) → IsOf s (member_nudges seats)
nudge_of [] i s lt up of = absurd (omega (arith, lt))
nudge_of (x ∷ seats) zero s lt up of = of_more s (nudges_by x.up (nudged x.state)) (member_nudges seats) (subst (λ (b : Bool). IsOf s (nudges_by b (nudged x.state))) (sym up) of)
nudge_of (x ∷ seats) (suc i) s lt up of = of_behind s (nudges_by x.up (nudged x.state)) (member_nudges seats) (nudge_of seats i s (omega (arith, lt)) up of)

pub nudged_is : (w : ClusterState) (k : ℕ) (s : Sent) → IsMember w k → (seat w k).up ≡ true → IsOf s (nudged (member w k)) → IsOf s (nudges w)
nudged_is w zero s mk up of = absurd (omega (arith, mk.0))
nudged_is w (suc i) s mk up of =
    of_behind s (nudges_by w.coordinator_up (coordinators.nudged w.coordinator)) (member_nudges w.seats) (nudge_of w.seats i s (omega (arith, mk.1)) up of)

-- the number of a message that is on its way
way_exact : (s : Sent) (low : ℕ) (letters : List Letter) (last : ℕ) → Rising low letters last → OnItsWay (Behind 0) s letters → (at : ℕ) × (at ≤ last) × OnItsWay (Exactly at) s letters
way_exact s low [] last r h = absurd h
way_exact s low (l ∷ letters) last r (inl h) = (l.number, rising_last l.number letters last r.1, inl (h.0, refl, h.2))
way_exact s low (l ∷ letters) last r (inr h) = (let z = way_exact s l.number letters last r.1 h in (z.0, z.1, inr z.2))

nudge_tokens : (g : Tree) (w : ClusterState) (o e l : ℕ) → Sound g o w → IsInOrder w → Led w e l → (send w (nudges w)).last < last_number → (low : ℕ) × HasTokens (send w (nudges w)) e l low
nudge_tokens g w o e l so order h room = go h.led
  where
    w' : ClusterState
    w' = send w (nudges w)

    runs : Running_by w' e l
    runs = let r = h.runs in record { coordinator_up = r.coordinator_up; phase = r.phase; epoch_is = r.epoch_is; idle = r.idle; is_member = r.is_member; leader_up = r.leader_up; promised = r.promised }

    fresh : (At : ℕ → Type 0) (x : Sent) → ((i : ℕ) → w.last < i → At i) → IsOf x (nudges w) → OnItsWay At x w'.mail
    fresh At x at of = way_behind At x w.mail (numbered w.last (nudges w)) (way_sent At x w.last (nudges w) at room of)

    one : (low k : ℕ) → low ≤ w.last → IsMember w k → k ≢ l → (seat w k).up ≡ true → (member w k).promise ≡ e → (r : MemberRole) → (member w k).role ≡ r → Token w' e l low k (member w k)
    one low k le mk ne up p Stopped role =
        Tells (tail_of (member w k).log) role (fresh (Behind 0) (mail 0 (messages.Stopped e k (tail_of (member w k).log))) (λ i z. omega (arith, z))
        (nudged_is w k (mail 0 (messages.Stopped e k (tail_of (member w k).log))) mk up
        (subst (λ (r : MemberRole). IsOf (mail 0 (messages.Stopped e k (tail_of (member w k).log))) (nudged_by r (member w k))) (sym role)
        (inl (ap (λ (q : ℕ). mail 0 (messages.Stopped q (member w k).number (tail_of (member w k).log))) p ∙ ap (λ (q : ℕ). mail 0 (messages.Stopped e q (tail_of (member w k).log))) (so.named k mk).0)))))
    one low k le mk ne up p (Follower f) role =
        let fl : f ≡ l = follows_leader g w o e l k f so h.runs p role in
        Asks (role ∙ ap Follower fl) (fresh (Behind low) (mail l (messages.Ask e k (tail_of (member w k).log))) (λ i z. omega (arith, z, le))
        (nudged_is w k (mail l (messages.Ask e k (tail_of (member w k).log))) mk up
        (subst (λ (r : MemberRole). IsOf (mail l (messages.Ask e k (tail_of (member w k).log))) (nudged_by r (member w k))) (sym role)
        (inl (ap (λ (q : ℕ). mail q (messages.Ask (member w k).promise (member w k).number (tail_of (member w k).log))) fl
        ∙ (ap (λ (q : ℕ). mail l (messages.Ask q (member w k).number (tail_of (member w k).log))) p ∙ ap (λ (q : ℕ). mail l (messages.Ask e q (tail_of (member w k).log))) (so.named k mk).0))))))
    one low k le mk ne up p (Leader d) role = absurd (ne (leads_alone g w o e l k d so h.runs p role))

    tokens : (low : ℕ) → low ≤ w.last → LeaderToken w' e l low → HasTokens w' e l low
    tokens low le token = record { runs = runs; leads = token; low_given = omega (arith, le); each = λ k mk ne up p. one low k le mk ne up p (member w k).role refl }

    go : IsLed w e l → (low : ℕ) × HasTokens w' e l low
    go (It_leads d role) = (0, tokens 0 (omega arith) (Leads d role))
    go (It_opens role way) =
        let x = way_exact (mail l (messages.Open e)) 0 w.mail w.last order.rising way in
        (x.0, tokens x.0 x.1 (Is_to_open role (way_more (Exactly x.0) (mail l (messages.Open e)) w.mail (numbered w.last (nudges w)) x.2)))

-- ---- the whole settle

record Begun (o e l : ℕ) (t : Turn) : Type 0 where
  stage : t.stage ≡ Jobs
  order : IsInOrder t.cluster
  reigns : List Reign
  sound : SoundWith Truthful o (with_reigns reigns t.cluster)
  led : Led (with_reigns reigns t.cluster) e l

data Next (o e l : ℕ) (x : Turn) : Type 0 where
  Still_jobs : Begun o e l x → Next o e l x
  Now_letters : (low : ℕ) → Going o e l low x → Next o e l x

next_of : (o e l now : ℕ) (t x : Turn) → Begun o e l t → CleanStep now t x → Next o e l x
next_of o e l now t x h c = go c.step c.performed
  where
    w : ClusterState
    w = with_reigns h.reigns t.cluster

    order : IsInOrder w
    order = record { rising = h.order.rising; fits = h.order.fits }

    go : (s : SettleStep now t x) → IsPerformed s → Next o e l x
    go (Perform k Fault s next eq) p = absurd p
    go (Perform k Receipt s next eq) p =
        let same : with_reigns h.reigns x.cluster ≡ performed k w = ap (λ (y : Turn). with_reigns h.reigns y.cluster) eq ∙ sym (performed_apart h.reigns k t.cluster) in
        Still_jobs (record {
          stage = ap (λ (y : Turn). y.stage) eq;
          order = step_order now t x h.order (Perform k Receipt s next eq);
          reigns = h.reigns;
          sound = subst (SoundWith Truthful o) (sym same) (event_with Truthful o now w (performed k w) truthful_property h.sound (events.Done k (job_is_up w k next) refl));
          led = subst (λ (y : ClusterState). Led y e l) (sym same) (works_led h.sound.tree w o e l k h.sound.sound next h.led);
        })
    go (Nudge s next eq) p =
        let same : with_reigns h.reigns x.cluster ≡ send w (nudges w) = ap (λ (y : Turn). with_reigns h.reigns y.cluster) eq in
        let room : (send w (nudges w)).last < last_number = subst (λ (y : ClusterState). y.last < last_number) same c.room in
        let tokens = nudge_tokens h.sound.tree w o e l h.sound.sound order h.led room in
        Now_letters tokens.0 (record {
          stage = ap (λ (y : Turn). y.stage) eq;
          order = step_order now t x h.order (Nudge s next eq);
          reigns = h.reigns;
          sound = subst (SoundWith Truthful o) (sym same) (event_with Truthful o now w (send w (nudges w)) truthful_property h.sound (events.Nudge refl));
          brought = inl (subst (λ (y : ClusterState). HasTokens y e l tokens.0) (sym same) tokens.1);
        })
    go (Follow_up k a s next eq) p = absurd (let z = sym s ∙ h.stage in cc z)
    go (Deliver n x s none next is eq) p = absurd (let z = sym s ∙ h.stage in cc z)
    go (Forget s none next eq) p = absurd (let z = sym s ∙ h.stage in cc z)

begun_complete : (o e l now : ℕ) (t : Turn) (turns : List Turn) (w' : ClusterState) → Begun o e l t → CleanSteps now t turns → last_turn t turns ≡ turn Rest w' → RunsWith w' e l → HasMost w' e → IsComplete w' l
begun_complete o e l now t [] w' h steps ends runs most = absurd (let z : Jobs ≡ Rest = sym h.stage ∙ ap (λ (y : Turn). y.stage) ends in cc z)
begun_complete o e l now t (x ∷ xs) w' h steps ends runs most = go (next_of o e l now t x h steps.0) (λ b. begun_complete o e l now x xs w' b steps.1 ends runs most)
  where
    go : Next o e l x → (Begun o e l x → IsComplete w' l) → IsComplete w' l
    go (Still_jobs b) on = on b
    go (Now_letters low g) on = run_complete o e l low now x xs w' g steps.1 ends runs most

pub settle_complete : (o e l now : ℕ) (reigns : List Reign) (w w' : ClusterState) → SoundWith Truthful o (with_reigns reigns w) → IsInOrder w → Running_by w e l → IsLed w e l
    → (turns : List Turn) → CleanSteps now (turn Jobs w) turns → last_turn (turn Jobs w) turns ≡ turn Rest w' → RunsWith w' e l → HasMost w' e → IsComplete w' l
settle_complete o e l now reigns w w' sound order r led turns steps ends runs most =
    begun_complete o e l now (turn Jobs w) turns w' (record {
      stage = refl;
      order = record { rising = order.rising; fits = order.fits };
      reigns = reigns;
      sound = sound;
      led = record {
        runs = record { coordinator_up = r.coordinator_up; phase = r.phase; epoch_is = r.epoch_is; idle = r.idle; is_member = r.is_member; leader_up = r.leader_up; promised = r.promised };
        led = go led;
      };
    }) steps ends runs most
  where
    go : IsLed w e l → IsLed (with_reigns reigns (bare w)) e l
    go (It_leads d role) = It_leads d role
    go (It_opens role way) = It_opens role way

-- ---- a leader with a job leads

pub works_leads : (o e l : ℕ) (j : Job) (w : ClusterState) → IsSound o w → Running_by w e l → (member w l).job ≡ Some j → IsLed w e l
works_leads o e l j w s r job = go (member w l).role refl
  where
    go : (x : MemberRole) → (member w l).role ≡ x → IsLed w e l
    go Stopped role = absurd (let z : Some j ≡ None = sym job ∙ stopped_idle s.tree w o e l l s.sound r r.leader_up r.promised role in cc z)
    go (Follower f) role =
        absurd (let h : RoleHolds s.tree w l (member w l).promise (Follower f) = subst (RoleHolds s.tree w l (member w l).promise) role (s.sound.each_member l).role in
        h.1 (sym (follows_leader s.tree w o e l l f s.sound r r.promised role)))
    go (Leader d) role = It_leads d role
