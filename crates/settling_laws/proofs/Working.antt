-- A finished job, and a delivery to the coordinator, keep the tokens.
use Rattle.std.proofs.Common.{◌≡◌, ℕ, ◌<◌, ◌≤◌, ◌≢◌, List, [], ◌∷◌, ◌++◌, length, refl, sym, ap, ◌∙◌, subst, inl, inr, arith, Option, Some, None, Bool, true, false, cond}
use Rattle.std.specs.Prelude.{◌==◌, nat_lt, not}
use Rattle.std.proofs.lemmas.Bool.{cases_eq, cases_Bool}
use Rattle.chunk_format.specs.Logs.{end_of}
use Rattle.epoch_coordinator.specs.declared.tail.Tail.{Tail}
use Rattle.epoch_coordinator.specs.declared.message.Job.{Job}
use Rattle.epoch_coordinator.specs.declared.message.Job.TheVariants.{Write, Cut, Promise, Epoch}
use Rattle.epoch_coordinator.specs.declared.message.Message.{Message}
use Rattle.epoch_coordinator.specs.declared.message.Message.TheVariants as messages
use Rattle.epoch_coordinator.specs.declared.message.Sent.{Sent}
use Rattle.epoch_coordinator.specs.declared.coordinator.Phase.{Phase}
use Rattle.epoch_coordinator.specs.declared.coordinator.Phase.TheVariants.{Running}
use Rattle.epoch_coordinator.specs.declared.coordinator.StoppedDid.TheVariants as did
use Rattle.epoch_coordinator.specs.Tails.{tail_of}
use Rattle.epoch_coordinator.specs.Members.{Leading, MemberRole, MemberState, Stopped, Follower, Leader}
use Rattle.epoch_coordinator.specs.MemberSteps.{Took, mail, asks, asks_by, cut_at, written, is_another, can_open, finished, finished_by, wrote, taken}
use Rattle.epoch_coordinator.specs.Coordinators.{CoordinatorState, Hears, hears, stopped, stopped_by, told_before, told_in_epoch, open_or_follow}
use Rattle.epoch_coordinator.specs.Scripts.{opened}
use Rattle.replication_laws.specs.Cluster.{Seat, ClusterState, seat_in, seat, member, IsMember, last_number, numbered, letter_in, marked}
use Rattle.replication_laws.specs.Events.{took, to_coordinator}
use Rattle.replication_laws.specs.Soundness.{Tree, IsOfFollower, IsOfLeader, JobHolds, LineHolds, Sound, acked}
use Rattle.replication_laws.proofs.Takings.{eq_is, eq_made}
use Rattle.settling_laws.specs.Tokens.{OnItsWay, Behind, Exactly, Token, Tells, Is_told, Asks, In_step, LeaderToken, Leads, Is_to_open, HasTokens, IsStuck}
use Rattle.settling_laws.proofs.Mails.{way_more, way_behind, way_marked, way_sent, IsOf}
use Rattle.settling_laws.proofs.Known.{follows_leader, leads_alone, stopped_idle}
use Rattle.settling_laws.proofs.Heard.{either, FairToLeader, OpenerTook, Waits_on, Opens, Cannot, opener_taken}
use Rattle.settling_laws.proofs.Bringing.{others_on, member_is, member_same, runs_on, took_tokens, another_is}

-- ---- jobs

pub job_done : (g : Tree) (w : ClusterState) (o e l low j : ℕ) (job : Job) → Sound g o w → HasTokens w e l low → IsMember w j → (seat w j).up ≡ true → (member w j).job ≡ Some job
    → (took j (finished (member w j)) w).last < last_number → HasTokens (took j (finished (member w j)) w) e l low
job_done g w o e l low j job so h lt up has room = elim (cases_eq j l) [ inl eq ↦ of_leader eq | inr ne ↦ of_other ne ]
  where
    m : MemberState
    m = member w j

    t : Took
    t = finished m

    w' : ClusterState
    w' = took j t w

    pass : (At : ℕ → Type 0) (x : Sent) → OnItsWay At x w.mail → OnItsWay At x w'.mail
    pass At x way = way_more At x w.mail (numbered w.last t.sent) way

    fresh : (At : ℕ → Type 0) (x : Sent) → ((i : ℕ) → w.last < i → At i) → IsOf x t.sent → OnItsWay At x w'.mail
    fresh At x at of = way_behind At x w.mail (numbered w.last t.sent) (way_sent At x w.last t.sent at room of)

    line : LineHolds m.promise m.log m.job m.role
    line = (so.each_member j).line up

    done : t ≡ finished_by (Some job) m
    done = ap (λ (x : Option Job). finished_by x m) has

    with_step : LeaderToken w' e l low → (j ≡ l → t.state.promise ≡ e) → (j ≢ l → t.state.promise ≡ e → Token w' e l low j t.state)
        → ((k : ℕ) (d : Leading) → (member w k).role ≡ Follower l → (member w l).role ≡ Leader d → (member w l).job ≡ None → end_of (member w l).log ≤ acked d.acknowledged k → Token w' e l low k (member w k))
        → HasTokens w' e l low
    with_step token keeps here step = took_tokens w e l low j t h.runs lt h.low_given keeps token here (λ k mk nj nl u pk.
        others_on w w' e l low k (member w k)
        (λ x role way. Tells x role (pass (Behind 0) (mail 0 (messages.Stopped e k x)) way))
        (λ msg way. pass (Behind 0) (mail k msg) way)
        (λ role way. Asks role (pass (Behind low) (mail l (messages.Ask e k (tail_of (member w k).log))) way))
        (λ d role lr lj le. step k d role lr lj le)
        (h.each k mk nl u pk))

    -- the leader's own chunk
    of_leader : j ≡ l → HasTokens w' e l low
    of_leader eq = go h.leads
      where
        mine : member w l ≡ m
        mine = ap (member w) (sym eq)

        go : LeaderToken w e l low → HasTokens w' e l low
        go (Is_to_open role way) =
            absurd (let idle = stopped_idle g w o e l l so h.runs h.runs.leader_up h.runs.promised role in let z : Some job ≡ None = sym has ∙ (ap (λ (x : MemberState). x.job) (sym mine) ∙ idle) in cc z)
        go (Leads d role) = by job has done
          where
            mr : m.role ≡ Leader d
            mr = ap (λ (x : MemberState). x.role) (sym mine) ∙ role

            writes : (x : Job) → m.job ≡ Some x → IsOfLeader (Some x)
            writes x jx = subst IsOfLeader jx ((subst (LineHolds m.promise m.log m.job) mr line)).writes

            by : (x : Job) → m.job ≡ Some x → t ≡ finished_by (Some x) m → HasTokens w' e l low
            by (Write c) jx dx =
                let is : t ≡ wrote (Leader d) c m = dx ∙ ap (λ (r : MemberRole). wrote r c m) mr in
                with_step
                (Leads (written m.log d) (ap (λ (x : ℕ). (member w' x).role) (sym eq) ∙ (ap (λ (x : MemberState). x.role) (member_is w j t lt) ∙ ap (λ (x : Took). x.state.role) is)))
                (λ z. ap (λ (x : Took). x.state.promise) is ∙ (ap (λ (x : MemberState). x.promise) (sym mine) ∙ h.runs.promised))
                (λ ne. absurd (ne eq))
                (λ k d' rk lr lj le. absurd (let z : Some job ≡ None = sym has ∙ (ap (λ (x : MemberState). x.job) (sym mine) ∙ lj) in cc z))
            by (Cut x) jx dx = absurd (writes (Cut x) jx)
            by (Promise x) jx dx = absurd (writes (Promise x) jx)
            by (Epoch x) jx dx = absurd (writes (Epoch x) jx)

    -- a follower's job, or a promise
    of_other : j ≢ l → HasTokens w' e l low
    of_other ne = with_step (leader h.leads) (λ eq. absurd (ne eq)) (λ nl p. here job has done m.role refl p) (λ k d role lr lj le. stepped k (member w k) d role lr lj le)
      where
        leader_same : member w' l ≡ member w l
        leader_same = member_same w j l t (λ eq. ne (sym eq))

        leader : LeaderToken w e l low → LeaderToken w' e l low
        leader (Leads d role) = Leads d (ap (λ (x : MemberState). x.role) leader_same ∙ role)
        leader (Is_to_open role way) = Is_to_open (ap (λ (x : MemberState). x.role) leader_same ∙ role) (pass (Exactly low) (mail l (messages.Open e)) way)

        stepped : (k : ℕ) (x : MemberState) (d : Leading) → x.role ≡ Follower l → (member w l).role ≡ Leader d → (member w l).job ≡ None → end_of (member w l).log ≤ acked d.acknowledged k → Token w' e l low k x
        stepped k x d role lr lj le =
            In_step d role (ap (λ (y : MemberState). y.role) leader_same ∙ lr) (ap (λ (y : MemberState). y.job) leader_same ∙ lj)
            (subst (λ (y : MemberState). end_of y.log ≤ acked d.acknowledged k) (sym leader_same) le)

        named : (m.number ≡ j) × (m.members ≡ length w.seats)
        named = so.named j lt

        asks_as : (f : ℕ) (x : MemberState) → x.role ≡ Follower f → x.promise ≡ m.promise → x.number ≡ m.number → m.role ≡ Follower f → t ≡ asks f x → t.state.promise ≡ e → Token w' e l low j t.state
        asks_as f x xr xp xn role eq pe =
            let p : m.promise ≡ e = sym xp ∙ (ap (λ (y : Took). y.state.promise) (sym eq) ∙ pe) in
            let fl : f ≡ l = follows_leader g w o e l j f so h.runs p role in
            subst (λ (y : MemberState). Token w' e l low j y) (sym (ap (λ (y : Took). y.state) eq))
            (Asks (xr ∙ ap Follower fl) (fresh (Behind low) (mail l (messages.Ask e j (tail_of x.log))) (λ i z. (let y = h.low_given in omega (arith, z, y)))
            (subst (λ (y : Took). IsOf (mail l (messages.Ask e j (tail_of x.log))) y.sent) (sym eq)
            (inl (ap (λ (q : ℕ). mail q (messages.Ask x.promise x.number (tail_of x.log))) fl ∙ (ap (λ (q : ℕ). mail l (messages.Ask q x.number (tail_of x.log))) (xp ∙ p) ∙ ap (λ (q : ℕ). mail l (messages.Ask e q (tail_of x.log))) (xn ∙ named.0)))))))

        not_stopped : m.promise ≡ e → m.role ≡ Stopped → ⊥
        not_stopped p role = let z : Some job ≡ None = sym has ∙ stopped_idle g w o e l j so h.runs up p role in cc z

        promises : (x : ℕ) → m.job ≡ Some (Promise x) → (r : MemberRole) → m.role ≡ r → (t ≡ finished_by (Some (Promise x)) m) → t.state.promise ≡ e → Token w' e l low j t.state
        promises x jx Stopped role dx pe =
            let n : MemberState = record m { promise = x; job = None } in
            let xe : x ≡ e = ap (λ (y : Took). y.state.promise) (sym dx) ∙ pe in
            subst (λ (y : MemberState). Token w' e l low j y) (sym (ap (λ (y : Took). y.state) dx))
            (Tells (tail_of m.log) role (fresh (Behind 0) (mail 0 (messages.Stopped e j (tail_of m.log))) (λ i z. omega (arith, z))
            (subst (λ (y : Took). IsOf (mail 0 (messages.Stopped e j (tail_of m.log))) y.sent) (sym dx)
            (inl (ap (λ (q : ℕ). mail 0 (messages.Stopped q m.number (tail_of m.log))) xe ∙ ap (λ (q : ℕ). mail 0 (messages.Stopped e q (tail_of m.log))) named.0)))))
        promises x jx (Follower f) role dx pe = absurd (subst IsOfFollower jx (subst (LineHolds m.promise m.log m.job) role line))
        promises x jx (Leader d) role dx pe = absurd (subst IsOfLeader jx (subst (LineHolds m.promise m.log m.job) role line).writes)

        here : (x : Job) → m.job ≡ Some x → t ≡ finished_by (Some x) m → (r : MemberRole) → m.role ≡ r → t.state.promise ≡ e → Token w' e l low j t.state
        here (Write c) jx dx Stopped role pe =
            let is : t ≡ wrote Stopped c m = dx ∙ ap (λ (r : MemberRole). wrote r c m) role in absurd (not_stopped (ap (λ (y : Took). y.state.promise) (sym is) ∙ pe) role)
        here (Write c) jx dx (Follower f) role pe =
            asks_as f (record m { log = m.log ++ c ∷ []; job = None }) role refl refl role (dx ∙ ap (λ (r : MemberRole). wrote r c m) role) pe
        here (Write c) jx dx (Leader d) role pe =
            let is : t ≡ wrote (Leader d) c m = dx ∙ ap (λ (r : MemberRole). wrote r c m) role in
            absurd (ne (leads_alone g w o e l j d so h.runs (ap (λ (y : Took). y.state.promise) (sym is) ∙ pe) role))
        here (Cut x) jx dx Stopped role pe =
            let is : t ≡ asks_by Stopped (record m { log = cut_at x m.log; job = None }) = dx ∙ ap (λ (r : MemberRole). asks_by r (record m { log = cut_at x m.log; job = None })) role in
            absurd (not_stopped (ap (λ (y : Took). y.state.promise) (sym is) ∙ pe) role)
        here (Cut x) jx dx (Follower f) role pe =
            asks_as f (record m { log = cut_at x m.log; job = None }) role refl refl role (dx ∙ ap (λ (r : MemberRole). asks_by r (record m { log = cut_at x m.log; job = None })) role) pe
        here (Cut x) jx dx (Leader d) role pe =
            let is : t ≡ asks_by (Leader d) (record m { log = cut_at x m.log; job = None }) = dx ∙ ap (λ (r : MemberRole). asks_by r (record m { log = cut_at x m.log; job = None })) role in
            absurd (ne (leads_alone g w o e l j d so h.runs (ap (λ (y : Took). y.state.promise) (sym is) ∙ pe) role))
        here (Promise x) jx dx r role pe = promises x jx r role dx pe
        here (Epoch x) jx dx r role pe = absurd (subst (JobHolds g w j m.promise m.log) jx (so.each_member j).job)

-- ---- the coordinator

pub data CoordinatorTook (e l : ℕ) (c : CoordinatorState) (x from : ℕ) (h : Hears) : Type 0 where
  Passes : h.state.phase ≡ c.phase → h.state.epoch ≡ c.epoch → h.state.job ≡ c.job → (is_another c.members 0 from ≡ true → x ≡ e → ⊥) → CoordinatorTook e l c x from h
  Tells_back : h.state.phase ≡ c.phase → h.state.epoch ≡ c.epoch → h.state.job ≡ c.job → IsOf (open_or_follow e l from) (opened h.state h.answer) → CoordinatorTook e l c x from h

clash : (b : Bool) → b ≡ true → b ≡ false → ⊥
clash b t f = cc (t, f)

pub coordinator_took : (e l x from : ℕ) (u : Tail) (c : CoordinatorState) → c.phase ≡ Running l → c.epoch ≡ e → c.job ≡ None → CoordinatorTook e l c x from (stopped x from u c)
coordinator_took e l x from u c phase epoch idle =
    subst (λ (j : Option ℕ). CoordinatorTook e l c x from (stopped_by j x from u c)) (sym idle)
    (either (CoordinatorTook e l c x from) (not (is_another c.members 0 from)) (hears c did.Nothing) (cond (nat_lt x c.epoch) (told_before c.phase from c) (cond (x == c.epoch) (told_in_epoch c.phase from u c) (hears c did.Nothing)))
    (λ n. Passes refl refl refl (λ y z. clash_not (is_another c.members 0 from) y n))
    (λ f. either (CoordinatorTook e l c x from) (nat_lt x c.epoch) (told_before c.phase from c) (cond (x == c.epoch) (told_in_epoch c.phase from u c) (hears c did.Nothing))
    (λ lt. subst (λ (p : Phase). CoordinatorTook e l c x from (told_before p from c)) (sym phase) (Passes refl refl refl (λ y z. less x c.epoch lt (z ∙ sym epoch))))
    (λ nlt. either (CoordinatorTook e l c x from) (x == c.epoch) (told_in_epoch c.phase from u c) (hears c did.Nothing)
    (λ same. subst (λ (p : Phase). CoordinatorTook e l c x from (told_in_epoch p from u c)) (sym phase) (Tells_back refl refl refl (inl (ap (λ (n : ℕ). open_or_follow n l from) epoch))))
    (λ ne. Passes refl refl refl (λ y z. clash (x == c.epoch) (eq_made x c.epoch (z ∙ sym epoch)) ne)))))
  where
    clash_not : (b : Bool) → b ≡ true → not b ≡ true → ⊥
    clash_not true y n = cc n
    clash_not false y n = cc y

    less : (a b : ℕ) → nat_lt a b ≡ true → a ≡ b → ⊥
    less a b lt same = let z : a < b = lt_is a b lt in omega (arith, z, same)
      where
        lt_is : (a b : ℕ) → nat_lt a b ≡ true → a < b
        lt_is a b h = grind arith

same_number : (n : ℕ) → (n == n) ≡ true
same_number n = eq_made n n refl

to_follow : (e l k : ℕ) → k ≢ l → open_or_follow e l k ≡ mail k (messages.Follow e l)
to_follow e l k ne = elim (cases_Bool (k == l)) [
  | inl y ↦ absurd (ne (eq_is k l y))
  | inr n ↦ ap (λ (b : Bool). mail k (cond b (messages.Open e) (messages.Follow e l))) n
]

-- a message that isn't Stopped changes nothing but that it was delivered
pub quiet_delivers : (g : Tree) (w : ClusterState) (o n e l low : ℕ) (s : Sent) → HasTokens w e l low → letter_in n w.mail ≡ Some s → s.to ≡ 0 → ((k : ℕ) (x : Tail) → s.message ≡ messages.Stopped e k x → ⊥)
    → HasTokens (record w { mail = marked n w.mail }) e l low
quiet_delivers g w o n e l low s h is to other = record {
  runs = (let r = h.runs in record { coordinator_up = r.coordinator_up; phase = r.phase; epoch_is = r.epoch_is; idle = r.idle; is_member = r.is_member; leader_up = r.leader_up; promised = r.promised });
  leads = leader h.leads;
  low_given = h.low_given;
  each = λ k mk nl u p. others_on w w' e l low k (member w k)
      (λ x role way. Tells x role (pass (Behind 0) (mail 0 (messages.Stopped e k x)) (λ z. other k x (ap (λ (y : Sent). y.message) z)) way))
      (λ msg way. pass (Behind 0) (mail k msg) (to_else k msg mk.0) way)
      (λ role way. Asks role (pass (Behind low) (mail l (messages.Ask e k (tail_of (member w k).log))) (to_else l (messages.Ask e k (tail_of (member w k).log)) h.runs.is_member.0) way))
      (λ d role lr lj le. In_step d role lr lj le)
      (h.each k mk nl u p);
}
  where
    w' : ClusterState
    w' = record w { mail = marked n w.mail }

    pass : (At : ℕ → Type 0) (x : Sent) → (s ≡ x → ⊥) → OnItsWay At x w.mail → OnItsWay At x w'.mail
    pass At x ne way = way_marked At n x s w.mail is (λ at. ne) way

    to_else : (k : ℕ) (msg : Message) → 0 < k → s ≡ mail k msg → ⊥
    to_else k msg pos eq = let z : k ≡ 0 = sym (ap (λ (x : Sent). x.to) eq) ∙ to in omega (arith, z, pos)

    leader : LeaderToken w e l low → LeaderToken w' e l low
    leader (Leads d role) = Leads d role
    leader (Is_to_open role way) = Is_to_open role (pass (Exactly low) (mail l (messages.Open e)) (to_else l (messages.Open e) h.runs.is_member.0) way)

pub stopped_delivers : (g : Tree) (w : ClusterState) (o n e l low x from : ℕ) (u : Tail) (s : Sent) → Sound g o w → HasTokens w e l low → letter_in n w.mail ≡ Some s → s.to ≡ 0 → s.message ≡ messages.Stopped x from u
    → (to_coordinator (messages.Stopped x from u) (record w { mail = marked n w.mail })).last < last_number
    → HasTokens (to_coordinator (messages.Stopped x from u) (record w { mail = marked n w.mail })) e l low
stopped_delivers g w o n e l low x from u s so h is to msg room = go (coordinator_took e l x from u w.coordinator h.runs.phase h.runs.epoch_is h.runs.idle)
  where
    hs : Hears
    hs = stopped x from u w.coordinator

    w' : ClusterState
    w' = to_coordinator (messages.Stopped x from u) (record w { mail = marked n w.mail })

    sent : List Sent
    sent = opened hs.state hs.answer

    pass : (At : ℕ → Type 0) (y : Sent) → (s ≡ y → ⊥) → OnItsWay At y w.mail → OnItsWay At y w'.mail
    pass At y ne way = way_more At y (marked n w.mail) (numbered w.last sent) (way_marked At n y s w.mail is (λ at. ne) way)

    fresh : (y : Sent) → IsOf y sent → OnItsWay (Behind 0) y w'.mail
    fresh y of = way_behind (Behind 0) y (marked n w.mail) (numbered w.last sent) (way_sent (Behind 0) y w.last sent (λ i z. omega (arith, z)) room of)

    to_else : (k : ℕ) (m : Message) → 0 < k → s ≡ mail k m → ⊥
    to_else k m pos eq = let z : k ≡ 0 = sym (ap (λ (y : Sent). y.to) eq) ∙ to in omega (arith, z, pos)

    leader : LeaderToken w e l low → LeaderToken w' e l low
    leader (Leads d role) = Leads d role
    leader (Is_to_open role way) = Is_to_open role (pass (Exactly low) (mail l (messages.Open e)) (to_else l (messages.Open e) h.runs.is_member.0) way)

    with_tells : hs.state.phase ≡ w.coordinator.phase → hs.state.epoch ≡ w.coordinator.epoch → hs.state.job ≡ w.coordinator.job
        → ((k : ℕ) → IsMember w k → k ≢ l → (y : Tail) → (member w k).role ≡ Stopped → OnItsWay (Behind 0) (mail 0 (messages.Stopped e k y)) w.mail → Token w' e l low k (member w k)) → HasTokens w' e l low
    with_tells ph ep jb tells = record {
      runs = (let r = h.runs in record { coordinator_up = r.coordinator_up; phase = ph ∙ r.phase; epoch_is = ep ∙ r.epoch_is; idle = jb ∙ r.idle; is_member = r.is_member; leader_up = r.leader_up; promised = r.promised });
      leads = leader h.leads;
      low_given = (let z = h.low_given in omega (arith, z));
      each = λ k mk nl up p. others_on w w' e l low k (member w k)
          (λ y role way. tells k mk nl y role way)
          (λ m way. pass (Behind 0) (mail k m) (to_else k m mk.0) way)
          (λ role way. Asks role (pass (Behind low) (mail l (messages.Ask e k (tail_of (member w k).log))) (to_else l (messages.Ask e k (tail_of (member w k).log)) h.runs.is_member.0) way))
          (λ d role lr lj le. In_step d role lr lj le)
          (h.each k mk nl up p);
    }

    named : (k : ℕ) → IsMember w k → is_another w.coordinator.members 0 k ≡ true
    named k mk = another_is w.coordinator.members 0 k mk.0 (let c = so.coordinator.count in let z = mk.1 in omega (arith, c, z)) (λ z. (let y = mk.0 in omega (arith, y, z)))

    go : CoordinatorTook e l w.coordinator x from hs → HasTokens w' e l low
    go (Passes ph ep jb none) =
        with_tells ph ep jb (λ k mk nl y role way. Tells y role (pass (Behind 0) (mail 0 (messages.Stopped e k y))
        (λ z. (let same : messages.Stopped x from u ≡ messages.Stopped e k y = sym msg ∙ ap (λ (q : Sent). q.message) z in let xe : x ≡ e = cc same in let fk : from ≡ k = cc same in
        none (subst (λ (i : ℕ). is_another w.coordinator.members 0 i ≡ true) (sym fk) (named k mk)) xe)) way))
    go (Tells_back ph ep jb of) =
        with_tells ph ep jb (λ k mk nl y role way. elim (cases_eq from k) [
          | inr ne ↦ Tells y role (pass (Behind 0) (mail 0 (messages.Stopped e k y))
              (λ z. (let same : messages.Stopped x from u ≡ messages.Stopped e k y = sym msg ∙ ap (λ (q : Sent). q.message) z in let fk : from ≡ k = cc same in ne fk)) way)
          | inl fk ↦ Is_told role (fresh (mail k (messages.Follow e l)) (subst (λ (q : Sent). IsOf q sent) (ap (λ (i : ℕ). open_or_follow e l i) fk ∙ to_follow e l k nl) of))
        ])

-- ---- a leader that can't open stays so

pub stuck_took : (w : ClusterState) (e l j : ℕ) (t : Took) → IsStuck w e l → IsMember w j → (j ≡ l → t.state ≡ member w l) → IsStuck (took j t w) e l
stuck_took w e l j t h lt same = record {
  runs = runs_on w e l j t h.runs lt (λ eq. ap (λ (m : MemberState). m.promise) (same eq) ∙ h.runs.promised);
  stopped = ap (λ (m : MemberState). m.role) leader ∙ h.stopped;
  cannot = subst (λ (m : MemberState). can_open e m.log ≡ false) (sym leader) h.cannot;
}
  where
    leader : member (took j t w) l ≡ member w l
    leader = elim (cases_eq l j) [
      | inl eq ↦ subst (λ (x : ℕ). member (took j t w) x ≡ member w l) (sym eq) (member_is w j t lt ∙ same (sym eq))
      | inr ne ↦ member_same w j l t ne
    ]

pub stuck_mail : (w w' : ClusterState) (e l : ℕ) → IsStuck w e l → w'.seats ≡ w.seats → w'.coordinator_up ≡ w.coordinator_up → w'.coordinator.phase ≡ w.coordinator.phase → w'.coordinator.epoch ≡ w.coordinator.epoch
    → w'.coordinator.job ≡ w.coordinator.job → IsStuck w' e l
stuck_mail w w' e l h se up ph ep jb = record {
  runs = (let r = h.runs in record {
    coordinator_up = up ∙ r.coordinator_up;
    phase = ph ∙ r.phase;
    epoch_is = ep ∙ r.epoch_is;
    idle = jb ∙ r.idle;
    is_member = (r.is_member.0, (let z = r.is_member.1 in let c = ap length se in omega (arith, z, c)));
    leader_up = ap (λ (ss : List Seat). (seat_in ss l).up) se ∙ r.leader_up;
    promised = ap (λ (ss : List Seat). (seat_in ss l).state.promise) se ∙ r.promised;
  });
  stopped = ap (λ (ss : List Seat). (seat_in ss l).state.role) se ∙ h.stopped;
  cannot = subst (λ (ss : List Seat). can_open e (seat_in ss l).state.log ≡ false) (sym se) h.cannot;
}

pub stuck_heard : (now e : ℕ) (msg : Message) (m : MemberState) → FairToLeader e msg → m.promise ≡ e → m.role ≡ Stopped → can_open e m.log ≡ false → (taken now msg m).state ≡ m
stuck_heard now e msg m fair p role cannot = go (opener_taken now e msg m fair p role)
  where
    go : OpenerTook e m msg (taken now msg m) → (taken now msg m).state ≡ m
    go (Waits_on eq z) = eq
    go (Opens d r q can) = absurd (clash (can_open e m.log) can cannot)
    go (Cannot eq z) = eq
