-- A delivery to the leader keeps the tokens.
use Rattle.std.proofs.Common.{◌≡◌, ℕ, ◌<◌, ◌≤◌, ◌≢◌, ◌⊎◌, List, length, refl, sym, ap, ◌∙◌, subst, inl, inr, arith, Option, Some, None, Bool, true, false, cond, zero, suc}
use Rattle.std.specs.Prelude.{◌==◌, max, slice_index}
use Rattle.std.proofs.lemmas.Bool.{cases_eq, cases_lt}
use Rattle.chunk_format.specs.declared.chunk.Chunk.{Chunk}
use Rattle.chunk_format.specs.Logs.{end_of, last_epoch, Truthful}
use Rattle.epoch_coordinator.specs.declared.tail.Tail.{Tail}
use Rattle.epoch_coordinator.specs.declared.tail.Run.{Run}
use Rattle.epoch_coordinator.specs.declared.message.Message.{Message}
use Rattle.epoch_coordinator.specs.declared.message.Message.TheVariants as messages
use Rattle.epoch_coordinator.specs.declared.message.Sent.{Sent}
use Rattle.epoch_coordinator.specs.Tails.{tail_of, runs_of, contains}
use Rattle.epoch_coordinator.specs.Members.{Leading, MemberState, Follower, Leader}
use Rattle.epoch_coordinator.specs.MemberSteps.{Took, mail, says, is_another, can_open, chunk_from, raise, acknowledge, send_next, ask_of_leader, ends_in, goes_on, taken}
use Rattle.replication_laws.specs.Cluster.{ClusterState, member, IsMember, last_number, numbered, letter_in, marked, is_opened}
use Rattle.replication_laws.specs.Events.{took}
use Rattle.replication_laws.specs.Soundness.{Tree, TailMark, LeadsEpoch, MessageHolds, LeaderHolds, RoleHolds, Sound, acked}
use Rattle.replication_laws.proofs.Logs.{same_tail_is}
use Rattle.replication_laws.proofs.Followers.{tail_mark}
use Rattle.replication_laws.proofs.Leaders.{raised_here, raised_else}
use Rattle.replication_laws.proofs.Takings.{eq_made}
use Rattle.replication_laws.proofs.Joined.{open_log}
use Rattle.settling_laws.specs.Tokens.{OnItsWay, Behind, Exactly, Token, Tells, Asks, Gets, Is_shaped, In_step, LeaderToken, Leads, Is_to_open, Running_by, HasTokens, IsStuck}
use Rattle.settling_laws.proofs.Mails.{way_more, way_behind, way_marked, way_sent, IsOf}
use Rattle.settling_laws.proofs.Known.{leader_leads, leader_opened, ask_top, ask_next, ask_out}
use Rattle.settling_laws.proofs.Heard.{either, FairToLeader, LeaderTook, Quiet, Answers, leader_taken, OpenerTook, Waits_on, Opens, Cannot, opener_taken}
use Rattle.settling_laws.proofs.Bringing.{others_on, member_is, runs_on, took_tokens, fair_to_leader, another_is}

-- ---- what a leader that is asked counts

pub record Counts (d : Leading) (m n : MemberState) : Type 0 where
  pub now : Leading
  pub role : n.role ≡ Leader now
  pub log : n.log ≡ m.log
  pub job : n.job ≡ m.job
  pub promise : n.promise ≡ m.promise
  pub more : (k : ℕ) → acked d.acknowledged k ≤ acked now.acknowledged k

max_left : (a b : ℕ) → a ≤ max a b
max_left a b = elim (cases_lt a b) [ inl lt ↦ omega (arith, lt) | inr ge ↦ omega (arith, ge) ]

max_right : (a b : ℕ) → b ≤ max a b
max_right a b = elim (cases_lt a b) [ inl lt ↦ omega (arith, lt) | inr ge ↦ omega (arith, ge) ]

raised_more : (acks : List ℕ) (i n k : ℕ) → i < length acks → acked acks k ≤ acked (raise (suc i) n acks) k
raised_more acks i n k lt = elim (cases_eq k (suc i)) [
  | inl eq ↦ subst (λ (x : ℕ). acked acks x ≤ acked (raise (suc i) n acks) x) (sym eq)
      (subst (λ (x : ℕ). acked acks (suc i) ≤ x) (sym (raised_here acks i n lt)) (max_right n (slice_index acks i)))
  | inr ne ↦ subst (λ (x : ℕ). acked acks k ≤ x) (sym (raised_else acks i n k ne)) (omega arith)
]

sent_state : (P : MemberState → Type 0) (o : Option Chunk) (k : ℕ) (u : Tail) (n : MemberState) → P n → P (send_next o k u n).state
sent_state P None k u n p = p
sent_state P (Some c) k u n p = p

counts : (d : Leading) (i : ℕ) (u : Tail) (m : MemberState) → m.role ≡ Leader d → i < length d.acknowledged → Counts d m (ask_of_leader d (suc i) u m).state
counts d i u m role lt =
    either (λ (t : Took). Counts d m t.state) (contains (runs_of m.log) u) (send_next (chunk_from u.end m.log) (suc i) u (record m { role = Leader (acknowledge m.promise (suc i) u d) })) (says (suc i) (messages.Shape m.promise d.kept) m)
    (λ y. sent_state (Counts d m) (chunk_from u.end m.log) (suc i) u (record m { role = Leader (acknowledge m.promise (suc i) u d) }) (counted (u.epoch == m.promise)))
    (λ n. record { now = d; role = role; log = refl; job = refl; promise = refl; more = λ k. omega arith })
  where
    counted : (b : Bool) → Counts d m (record m { role = Leader (cond b (record d { acknowledged = raise (suc i) u.end d.acknowledged }) d) })
    counted true = record { now = record d { acknowledged = raise (suc i) u.end d.acknowledged }; role = refl; log = refl; job = refl; promise = refl; more = λ k. raised_more d.acknowledged i u.end k lt }
    counted false = record { now = d; role = refl; log = refl; job = refl; promise = refl; more = λ k. omega arith }

-- what comes back to who asked by the tail that it has
data Answer (d : Leading) (i : ℕ) (u : Tail) (m : MemberState) (t : Took) : Type 0 where
  All_there : (n : Leading) → contains (runs_of m.log) u ≡ true → chunk_from u.end m.log ≡ None → t.state.role ≡ Leader n → ((u.epoch ≡ m.promise) → u.end ≤ acked n.acknowledged (suc i)) → Answer d i u m t
  Next : (c : Chunk) → contains (runs_of m.log) u ≡ true → chunk_from u.end m.log ≡ Some c → IsOf (mail (suc i) (messages.Append m.promise u c)) t.sent → Answer d i u m t
  Shaped : contains (runs_of m.log) u ≡ false → IsOf (mail (suc i) (messages.Shape m.promise d.kept)) t.sent → Answer d i u m t

answer : (d : Leading) (i : ℕ) (u : Tail) (m : MemberState) → m.role ≡ Leader d → i < length d.acknowledged → Answer d i u m (ask_of_leader d (suc i) u m)
answer d i u m role lt =
    either (Answer d i u m) (contains (runs_of m.log) u) (send_next (chunk_from u.end m.log) (suc i) u (record m { role = Leader (acknowledge m.promise (suc i) u d) })) (says (suc i) (messages.Shape m.promise d.kept) m)
    (λ y. next y (chunk_from u.end m.log) refl)
    (λ n. Shaped n (inl refl))
  where
    raised : u.epoch ≡ m.promise → u.end ≤ acked (acknowledge m.promise (suc i) u d).acknowledged (suc i)
    raised e = subst (λ (b : Bool). u.end ≤ acked (cond b (record d { acknowledged = raise (suc i) u.end d.acknowledged }) d).acknowledged (suc i)) (sym (eq_made u.epoch m.promise e))
        (subst (λ (x : ℕ). u.end ≤ x) (sym (raised_here d.acknowledged i u.end lt)) (max_left u.end (slice_index d.acknowledged i)))

    next : contains (runs_of m.log) u ≡ true → (o : Option Chunk) → chunk_from u.end m.log ≡ o → Answer d i u m (send_next o (suc i) u (record m { role = Leader (acknowledge m.promise (suc i) u d) }))
    next y None e = All_there (acknowledge m.promise (suc i) u d) y e refl raised
    next y (Some c) e = Next c y e (inl refl)

of_as : (a b : Sent) (xs : List Sent) → a ≡ b → IsOf a xs → IsOf b xs
of_as a b xs e h = subst (λ (x : Sent). IsOf x xs) e h

append_as : (i k p e : ℕ) (u v : Tail) (c : Chunk) → k ≡ i → p ≡ e → u ≡ v → mail i (messages.Append p u c) ≡ mail k (messages.Append e v c)
append_as i k p e u v c ki pe uv =
    ap (λ (x : ℕ). mail x (messages.Append p u c)) (sym ki) ∙ (ap (λ (x : ℕ). mail k (messages.Append x u c)) pe ∙ ap (λ (x : Tail). mail k (messages.Append e x c)) uv)

shape_as : (i k p e : ℕ) (runs : List Run) → k ≡ i → p ≡ e → mail i (messages.Shape p runs) ≡ mail k (messages.Shape e runs)
shape_as i k p e runs ki pe = ap (λ (x : ℕ). mail x (messages.Shape p runs)) (sym ki) ∙ ap (λ (x : ℕ). mail k (messages.Shape x runs)) pe

-- ---- a message comes to the leader

pub leader_delivers : (g : Tree) (w : ClusterState) (o now n e l low : ℕ) (s : Sent) → Sound g o w → ((x : ℕ) → Truthful (g.canon x)) → HasTokens w e l low → (member w l).job ≡ None
    → MessageHolds g w l s.message → letter_in n w.mail ≡ Some s → s.to ≡ l
    → (OnItsWay (Exactly low) (mail l (messages.Open e)) w.mail → n ≤ low)
    → (took l (taken now s.message (member w l)) (record w { mail = marked n w.mail })).last < last_number
    → HasTokens (took l (taken now s.message (member w l)) (record w { mail = marked n w.mail })) e l low ⊎ IsStuck (took l (taken now s.message (member w l)) (record w { mail = marked n w.mail })) e l
leader_delivers g w o now n e l low s so truth h job holds is to least room = start h.leads
  where
    m : MemberState
    m = member w l

    w1 : ClusterState
    w1 = record w { mail = marked n w.mail }

    t : Took
    t = taken now s.message m

    w' : ClusterState
    w' = took l t w1

    lt : IsMember w l
    lt = h.runs.is_member

    p : m.promise ≡ e
    p = h.runs.promised

    runs1 : Running_by w1 e l
    runs1 = let r = h.runs in record { coordinator_up = r.coordinator_up; phase = r.phase; epoch_is = r.epoch_is; idle = r.idle; is_member = r.is_member; leader_up = r.leader_up; promised = r.promised }

    pass : (At : ℕ → Type 0) (x : Sent) → (At n → s ≡ x → ⊥) → OnItsWay At x w.mail → OnItsWay At x w'.mail
    pass At x other way = way_more At x (marked n w.mail) (numbered w.last t.sent) (way_marked At n x s w.mail is other way)

    fresh : (x : Sent) → IsOf x t.sent → OnItsWay (Behind 0) x w'.mail
    fresh x of = way_behind (Behind 0) x (marked n w.mail) (numbered w.last t.sent) (way_sent (Behind 0) x w.last t.sent (λ i z. omega (arith, z)) room of)

    to_else : (k : ℕ) (msg : Message) → k ≢ l → s ≡ mail k msg → ⊥
    to_else k msg nk eq = nk (sym (ap (λ (x : Sent). x.to) eq) ∙ to)

    message_of : (k : ℕ) (msg : Message) → s ≡ mail k msg → s.message ≡ msg
    message_of k msg eq = ap (λ (x : Sent). x.message) eq

    leads : LeadsEpoch w e l
    leads = leader_leads g w o e l so h.runs

    fair : FairToLeader e s.message
    fair = fair_to_leader g w e l s.message h.runs.epoch_is leads holds

    leader_now : member w' l ≡ t.state
    leader_now = member_is w1 l t lt

    named : (m.number ≡ l) × (m.members ≡ length w.seats)
    named = so.named l lt

    another : (k : ℕ) → IsMember w k → k ≢ l → is_another m.members m.number k ≡ true
    another k mk nl = another_is m.members m.number k mk.0 (let z = mk.1 in omega (arith, z, named.1)) (λ z. nl (z ∙ named.0))

    with_tokens : LeaderToken w' e l low → t.state.promise ≡ e
        → ((k : ℕ) → IsMember w k → k ≢ l → (member w k).role ≡ Follower l → OnItsWay (Behind low) (mail l (messages.Ask e k (tail_of (member w k).log))) w.mail → Token w' e l low k (member w k))
        → ((k : ℕ) (d : Leading) → (member w k).role ≡ Follower l → m.role ≡ Leader d → end_of m.log ≤ acked d.acknowledged k → Token w' e l low k (member w k))
        → HasTokens w' e l low
    with_tokens token p' asks step = took_tokens w1 e l low l t runs1 lt h.low_given (λ z. p') token (λ ne. absurd (ne refl)) (λ k mk nj nl u pk.
        others_on w w' e l low k (member w k)
        (λ u role way. Tells u role (pass (Behind 0) (mail 0 (messages.Stopped e k u)) (λ at. to_else 0 (messages.Stopped e k u) (λ z. (let y = lt.0 in omega (arith, z, y)))) way))
        (λ msg way. pass (Behind 0) (mail k msg) (λ at. to_else k msg nl) way)
        (λ role way. asks k mk nl role way)
        (λ d role lr lj le. step k d role lr le)
        (h.each k mk nl u pk))

    -- it leads, and stays as it is
    quiet : (d : Leading) → m.role ≡ Leader d → t.state ≡ m → ((k : ℕ) (u : Tail) → is_another m.members m.number k ≡ true → s.message ≡ messages.Ask e k u → ⊥) → HasTokens w' e l low
    quiet d role eq none =
        let same : member w' l ≡ m = leader_now ∙ eq in
        with_tokens (Leads d (ap (λ (x : MemberState). x.role) same ∙ role)) (ap (λ (x : MemberState). x.promise) eq ∙ p)
        (λ k mk nl rk way. Asks rk (pass (Behind low) (mail l (messages.Ask e k (tail_of (member w k).log))) (λ at z. none k (tail_of (member w k).log) (another k mk nl) (message_of l (messages.Ask e k (tail_of (member w k).log)) z)) way))
        (λ k d' rk lr le. In_step d' rk (ap (λ (x : MemberState). x.role) same ∙ lr) (ap (λ (x : MemberState). x.job) same ∙ job) (subst (λ (x : MemberState). end_of x.log ≤ acked d'.acknowledged k) (sym same) le))

    -- it answers who asks
    answers : (d : Leading) → m.role ≡ Leader d → d.opened ≡ true → (i : ℕ) (u : Tail) → s.message ≡ messages.Ask e (suc i) u → is_another m.members m.number (suc i) ≡ true → t ≡ ask_of_leader d (suc i) u m → HasTokens w' e l low
    answers d role opened i u msg other eq =
        with_tokens (Leads c.now (ap (λ (x : MemberState). x.role) leader_now ∙ c.role)) (c.promise ∙ p) asks
        (λ k d' rk lr le. in_step k rk (let same : d' ≡ d = (let z : Leader d' ≡ Leader d = sym lr ∙ role in cc z) in let z = c.more k in subst (λ (x : Leading). end_of m.log ≤ acked x.acknowledged k → end_of m.log ≤ acked c.now.acknowledged k) (sym same) (λ y. omega (arith, y, z)) le))
      where
        places : i < length d.acknowledged
        places =
            let rh : LeaderHolds g w l m.promise d = subst (RoleHolds g w l m.promise) role (so.each_member l).role in
            let low : suc i ≤ m.members = another_low m.members m.number (suc i) other in
            omega (arith, low, named.1, rh.places)
          where
            another_low : (members me number : ℕ) → is_another members me number ≡ true → number ≤ members
            another_low members me number h = grind arith

        c : Counts d m t.state
        c = subst (λ (x : Took). Counts d m x.state) (sym eq) (counts d i u m role places)

        in_step : (k : ℕ) → (member w k).role ≡ Follower l → end_of m.log ≤ acked c.now.acknowledged k → Token w' e l low k (member w k)
        in_step k rk le =
            In_step c.now rk (ap (λ (x : MemberState). x.role) leader_now ∙ c.role) (ap (λ (x : MemberState). x.job) leader_now ∙ (c.job ∙ job))
            (subst (λ (x : MemberState). end_of x.log ≤ acked c.now.acknowledged k) (sym leader_now) (subst (λ (x : List Chunk). end_of x ≤ acked c.now.acknowledged k) (sym c.log) le))

        opens : is_opened m.role ≡ true
        opens = ap is_opened role ∙ opened

        log : (LeadsEpoch w m.promise l) × (last_epoch m.log ≡ m.promise) × (m.log ≡ g.canon m.promise)
        log = open_log g w o l so lt h.runs.leader_up opens

        -- it was asked by the tail that the other has
        current : (k : ℕ) → (member w k).role ≡ Follower l → k ≡ suc i → u ≡ tail_of (member w k).log → Token w' e l low k (member w k)
        current k rk ki same = go (subst (Answer d i u m) (sym eq) (answer d i u m role places))
          where
            go : Answer d i u m t → Token w' e l low k (member w k)
            go (All_there n has none nr le) =
                let top : u ≡ tail_of m.log = ask_top g w o l u so has none (subst (TailMark g) (sym same) (tail_mark g (member w k).log (so.each_member k).rooted)) in
                let end : u.end ≡ end_of m.log = ap (λ (x : Tail). x.end) top in
                let epoch : u.epoch ≡ m.promise = ap (λ (x : Tail). x.epoch) top ∙ log.1 in
                let now : n ≡ c.now = (let z : Leader n ≡ Leader c.now = sym nr ∙ c.role in cc z) in
                let y = le epoch in
                in_step k rk (subst (λ (x : ℕ). end_of m.log ≤ acked c.now.acknowledged x) (sym ki) (subst (λ (x : Leading). end_of m.log ≤ acked x.acknowledged (suc i)) now (omega (arith, y, end))))
            go (Next ch has next of) =
                Gets ch rk
                (subst (λ (x : ℕ). goes_on x (tail_of (member w k).log) ch (member w k).log ≡ true) p
                (ask_next g w o l k ch so truth log.0 log.1 (subst (λ (x : Tail). contains (runs_of m.log) x ≡ true) same has) (subst (λ (x : Tail). chunk_from x.end m.log ≡ Some ch) same next)))
                (fresh (mail k (messages.Append e (tail_of (member w k).log) ch)) (of_as (mail (suc i) (messages.Append m.promise u ch)) (mail k (messages.Append e (tail_of (member w k).log) ch)) t.sent (append_as (suc i) k m.promise e u (tail_of (member w k).log) ch ki p same) of))
            go (Shaped out of) =
                Is_shaped d.kept rk
                (subst (λ (x : ℕ). ends_in x (member w k).log ≡ false) p (ask_out g w o l k so lt h.runs.leader_up opens (subst (λ (x : Tail). contains (runs_of m.log) x ≡ false) same out)))
                (fresh (mail k (messages.Shape e d.kept)) (of_as (mail (suc i) (messages.Shape m.promise d.kept)) (mail k (messages.Shape e d.kept)) t.sent (shape_as (suc i) k m.promise e d.kept ki p) of))

        asks : (k : ℕ) → IsMember w k → k ≢ l → (member w k).role ≡ Follower l → OnItsWay (Behind low) (mail l (messages.Ask e k (tail_of (member w k).log))) w.mail → Token w' e l low k (member w k)
        asks k mk nl rk way = elim (cases_eq k (suc i)) [
          | inr ne ↦ on (λ z. ne (let y : messages.Ask e (suc i) u ≡ messages.Ask e k (tail_of (member w k).log) = sym msg ∙ message_of l (messages.Ask e k (tail_of (member w k).log)) z in cc y))
          | inl ki ↦ elim (same_or u (tail_of (member w k).log)) [
            | inl same ↦ current k rk ki same
            | inr ne ↦ on (λ z. ne (let y : messages.Ask e (suc i) u ≡ messages.Ask e k (tail_of (member w k).log) = sym msg ∙ message_of l (messages.Ask e k (tail_of (member w k).log)) z in cc y))
          ]
        ]
          where
            on : (s ≡ mail l (messages.Ask e k (tail_of (member w k).log)) → ⊥) → Token w' e l low k (member w k)
            on other = Asks rk (pass (Behind low) (mail l (messages.Ask e k (tail_of (member w k).log))) (λ at. other) way)

            same_or : (a b : Tail) → (a ≡ b) ⊎ (a ≢ b)
            same_or a b = elim (cases_eq a.epoch b.epoch) [
              | inr ne ↦ inr (λ z. ne (ap (λ (x : Tail). x.epoch) z))
              | inl eq ↦ elim (cases_eq a.end b.end) [
                | inr ne ↦ inr (λ z. ne (ap (λ (x : Tail). x.end) z))
                | inl end ↦ inl (same_tail_is a b eq end)
              ]
            ]

    start : LeaderToken w e l low → HasTokens w' e l low ⊎ IsStuck w' e l
    start (Leads d role) = inl (go (leader_taken now e s.message m d fair p role opened))
      where
        opened : d.opened ≡ true
        opened = leader_opened g w o l d so h.runs.leader_up role job

        go : LeaderTook e m d s.message t → HasTokens w' e l low
        go (Quiet eq none) = quiet d role eq none
        go (Answers zero u msg other eq) = absurd (not_zero m.members m.number other)
          where
            not_zero : (members me : ℕ) → is_another members me 0 ≡ true → ⊥
            not_zero members me h = grind arith
        go (Answers (suc i) u msg other eq) = answers d role opened i u msg other eq
    start (Is_to_open role way) = go (opener_taken now e s.message m fair p role)
      where
        no_step : (k : ℕ) (d : Leading) → (member w k).role ≡ Follower l → m.role ≡ Leader d → end_of m.log ≤ acked d.acknowledged k → Token w' e l low k (member w k)
        no_step k d rk lr le = absurd (cc (role, lr))

        asks_on : (k : ℕ) → IsMember w k → k ≢ l → (member w k).role ≡ Follower l → OnItsWay (Behind low) (mail l (messages.Ask e k (tail_of (member w k).log))) w.mail → Token w' e l low k (member w k)
        asks_on k mk nl rk ask = Asks rk (pass (Behind low) (mail l (messages.Ask e k (tail_of (member w k).log))) (λ at z. (let y = least way in omega (arith, y, at))) ask)

        go : OpenerTook e m s.message t → HasTokens w' e l low ⊎ IsStuck w' e l
        go (Waits_on eq no_open) =
            inl (with_tokens (Is_to_open (ap (λ (x : MemberState). x.role) (leader_now ∙ eq) ∙ role) (pass (Exactly low) (mail l (messages.Open e)) (λ at z. no_open (message_of l (messages.Open e) z)) way))
            (ap (λ (x : MemberState). x.promise) eq ∙ p) asks_on no_step)
        go (Opens d rd pd can) = inl (with_tokens (Leads d (ap (λ (x : MemberState). x.role) leader_now ∙ rd)) (pd ∙ p) asks_on no_step)
        go (Cannot eq can) =
            inr (record {
              runs = runs_on w1 e l l t runs1 lt (λ z. ap (λ (x : MemberState). x.promise) eq ∙ p);
              stopped = ap (λ (x : MemberState). x.role) (leader_now ∙ eq) ∙ role;
              cannot = subst (λ (x : MemberState). can_open e x.log ≡ false) (sym (leader_now ∙ eq)) can;
            })
