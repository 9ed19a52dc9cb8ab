-- Each delivery to a member keeps the tokens.
use Rattle.std.proofs.Common.{◌≡◌, ℕ, ◌<◌, ◌≤◌, ◌≢◌, List, length, refl, sym, ap, ◌∙◌, subst, inl, inr, arith, Some, None, Bool, true, false}
use Rattle.std.specs.Prelude.{◌&&◌, ◌==◌, not, nat_lt, nat_le}
use Rattle.std.proofs.lemmas.Bool.{cases_eq, cases_Bool}
use Rattle.chunk_format.specs.declared.chunk.Chunk.{Chunk}
use Rattle.chunk_format.specs.Logs.{end_of}
use Rattle.epoch_coordinator.specs.declared.tail.Tail.{Tail}
use Rattle.epoch_coordinator.specs.declared.tail.Run.{Run}
use Rattle.epoch_coordinator.specs.declared.message.Message.{Message}
use Rattle.epoch_coordinator.specs.declared.message.Message.TheVariants as messages
use Rattle.epoch_coordinator.specs.declared.message.Sent.{Sent}
use Rattle.epoch_coordinator.specs.Tails.{tail_of}
use Rattle.epoch_coordinator.specs.Members.{Leading, MemberState, Stopped, Follower, Leader}
use Rattle.epoch_coordinator.specs.MemberSteps.{Took, mail, asks, is_another, ends_in, goes_on, taken}
use Rattle.replication_laws.specs.Cluster.{Seat, ClusterState, seat, member, IsMember, durable, last_number, numbered, letter_in, marked}
use Rattle.replication_laws.specs.Events.{took}
use Rattle.replication_laws.specs.Soundness.{Tree, LeadsEpoch, MessageHolds, Sound, acked}
use Rattle.replication_laws.proofs.Sounds.{seat_put, seat_else, count_put}
use Rattle.replication_laws.proofs.Followers.{leads_unique}
use Rattle.replication_laws.proofs.Takings.{eq_is}
use Rattle.settling_laws.specs.Tokens.{OnItsWay, Behind, Exactly, Token, Tells, Is_told, Asks, Gets, Is_shaped, Works, In_step, LeaderToken, Leads, Is_to_open, Running_by, HasTokens}
use Rattle.settling_laws.proofs.Mails.{way_more, way_behind, way_marked, way_sent, IsOf}
use Rattle.settling_laws.proofs.Known.{leader_leads}
use Rattle.settling_laws.proofs.Heard.{Fair, FairToLeader, StoppedTook, Still, Goes_on, stopped_taken, FollowerTook, Stays, Has_job, Asks_again, follower_taken, promise_stays}

-- ---- the others' tokens

pub others_on : (w w' : ClusterState) (e l low k : ℕ) (m : MemberState)
    → ((t : Tail) → m.role ≡ Stopped → OnItsWay (Behind 0) (mail 0 (messages.Stopped e k t)) w.mail → Token w' e l low k m)
    → ((msg : Message) → OnItsWay (Behind 0) (mail k msg) w.mail → OnItsWay (Behind 0) (mail k msg) w'.mail)
    → (m.role ≡ Follower l → OnItsWay (Behind low) (mail l (messages.Ask e k (tail_of m.log))) w.mail → Token w' e l low k m)
    → ((d : Leading) → m.role ≡ Follower l → (member w l).role ≡ Leader d → (member w l).job ≡ None → end_of (member w l).log ≤ acked d.acknowledged k → Token w' e l low k m)
    → Token w e l low k m → Token w' e l low k m
others_on w w' e l low k m tells mine asks step (Tells t role way) = tells t role way
others_on w w' e l low k m tells mine asks step (Is_told role way) = Is_told role (mine (messages.Follow e l) way)
others_on w w' e l low k m tells mine asks step (Asks role way) = asks role way
others_on w w' e l low k m tells mine asks step (Gets c role ok way) = Gets c role ok (mine (messages.Append e (tail_of m.log) c) way)
others_on w w' e l low k m tells mine asks step (Is_shaped runs role ok way) = Is_shaped runs role ok (mine (messages.Shape e runs) way)
others_on w w' e l low k m tells mine asks step (Works j role job) = Works j role job
others_on w w' e l low k m tells mine asks step (In_step d role lr lj le) = step d role lr lj le

-- ---- one member changes

pub member_is : (w : ClusterState) (j : ℕ) (t : Took) → IsMember w j → member (took j t w) j ≡ t.state
member_is w j t lt = ap (λ (s : Seat). s.state) (seat_put w j (record { up = true; state = t.state }) lt)

pub seat_same : (w : ClusterState) (j k : ℕ) (t : Took) → k ≢ j → seat (took j t w) k ≡ seat w k
seat_same w j k t ne = seat_else w j k (record { up = true; state = t.state }) ne

pub member_same : (w : ClusterState) (j k : ℕ) (t : Took) → k ≢ j → member (took j t w) k ≡ member w k
member_same w j k t ne = ap (λ (s : Seat). s.state) (seat_same w j k t ne)

pub runs_on : (w : ClusterState) (e l j : ℕ) (t : Took) → Running_by w e l → IsMember w j → (j ≡ l → t.state.promise ≡ e) → Running_by (took j t w) e l
runs_on w e l j t r lt keeps = record {
  coordinator_up = r.coordinator_up;
  phase = r.phase;
  epoch_is = r.epoch_is;
  idle = r.idle;
  is_member = (r.is_member.0, (let c = count_put j (record { up = true; state = t.state }) w.seats in let z = r.is_member.1 in omega (arith, z, c)));
  leader_up = elim (cases_eq l j) [
    | inl eq ↦ subst (λ (x : ℕ). (seat (took j t w) x).up ≡ true) (sym eq) (ap (λ (s : Seat). s.up) (seat_put w j (record { up = true; state = t.state }) lt))
    | inr ne ↦ ap (λ (s : Seat). s.up) (seat_same w j l t ne) ∙ r.leader_up
  ];
  promised = elim (cases_eq l j) [
    | inl eq ↦ subst (λ (x : ℕ). (member (took j t w) x).promise ≡ e) (sym eq) (ap (λ (m : MemberState). m.promise) (member_is w j t lt) ∙ keeps (sym eq))
    | inr ne ↦ ap (λ (m : MemberState). m.promise) (member_same w j l t ne) ∙ r.promised
  ];
}

pub took_tokens : (w : ClusterState) (e l low j : ℕ) (t : Took) → Running_by w e l → IsMember w j → low ≤ w.last → (j ≡ l → t.state.promise ≡ e)
    → LeaderToken (took j t w) e l low
    → (j ≢ l → t.state.promise ≡ e → Token (took j t w) e l low j t.state)
    → ((k : ℕ) → IsMember w k → k ≢ j → k ≢ l → (seat w k).up ≡ true → (member w k).promise ≡ e → Token (took j t w) e l low k (member w k))
    → HasTokens (took j t w) e l low
took_tokens w e l low j t r lt given keeps leads here others = record {
  runs = runs_on w e l j t r lt keeps;
  leads = leads;
  low_given = omega (arith, given);
  each = λ k is ne up p. elim (cases_eq k j) [
    | inl eq ↦
        subst (λ (x : ℕ). Token (took j t w) e l low x (member (took j t w) x)) (sym eq)
        (subst (λ (m : MemberState). Token (took j t w) e l low j m) (sym (member_is w j t lt))
        (here (λ z. ne (eq ∙ z)) (ap (λ (m : MemberState). m.promise) (sym (member_is w j t lt)) ∙ subst (λ (x : ℕ). (member (took j t w) x).promise ≡ e) eq p)))
    | inr nj ↦
        let same = seat_same w j k t nj in
        let count = count_put j (record { up = true; state = t.state }) w.seats in
        subst (λ (s : Seat). Token (took j t w) e l low k s.state) (sym same)
        (others k (is.0, (let z = is.1 in omega (arith, z, count))) nj ne (ap (λ (s : Seat). s.up) (sym same) ∙ up) (ap (λ (s : Seat). s.state.promise) (sym same) ∙ p))
  ];
}

-- ---- what is known of a message that comes

pub fair_of : (g : Tree) (w : ClusterState) (e l j : ℕ) (msg : Message) → durable w ≡ e → LeadsEpoch w e l → j ≢ l → MessageHolds g w j msg → Fair e l msg
fair_of g w e l j (messages.Stop x) d leads ne h = omega (arith, h, d)
fair_of g w e l j (messages.Stopped x from t) d leads ne h = tt
fair_of g w e l j (messages.Open x) d leads ne h = λ same. ne (leads_unique w e j l (subst (λ (n : ℕ). LeadsEpoch w n j) same h) leads)
fair_of g w e l j (messages.Follow x f) d leads ne h = λ same. leads_unique w e f l (subst (λ (n : ℕ). LeadsEpoch w n f) same h.0) leads
fair_of g w e l j (messages.Shape x runs) d leads ne h = tt
fair_of g w e l j (messages.Ask x from t) d leads ne h = tt
fair_of g w e l j (messages.Append x t c) d leads ne h = tt

pub fair_to_leader : (g : Tree) (w : ClusterState) (e l : ℕ) (msg : Message) → durable w ≡ e → LeadsEpoch w e l → MessageHolds g w l msg → FairToLeader e msg
fair_to_leader g w e l (messages.Stop x) d leads h = omega (arith, h, d)
fair_to_leader g w e l (messages.Stopped x from t) d leads h = tt
fair_to_leader g w e l (messages.Open x) d leads h = tt
fair_to_leader g w e l (messages.Follow x f) d leads h = λ same. h.1 (sym (leads_unique w e f l (subst (λ (n : ℕ). LeadsEpoch w n f) same h.0) leads))
fair_to_leader g w e l (messages.Shape x runs) d leads h = tt
fair_to_leader g w e l (messages.Ask x from t) d leads h = tt
fair_to_leader g w e l (messages.Append x t c) d leads h = tt

pub another_is : (members me number : ℕ) → 0 < number → number ≤ members → number ≢ me → is_another members me number ≡ true
another_is members me number a b ne = all_three (nat_lt 0 number) (nat_le number members) (number == me) (lt 0 number a) (le number members b) (other number me ne)
  where
    all_three : (x y z : Bool) → x ≡ true → y ≡ true → z ≡ false → (x && y && not z) ≡ true
    all_three x y z p q r = rw (p, q, r) refl

    lt : (a b : ℕ) → a < b → nat_lt a b ≡ true
    lt a b h = grind arith

    le : (a b : ℕ) → a ≤ b → nat_le a b ≡ true
    le a b h = grind arith

    other : (a b : ℕ) → (a ≡ b → ⊥) → (a == b) ≡ false
    other a b h = elim (cases_Bool (a == b)) [ inr n ↦ n | inl y ↦ absurd (h (eq_is a b y)) ]

-- ---- a message comes to a member that doesn't lead

pub member_delivers : (g : Tree) (w : ClusterState) (o now n e l low j : ℕ) (s : Sent) → Sound g o w → HasTokens w e l low → IsMember w j → j ≢ l → (member w j).job ≡ None
    → MessageHolds g w j s.message → letter_in n w.mail ≡ Some s → s.to ≡ j
    → (took j (taken now s.message (member w j)) (record w { mail = marked n w.mail })).last < last_number → (seat w j).up ≡ true
    → HasTokens (took j (taken now s.message (member w j)) (record w { mail = marked n w.mail })) e l low
member_delivers g w o now n e l low j s so h lt ne job holds is to room up =
    took_tokens w1 e l low j t runs1 lt h.low_given (λ eq. absurd (ne eq)) (leader h.leads) here others
  where
    m : MemberState
    m = member w j

    w1 : ClusterState
    w1 = record w { mail = marked n w.mail }

    t : Took
    t = taken now s.message m

    w' : ClusterState
    w' = took j t w1

    runs1 : Running_by w1 e l
    runs1 = let r = h.runs in record { coordinator_up = r.coordinator_up; phase = r.phase; epoch_is = r.epoch_is; idle = r.idle; is_member = r.is_member; leader_up = r.leader_up; promised = r.promised }

    pass : (At : ℕ → Type 0) (x : Sent) → (s ≡ x → ⊥) → OnItsWay At x w.mail → OnItsWay At x w'.mail
    pass At x other way = way_more At x (marked n w.mail) (numbered w.last t.sent) (way_marked At n x s w.mail is (λ at. other) way)

    fresh : (At : ℕ → Type 0) (x : Sent) → ((i : ℕ) → w.last < i → At i) → IsOf x t.sent → OnItsWay At x w'.mail
    fresh At x at of = way_behind At x (marked n w.mail) (numbered w.last t.sent) (way_sent At x w.last t.sent at room of)

    to_else : (k : ℕ) (msg : Message) → k ≢ j → s ≡ mail k msg → ⊥
    to_else k msg nk eq = nk (sym (ap (λ (x : Sent). x.to) eq) ∙ to)

    leader_same : member w' l ≡ member w l
    leader_same = member_same w1 j l t (λ eq. ne (sym eq))

    leader : LeaderToken w e l low → LeaderToken w' e l low
    leader (Leads d role) = Leads d (ap (λ (x : MemberState). x.role) leader_same ∙ role)
    leader (Is_to_open role way) = Is_to_open (ap (λ (x : MemberState). x.role) leader_same ∙ role) (pass (Exactly low) (mail l (messages.Open e)) (to_else l (messages.Open e) (λ eq. ne (sym eq))) way)

    stepped : (k : ℕ) (x : MemberState) (d : Leading) → x.role ≡ Follower l → (member w l).role ≡ Leader d → (member w l).job ≡ None → end_of (member w l).log ≤ acked d.acknowledged k → Token w' e l low k x
    stepped k x d role lr lj le =
        In_step d role (ap (λ (y : MemberState). y.role) leader_same ∙ lr) (ap (λ (y : MemberState). y.job) leader_same ∙ lj)
        (subst (λ (y : MemberState). end_of y.log ≤ acked d.acknowledged k) (sym leader_same) le)

    others : (k : ℕ) → IsMember w1 k → k ≢ j → k ≢ l → (seat w1 k).up ≡ true → (member w1 k).promise ≡ e → Token w' e l low k (member w1 k)
    others k mk nj nl u p =
        others_on w w' e l low k (member w k)
        (λ u role way. Tells u role (pass (Behind 0) (mail 0 (messages.Stopped e k u)) (to_else 0 (messages.Stopped e k u) (λ z. (let y = lt.0 in omega (arith, z, y)))) way))
        (λ msg way. pass (Behind 0) (mail k msg) (to_else k msg nj) way)
        (λ role way. Asks role (pass (Behind low) (mail l (messages.Ask e k (tail_of (member w k).log))) (to_else l (messages.Ask e k (tail_of (member w k).log)) (λ z. ne (sym z))) way))
        (λ d role lr lj le. stepped k (member w k) d role lr lj le)
        (h.each k mk nl u p)

    fair : Fair e l s.message
    fair = fair_of g w e l j s.message h.runs.epoch_is (leader_leads g w o e l so h.runs) ne holds

    low_behind : (i : ℕ) → w.last < i → low < i
    low_behind i lt = let z = h.low_given in omega (arith, lt, z)

    named : (m.number ≡ j) × (m.members ≡ length w.seats)
    named = so.named j lt

    -- it asks anew
    asks_as : (x : MemberState) → x.role ≡ Follower l → x.promise ≡ e → x.number ≡ j → t ≡ asks l x → Token w' e l low j t.state
    asks_as x role p number eq =
        subst (λ (y : MemberState). Token w' e l low j y) (sym (ap (λ (y : Took). y.state) eq))
        (Asks role (fresh (Behind low) (mail l (messages.Ask e j (tail_of x.log))) low_behind
        (subst (λ (y : Took). IsOf (mail l (messages.Ask e j (tail_of x.log))) y.sent) (sym eq)
        (inl (ap (λ (q : ℕ). mail l (messages.Ask q x.number (tail_of x.log))) p ∙ ap (λ (q : ℕ). mail l (messages.Ask e q (tail_of x.log))) number)))))

    as_state : (x : MemberState) → t.state ≡ x → Token w' e l low j x → Token w' e l low j t.state
    as_state x eq tok = subst (λ (y : MemberState). Token w' e l low j y) (sym eq) tok

    -- a stopped member
    stopped : m.promise ≡ e → m.role ≡ Stopped → ((s.message ≡ messages.Follow e l → ⊥) → Token w' e l low j m) → Token w' e l low j t.state
    stopped p role still = go (stopped_taken now e l s.message m fair p role (another_is m.members m.number l h.runs.is_member.0 (let z = h.runs.is_member.1 in omega (arith, z, named.1)) (λ z. ne (sym (z ∙ named.0)))))
      where
        go : StoppedTook e l m s.message t → Token w' e l low j t.state
        go (Still eq other) = as_state m eq (still other)
        go (Goes_on eq) = asks_as (record m { role = Follower l }) refl p named.0 eq

    follower : m.promise ≡ e → m.role ≡ Follower l
        → (((c : Chunk) → goes_on e (tail_of m.log) c m.log ≡ true → s.message ≡ messages.Append e (tail_of m.log) c → ⊥) → ((runs : List Run) → ends_in e m.log ≡ false → s.message ≡ messages.Shape e runs → ⊥) → Token w' e l low j m)
        → Token w' e l low j t.state
    follower p role stays = go (follower_taken now e l s.message m fair p role)
      where
        go : FollowerTook e l m s.message t → Token w' e l low j t.state
        go (Stays eq a b) = as_state m eq (stays a b)
        go (Has_job x eq) = as_state (record m { job = Some x }) eq (Works x role refl)
        go (Asks_again eq) = asks_as m role p named.0 eq

    message_of : (msg : Message) → s ≡ mail j msg → s.message ≡ msg
    message_of msg eq = ap (λ (x : Sent). x.message) eq

    here : j ≢ l → t.state.promise ≡ e → Token w' e l low j t.state
    here nl pe = go (h.each j lt nl up p)
      where
        p : m.promise ≡ e
        p = sym (promise_stays now s.message m) ∙ pe

        go : Token w e l low j m → Token w' e l low j t.state
        go (Tells u role way) = stopped p role (λ other. Tells u role (pass (Behind 0) (mail 0 (messages.Stopped e j u)) (to_else 0 (messages.Stopped e j u) (λ z. (let y = lt.0 in omega (arith, z, y)))) way))
        go (Is_told role way) = stopped p role (λ other. Is_told role (pass (Behind 0) (mail j (messages.Follow e l)) (λ eq. other (message_of (messages.Follow e l) eq)) way))
        go (Asks role way) = follower p role (λ a b. Asks role (pass (Behind low) (mail l (messages.Ask e j (tail_of m.log))) (to_else l (messages.Ask e j (tail_of m.log)) (λ z. ne (sym z))) way))
        go (Gets c role ok way) = follower p role (λ a b. Gets c role ok (pass (Behind 0) (mail j (messages.Append e (tail_of m.log) c)) (λ eq. a c ok (message_of (messages.Append e (tail_of m.log) c) eq)) way))
        go (Is_shaped runs role ok way) = follower p role (λ a b. Is_shaped runs role ok (pass (Behind 0) (mail j (messages.Shape e runs)) (λ eq. b runs ok (message_of (messages.Shape e runs) eq)) way))
        go (Works x role jx) = absurd (cc (job, jx))
        go (In_step d role lr lj le) = follower p role (λ a b. stepped j m d role lr lj le)
