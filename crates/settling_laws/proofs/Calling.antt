-- A settle in which everyone is up elects a leader.
use Rattle.std.proofs.Common.{◌≡◌, ℕ, ◌+◌, ◌*◌, ◌<◌, ◌≢◌, ◌⊎◌, List, [], ◌∷◌, length, refl, sym, ap, ◌∙◌, subst, inl, inr, arith, Option, Some, None, Bool, true, false, cond, zero, suc}
use Rattle.std.specs.Prelude.{◌==◌, ◌&&◌, ◌||◌, nat_lt, slice_index_or}
use Rattle.std.proofs.lemmas.Bool.{cases_eq, cases_Bool, cases_lt}
use Rattle.chunk_format.specs.declared.chunk.Chunk.{Chunk}
use Rattle.epoch_coordinator.specs.declared.tail.Tail.{Tail}
use Rattle.epoch_coordinator.specs.declared.message.Job.{Job}
use Rattle.epoch_coordinator.specs.declared.message.Job.TheVariants.{Write, Cut, Promise, Epoch}
use Rattle.epoch_coordinator.specs.declared.message.Message.{Message}
use Rattle.epoch_coordinator.specs.declared.message.Message.TheVariants as messages
use Rattle.epoch_coordinator.specs.declared.message.Sent.{Sent}
use Rattle.epoch_coordinator.specs.declared.coordinator.Phase.{Phase}
use Rattle.epoch_coordinator.specs.Coordinators as coordinators
use Rattle.epoch_coordinator.specs.Coordinators.{CoordinatorState, Hears, Told, is_told, repliers, tell, to_each, untold_from}
use Rattle.epoch_coordinator.specs.Members.{MemberRole, MemberState, Stopped, Follower, Leader, is_stopped}
use Rattle.epoch_coordinator.specs.MemberSteps.{Took, mail, silent, is_another, is_majority, heard, says_stopped, finished, finished_by, asks_by, wrote, cut_at, taken}
use Rattle.epoch_coordinator.specs.Scripts.{opened}
use Rattle.replication_laws.specs.Cluster.{Seat, ClusterState, seat_in, seat, member, IsMember, last_number, numbered, send, letter_in, marked}
use Rattle.replication_laws.specs.Events.{took, to_coordinator, nudges_by, member_nudges, nudges}
use Rattle.replication_laws.specs.Soundness.{Tree, JobHolds, PhaseHolds, ElectingHolds, Sound}
use Rattle.replication_laws.proofs.Sounds.{seat_put, count_put}
use Rattle.settling_laws.specs.Settling.{next_job, next_letter}
use Rattle.settling_laws.specs.Tokens.{OnItsWay, Behind}
use Rattle.settling_laws.specs.Electing.{Electing_in, HasWords, HasCalls}
use Rattle.settling_laws.proofs.Mails.{way_more, way_behind, way_marked, way_sent, way_none, IsOf, of_more}
use Rattle.settling_laws.proofs.Heard.{either, promise_stays}
use Rattle.settling_laws.proofs.Bringing.{member_is, member_same, seat_same, another_is}
use Rattle.settling_laws.proofs.Resting.{up_by, idle_by}
use Rattle.settling_laws.proofs.Electing.{ElectTook, Passes_by, Counts_on, Opens_epoch, elect_took}

-- ---- a message comes to a member

stop_or : (msg : Message) (e : ℕ) → (msg ≡ messages.Stop e) ⊎ (msg ≢ messages.Stop e)
stop_or (messages.Stop x) e = elim (cases_eq x e) [ inl eq ↦ inl (ap messages.Stop eq) | inr ne ↦ inr (λ z. (let q : x ≡ e = cc z in ne q)) ]
stop_or (messages.Stopped x from t) e = inr (λ z. cc z)
stop_or (messages.Open x) e = inr (λ z. cc z)
stop_or (messages.Follow x f) e = inr (λ z. cc z)
stop_or (messages.Shape x runs) e = inr (λ z. cc z)
stop_or (messages.Ask x from u) e = inr (λ z. cc z)
stop_or (messages.Append x u c) e = inr (λ z. cc z)

-- a later Stop makes a job
stop_job : (now e : ℕ) (m : MemberState) → m.promise < e → (taken now (messages.Stop e) m).state.job ≡ Some (Promise e)
stop_job now e m lt =
    let t : nat_lt m.promise e ≡ true = lt_made m.promise e lt in
    let test : ((e == m.promise) || nat_lt m.promise e) ≡ true = or_made (e == m.promise) (nat_lt m.promise e) t in
    subst (λ (b : Bool). (cond b (heard now (messages.Stop e) m) (silent m)).state.job ≡ Some (Promise e)) (sym test)
    (subst (λ (b : Bool). (cond b (silent (record m { role = Stopped; job = Some (Promise e) })) (cond ((e == m.promise) && is_stopped m.role) (says_stopped m) (silent m))).state.job ≡ Some (Promise e)) (sym t) refl)
  where
    lt_made : (a b : ℕ) → a < b → nat_lt a b ≡ true
    lt_made a b h = grind arith

    or_made : (a b : Bool) → b ≡ true → (a || b) ≡ true
    or_made true b h = refl
    or_made false b h = h

-- who is called: it promised, is about to, or is told to stop
abbrev CalledAt : ClusterState → ℕ → ℕ → MemberState → Type 0
CalledAt w e i m = (m.promise ≡ e) ⊎ ((m.job ≡ Some (Promise e)) ⊎ OnItsWay (Behind 0) (mail (suc i) (messages.Stop e)) w.mail)

took_calls : (w w0 : ClusterState) (e j : ℕ) (t : Took) → HasCalls w0 e → w.seats ≡ w0.seats → w.coordinator ≡ w0.coordinator → IsMember w j
    → ((i : ℕ) → suc i ≡ j → CalledAt w0 e i (member w0 j) → CalledAt (took j t w) e i t.state)
    → ((i : ℕ) → suc i ≢ j → OnItsWay (Behind 0) (mail (suc i) (messages.Stop e)) w0.mail → OnItsWay (Behind 0) (mail (suc i) (messages.Stop e)) (took j t w).mail)
    → ((i : ℕ) (u : Tail) → OnItsWay (Behind 0) (mail 0 (messages.Stopped e (suc i) u)) w0.mail → OnItsWay (Behind 0) (mail 0 (messages.Stopped e (suc i) u)) (took j t w).mail)
    → HasCalls (took j t w) e
took_calls w w0 e j t h seats co mk here stops words = record {
  all_up = λ i lt. elim (cases_eq (suc i) j) [
    | inl eq ↦ subst (λ (x : ℕ). (seat (took j t w) x).up ≡ true) (sym eq) (ap (λ (s : Seat). s.up) (seat_put w j (record { up = true; state = t.state }) mk))
    | inr ne ↦ ap (λ (s : Seat). s.up) (seat_same w j (suc i) t ne) ∙ subst (λ (ss : List Seat). (seat_in ss (suc i)).up ≡ true) (sym seats) (h.all_up i (within i lt))
  ];
  called = λ i lt. elim (cases_eq (suc i) j) [
    | inl eq ↦
        subst (λ (m : MemberState). CalledAt (took j t w) e i m) (sym (ap (member (took j t w)) eq ∙ member_is w j t mk))
        (here i eq (subst (λ (x : ℕ). CalledAt w0 e i (member w0 x)) eq (h.called i (within i lt))))
    | inr ne ↦
        subst (λ (m : MemberState). CalledAt (took j t w) e i m) (sym (member_same w j (suc i) t ne ∙ ap (λ (ss : List Seat). (seat_in ss (suc i)).state) seats))
        (elim (h.called i (within i lt)) [
          | inl p ↦ inl p
          | inr z ↦ elim z [ inl q ↦ inr (inl q) | inr way ↦ inr (inr (stops i ne way)) ]
        ])
  ];
  vote = elim h.vote [
    | inl n ↦ inl (ap (λ (c : CoordinatorState). is_majority c.members (repliers c.told)) co ∙ n)
    | inr z ↦ inr (z.0, z.1, (let count = count_put j (record { up = true; state = t.state }) w.seats in let c = ap length seats in let y = z.2 in omega (arith, y, count, c)), words z.0 z.1 z.3)
  ];
}
  where
    within : (i : ℕ) → i < length (took j t w).seats → i < length w0.seats
    within i lt = let count = count_put j (record { up = true; state = t.state }) w.seats in let c = ap length seats in omega (arith, lt, count, c)

pub calls_delivered : (g : Tree) (w : ClusterState) (o now n e j : ℕ) (s : Sent) → Sound g o w → HasCalls w e → w.coordinator.epoch ≡ e → IsMember w j → (member w j).job ≡ None → letter_in n w.mail ≡ Some s → s.to ≡ j
    → HasCalls (took j (taken now s.message (member w j)) (record w { mail = marked n w.mail })) e
calls_delivered g w o now n e j s so h epoch mk job is to =
    took_calls w1 w e j t h refl refl mk here
    (λ i ne way. pass (mail (suc i) (messages.Stop e)) (λ z. ne (sym (ap (λ (x : Sent). x.to) z) ∙ to)) way)
    (λ i u way. pass (mail 0 (messages.Stopped e (suc i) u)) (λ z. (let q : 0 ≡ j = sym (ap (λ (x : Sent). x.to) z) ∙ to in let y = mk.0 in omega (arith, q, y))) way)
  where
    m : MemberState
    m = member w j

    w1 : ClusterState
    w1 = record w { mail = marked n w.mail }

    t : Took
    t = taken now s.message m

    pass : (y : Sent) → (s ≡ y → ⊥) → OnItsWay (Behind 0) y w.mail → OnItsWay (Behind 0) y (took j t w1).mail
    pass y ne way = way_more (Behind 0) y (marked n w.mail) (numbered w.last t.sent) (way_marked (Behind 0) n y s w.mail is (λ at. ne) way)

    promised : m.promise ≡ e → t.state.promise ≡ e
    promised p = promise_stays now s.message m ∙ p

    here : (i : ℕ) → suc i ≡ j → CalledAt w e i m → CalledAt (took j t w1) e i t.state
    here i eq (inl p) = inl (promised p)
    here i eq (inr (inl q)) = absurd (cc (q, job))
    here i eq (inr (inr way)) = elim (stop_or s.message e) [
      | inr ne ↦ inr (inr (pass (mail (suc i) (messages.Stop e)) (λ z. ne (ap (λ (x : Sent). x.message) z)) way))
      | inl same ↦ elim (cases_lt m.promise e) [
        | inl lt ↦ inr (inl (ap (λ (x : Message). (taken now x m).state.job) same ∙ stop_job now e m lt))
        | inr ge ↦ inl (promised (let low = (so.each_member j).not_ahead in omega (arith, ge, low, epoch)))
      ]
    ]

-- a finished job leaves the promise, or it was a promise
finished_stays : (m : MemberState) (j : Option Job) → m.job ≡ j → ((finished m).state.promise ≡ m.promise) ⊎ ((x : ℕ) × (m.job ≡ Some (Promise x)))
finished_stays m j e = go j e
  where
    asks : (r : MemberRole) (n : MemberState) → (asks_by r n).state.promise ≡ n.promise
    asks Stopped n = refl
    asks (Follower f) n = refl
    asks (Leader d) n = refl

    writes : (r : MemberRole) (c : Chunk) → (wrote r c m).state.promise ≡ m.promise
    writes Stopped c = refl
    writes (Follower f) c = refl
    writes (Leader d) c = refl

    is_as : (x : Option Job) → m.job ≡ x → (finished_by x m).state.promise ≡ m.promise → (finished m).state.promise ≡ m.promise
    is_as x eq h = ap (λ (y : Option Job). (finished_by y m).state.promise) eq ∙ h

    go : (x : Option Job) → m.job ≡ x → ((finished m).state.promise ≡ m.promise) ⊎ ((x : ℕ) × (m.job ≡ Some (Promise x)))
    go None eq = inl (is_as None eq refl)
    go (Some (Write c)) eq = inl (is_as (Some (Write c)) eq (writes m.role c))
    go (Some (Cut x)) eq = inl (is_as (Some (Cut x)) eq (asks m.role (record m { log = cut_at x m.log; job = None })))
    go (Some (Promise x)) eq = inr (x, eq)
    go (Some (Epoch x)) eq = inl (is_as (Some (Epoch x)) eq refl)

pub calls_done : (g : Tree) (w : ClusterState) (o e j : ℕ) → Sound g o w → HasCalls w e → w.coordinator.epoch ≡ e → IsMember w j → HasCalls (took j (finished (member w j)) w) e
calls_done g w o e j so h epoch mk =
    took_calls w w e j t h refl refl mk here
    (λ i ne way. way_more (Behind 0) (mail (suc i) (messages.Stop e)) w.mail (numbered w.last t.sent) way)
    (λ i u way. way_more (Behind 0) (mail 0 (messages.Stopped e (suc i) u)) w.mail (numbered w.last t.sent) way)
  where
    m : MemberState
    m = member w j

    t : Took
    t = finished m

    stays : (x : Option Job) → m.job ≡ x → m.promise ≡ e → t.state.promise ≡ e
    stays x jx p = elim (finished_stays m m.job refl) [
      | inl same ↦ same ∙ p
      | inr z ↦ absurd (let jh = subst (JobHolds g w j m.promise m.log) z.1 (so.each_member j).job in let a = jh.0 in let b = jh.1 in omega (arith, a, b, p, epoch))
    ]

    here : (i : ℕ) → suc i ≡ j → CalledAt w e i m → CalledAt (took j t w) e i t.state
    here i eq (inl p) = inl (stays m.job refl p)
    here i eq (inr (inl q)) = inl (ap (λ (x : Option Job). (finished_by x m).state.promise) q)
    here i eq (inr (inr way)) = inr (inr (way_more (Behind 0) (mail (suc i) (messages.Stop e)) w.mail (numbered w.last t.sent) way))

-- ---- a message comes to the coordinator

calls_heard : (w w' : ClusterState) (e : ℕ) → HasCalls w e → w'.seats ≡ w.seats
    → ((i : ℕ) → OnItsWay (Behind 0) (mail (suc i) (messages.Stop e)) w.mail → OnItsWay (Behind 0) (mail (suc i) (messages.Stop e)) w'.mail)
    → ((is_majority w'.coordinator.members (repliers w'.coordinator.told) ≡ false) ⊎ ((i : ℕ) × (u : Tail) × (i < length w'.seats) × OnItsWay (Behind 0) (mail 0 (messages.Stopped e (suc i) u)) w'.mail)) → HasCalls w' e
calls_heard w w' e h seats stops vote = record {
  all_up = λ i lt. subst (λ (ss : List Seat). (seat_in ss (suc i)).up ≡ true) (sym seats) (h.all_up i (let c = ap length seats in omega (arith, lt, c)));
  called = λ i lt. subst (λ (m : MemberState). CalledAt w' e i m) (ap (λ (ss : List Seat). (seat_in ss (suc i)).state) (sym seats))
      (elim (h.called i (let c = ap length seats in omega (arith, lt, c))) [
        | inl p ↦ inl p
        | inr z ↦ elim z [ inl q ↦ inr (inl q) | inr way ↦ inr (inr (stops i way)) ]
      ]);
  vote = vote;
}

pub calls_quiet : (w : ClusterState) (n e : ℕ) (s : Sent) → HasCalls w e → letter_in n w.mail ≡ Some s → s.to ≡ 0 → ((k : ℕ) (x : Tail) → s.message ≡ messages.Stopped e k x → ⊥) → HasCalls (record w { mail = marked n w.mail }) e
calls_quiet w n e s h is to other =
    calls_heard w w1 e h refl (λ i way. pass (mail (suc i) (messages.Stop e)) (λ z. (let q : suc i ≡ 0 = sym (ap (λ (x : Sent). x.to) z) ∙ to in omega (arith, q))) way)
    (elim h.vote [
      | inl v ↦ inl v
      | inr z ↦ inr (z.0, z.1, z.2, pass (mail 0 (messages.Stopped e (suc z.0) z.1)) (λ q. other (suc z.0) z.1 (ap (λ (x : Sent). x.message) q)) z.3)
    ])
  where
    w1 : ClusterState
    w1 = record w { mail = marked n w.mail }

    pass : (y : Sent) → (s ≡ y → ⊥) → OnItsWay (Behind 0) y w.mail → OnItsWay (Behind 0) y w1.mail
    pass y ne way = way_marked (Behind 0) n y s w.mail is (λ at. ne) way

pub calls_told : (g : Tree) (w : ClusterState) (o n e x from : ℕ) (u : Tail) (s : Sent) → Sound g o w → Electing_in w e → HasCalls w e → letter_in n w.mail ≡ Some s → s.to ≡ 0 → s.message ≡ messages.Stopped x from u
    → Electing_in (to_coordinator (messages.Stopped x from u) (record w { mail = marked n w.mail })) e
    → HasCalls (to_coordinator (messages.Stopped x from u) (record w { mail = marked n w.mail })) e
calls_told g w o n e x from u s so el h is to msg el' =
    calls_heard w w' e h refl (λ i way. pass (mail (suc i) (messages.Stop e)) (λ z. (let q : suc i ≡ 0 = sym (ap (λ (y : Sent). y.to) z) ∙ to in omega (arith, q))) way)
    (go (elect_took e x from u w.coordinator el.phase el.epoch_is el.idle))
  where
    hs : Hears
    hs = coordinators.stopped x from u w.coordinator

    w' : ClusterState
    w' = to_coordinator (messages.Stopped x from u) (record w { mail = marked n w.mail })

    pass : (y : Sent) → (s ≡ y → ⊥) → OnItsWay (Behind 0) y w.mail → OnItsWay (Behind 0) y w'.mail
    pass y ne way = way_more (Behind 0) y (marked n w.mail) (numbered w.last (opened hs.state hs.answer)) (way_marked (Behind 0) n y s w.mail is (λ at. ne) way)

    named : (k : ℕ) → IsMember w k → is_another w.coordinator.members 0 k ≡ true
    named k mk = another_is w.coordinator.members 0 k mk.0 (let c = so.coordinator.count in let z = mk.1 in omega (arith, c, z)) (λ z. (let y = mk.0 in omega (arith, y, z)))

    go : ElectTook e w.coordinator x from u hs → (is_majority w'.coordinator.members (repliers w'.coordinator.told) ≡ false) ⊎ ((i : ℕ) × (t : Tail) × (i < length w'.seats) × OnItsWay (Behind 0) (mail 0 (messages.Stopped e (suc i) t)) w'.mail)
    go (Passes_by st none) = elim h.vote [
      | inl v ↦ inl (ap (λ (c : CoordinatorState). is_majority c.members (repliers c.told)) st ∙ v)
      | inr z ↦ inr (
        z.0,
        z.1,
        z.2,
        pass (mail 0 (messages.Stopped e (suc z.0) z.1))
            (λ q. (let same : messages.Stopped x from u ≡ messages.Stopped e (suc z.0) z.1 = sym msg ∙ ap (λ (y : Sent). y.message) q in let xe : x ≡ e = cc same in let fk : from ≡ suc z.0 = cc same in
            let lt = z.2 in none (subst (λ (k : ℕ). is_another w.coordinator.members 0 k ≡ true) (sym fk) (named (suc z.0) (omega arith, omega (arith, lt)))) xe)) z.3,
      )
    ]
    go (Counts_on st other few) = inl (ap (λ (c : CoordinatorState). is_majority c.members (repliers c.told)) st ∙ few)
    go (Opens_epoch eq other) = absurd (let z = el'.phase in let y = ap (λ (q : Hears). q.state.phase) eq in cc (z, y))

-- ---- the nudge

untold_is : (e first : ℕ) (told : List (Option Tail)) (i : ℕ) → i < length told → is_told (slice_index_or told i None) ≡ false → IsOf (mail (first + i) (messages.Stop e)) (to_each (messages.Stop e) (untold_from first told))
untold_is e first [] i lt no' = absurd (omega (arith, lt))
untold_is e first (x ∷ xs) zero lt no' =
    let at : first ≡ first + 0 = omega arith in
    subst (λ (b : Bool). IsOf (mail (first + 0) (messages.Stop e)) (to_each (messages.Stop e) (cond b (untold_from (first + 1) xs) (first ∷ untold_from (first + 1) xs)))) (sym no')
    (inl (ap (λ (n : ℕ). mail n (messages.Stop e)) at))
untold_is e first (x ∷ xs) (suc i) lt no' =
    let at : first + 1 + i ≡ first + suc i = omega arith in
    let rest : IsOf (mail (first + suc i) (messages.Stop e)) (to_each (messages.Stop e) (untold_from (first + 1) xs)) =
    subst (λ (n : ℕ). IsOf (mail n (messages.Stop e)) (to_each (messages.Stop e) (untold_from (first + 1) xs))) at (untold_is e (first + 1) xs i (omega (arith, lt)) no') in
    either (λ (ns : List ℕ). IsOf (mail (first + suc i) (messages.Stop e)) (to_each (messages.Stop e) ns)) (is_told x) (untold_from (first + 1) xs) (first ∷ untold_from (first + 1) xs) (λ y. rest) (λ n. inr rest)

told_is : (first : ℕ) (told : List (Option Tail)) (i : ℕ) (t : Tail) → slice_index_or told i None ≡ Some t → Told first told (first + i) t
told_is first [] zero t e = cc e
told_is first [] (suc i) t e = cc e
told_is first (x ∷ xs) zero t e = inl (omega arith, e)
told_is first (x ∷ xs) (suc i) t e = inr (subst (λ (n : ℕ). Told (first + 1) xs n t) (omega arith) (told_is (first + 1) xs i t e))

some_told : (o : Option Tail) → is_told o ≡ true → (t : Tail) × (o ≡ Some t)
some_told None h = absurd (cc h)
some_told (Some t) h = (t, refl)

first_reply : (told : List (Option Tail)) → 0 < repliers told → (i : ℕ) × (i < length told) × (is_told (slice_index_or told i None) ≡ true)
first_reply [] h = absurd (omega (arith, h))
first_reply (x ∷ xs) h = elim (cases_Bool (is_told x)) [
  | inl y ↦ (0, omega arith, y)
  | inr n ↦ (let z = first_reply xs (let q : 0 < 0 + repliers xs = rw n at h in omega (arith, q)) in (suc z.0, (let y = z.1 in omega (arith, y)), z.2))
]

all_reply : (told : List (Option Tail)) → ((i : ℕ) → i < length told → is_told (slice_index_or told i None) ≡ true) → repliers told ≡ length told
all_reply [] h = refl
all_reply (x ∷ xs) h = (let y = h 0 (omega arith) in let z = all_reply xs (λ i lt. h (suc i) (omega (arith, lt))) in rw y (omega (arith, z)))

pub nudge_calls : (g : Tree) (w : ClusterState) (o e : ℕ) → Sound g o w → Electing_in w e → ((i : ℕ) → i < length w.seats → (seat w (suc i)).up ≡ true) → (send w (nudges w)).last < last_number → ((i : ℕ) → i < length w.seats → (seat w (suc i)).up ≡ true → (member w (suc i)).promise ≡ e → (t : Tail) × OnItsWay (Behind 0) (mail 0 (messages.Stopped e (suc i) t)) (send w (nudges w)).mail) → HasCalls (send w (nudges w)) e
nudge_calls g w o e so el all room words = record {
  all_up = all;
  called = λ i lt. elim (cases_Bool (is_told (slice_index_or w.coordinator.told i None))) [
    | inl y ↦ inl (promised i y)
    | inr n ↦ inr (inr (way_behind (Behind 0) (mail (suc i) (messages.Stop e)) w.mail (numbered w.last (nudges w))
        (way_sent (Behind 0) (mail (suc i) (messages.Stop e)) w.last (nudges w) (λ q z. omega (arith, z)) room
        (of_more (mail (suc i) (messages.Stop e)) (nudges_by w.coordinator_up (coordinators.nudged w.coordinator)) (member_nudges w.seats) (stop_of i lt n)))))
  ];
  vote = elim (cases_Bool (is_majority w.coordinator.members (repliers w.coordinator.told))) [
    | inr n ↦ inl n
    | inl y ↦ (let r = first_reply w.coordinator.told (some w.coordinator.members (repliers w.coordinator.told) y) in
        let lt : r.0 < length w.seats = (let a = r.1 in let b = so.coordinator.places in omega (arith, a, b)) in
        let word = words r.0 lt (all r.0 lt) (promised r.0 r.2) in inr (r.0, word.0, lt, word.1))
  ];
}
  where
    some : (n r : ℕ) → is_majority n r ≡ true → 0 < r
    some n r h = pos n r (lt_is n (2 * r) h)
      where
        lt_is : (a b : ℕ) → nat_lt a b ≡ true → a < b
        lt_is a b h = grind arith

        pos : (n r : ℕ) → n < 2 * r → 0 < r
        pos n r h = omega (arith, h)

    promised : (i : ℕ) → is_told (slice_index_or w.coordinator.told i None) ≡ true → (member w (suc i)).promise ≡ e
    promised i y =
        let p : ElectingHolds o w w.coordinator.told = subst (PhaseHolds o w w.coordinator.told) el.phase so.coordinator.phase in
        let t = some_told (slice_index_or w.coordinator.told i None) y in
        let r = p.replies (suc i) t.0 (subst (λ (n : ℕ). Told 1 w.coordinator.told n t.0) (omega arith) (told_is 1 w.coordinator.told i t.0 t.1)) in
        let low = r.1 in
        let high = (so.each_member (suc i)).not_ahead in
        let d = el.epoch_is in
        omega (arith, low, high, d)

    stop_of : (i : ℕ) → i < length w.seats → is_told (slice_index_or w.coordinator.told i None) ≡ false → IsOf (mail (suc i) (messages.Stop e)) (nudges_by w.coordinator_up (coordinators.nudged w.coordinator))
    stop_of i lt n =
        subst (λ (b : Bool). IsOf (mail (suc i) (messages.Stop e)) (nudges_by b (coordinators.nudged w.coordinator))) (sym el.coordinator_up)
        (subst (λ (p : Phase). IsOf (mail (suc i) (messages.Stop e)) (coordinators.nudged_in p w.coordinator)) (sym el.phase)
        (subst (λ (q : ℕ). IsOf (mail (suc i) (messages.Stop e)) (to_each (messages.Stop q) (untold_from 1 w.coordinator.told))) (sym el.epoch_is)
        (subst (λ (q : ℕ). IsOf (mail q (messages.Stop e)) (to_each (messages.Stop e) (untold_from 1 w.coordinator.told))) (omega arith)
        (untold_is e 1 w.coordinator.told i (let b = so.coordinator.places in omega (arith, lt, b)) n))))

-- ---- no rest while it elects

pub elects_on : (g : Tree) (w : ClusterState) (o e : ℕ) → Sound g o w → 0 < length w.seats → HasWords w e → HasCalls w e → next_job w ≡ None → next_letter w ≡ None → ⊥
elects_on g w o e so pos h c none next = elim c.vote [
  | inl few ↦ (let all = all_reply w.coordinator.told told in let a = so.coordinator.places in let b = so.coordinator.count in
      let y : is_majority w.coordinator.members (repliers w.coordinator.told) ≡ true = lt_made w.coordinator.members (2 * repliers w.coordinator.told) (omega (arith, all, a, b, pos)) in cc (few, y))
  | inr z ↦ way_none (Behind 0) w (mail 0 (messages.Stopped e (suc z.0) z.1)) w.mail next h.elects.coordinator_up z.3
]
  where
    lt_made : (a b : ℕ) → a < b → nat_lt a b ≡ true
    lt_made a b h = grind arith

    is_member : (i : ℕ) → i < length w.seats → IsMember w (suc i)
    is_member i lt = (omega arith, omega (arith, lt))

    promised : (i : ℕ) → i < length w.seats → (member w (suc i)).promise ≡ e
    promised i lt = elim (c.called i lt) [
      | inl p ↦ p
      | inr z ↦ elim z [
        | inl q ↦ absurd (let j = idle_by w (suc i) none (is_member i lt) (c.all_up i lt) in cc (q, j))
        | inr way ↦ absurd (way_none (Behind 0) w (mail (suc i) (messages.Stop e)) w.mail next (up_by w (suc i) (is_member i lt) (c.all_up i lt)) way)
      ]
    ]

    told : (i : ℕ) → i < length w.coordinator.told → is_told (slice_index_or w.coordinator.told i None) ≡ true
    told i lt' =
        let lt : i < length w.seats = (let a = so.coordinator.places in omega (arith, lt', a)) in
        elim (h.each i lt (c.all_up i lt) (promised i lt)) [
          | inl t ↦ t
          | inr way ↦ absurd (way_none (Behind 0) w (mail 0 (messages.Stopped e (suc i) way.0)) w.mail next h.elects.coordinator_up way.1)
        ]
