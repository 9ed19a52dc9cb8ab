-- From an election to the rest.
use Rattle.std.proofs.Common.{◌≡◌, ℕ, ◌+◌, ◌-◌, ◌<◌, ◌≤◌, ◌≢◌, ◌⊎◌, List, [], ◌∷◌, ◌++◌, length, refl, sym, ap, ◌∙◌, subst, inl, inr, arith, Option, Some, None, Bool, true, false, cond, zero, suc}
use Rattle.std.specs.Prelude.{◌&&◌, ◌==◌, nat_lt, not, slice_index_or, slice_set}
use Rattle.std.proofs.lemmas.Bool.{cases_eq, cases_Bool, cases_lt}
use Rattle.std.proofs.lemmas.List.{get_or-set_same, get_or-set_other}
use Rattle.epoch_coordinator.specs.declared.tail.Tail.{Tail}
use Rattle.epoch_coordinator.specs.declared.message.Message.TheVariants as messages
use Rattle.epoch_coordinator.specs.declared.message.Sent.{Sent}
use Rattle.epoch_coordinator.specs.declared.coordinator.Phase.{Phase}
use Rattle.epoch_coordinator.specs.declared.coordinator.Phase.TheVariants.{Electing, Running}
use Rattle.epoch_coordinator.specs.declared.coordinator.StoppedDid.TheVariants as did
use Rattle.epoch_coordinator.specs.Members.{MemberRole, Stopped, Follower, Leader}
use Rattle.epoch_coordinator.specs.MemberSteps.{mail, is_another, is_majority}
use Rattle.epoch_coordinator.specs.Coordinators.{CoordinatorState, Hears, hears, stopped, stopped_by, told_before, told_in_epoch, tell, first_of, is_told, repliers, leader_of, electors_of, to_each, others_from, opening}
use Rattle.epoch_coordinator.specs.Scripts.{opened}
use Rattle.replication_laws.specs.Cluster.{Seat, ClusterState, nobody, seat, member, IsMember, reign, last_number, numbered, letter_in, marked}
use Rattle.replication_laws.specs.Events.{to_coordinator}
use Rattle.replication_laws.specs.Soundness.{Tree, LeadsEpoch, RoleHolds, PhaseHolds, Sound}
use Rattle.replication_laws.proofs.Takings.{eq_is, eq_made}
use Rattle.settling_laws.specs.Tokens.{OnItsWay, Behind, Exactly, Token, Tells, Is_told, Is_to_open, HasTokens}
use Rattle.settling_laws.specs.Electing.{Electing_in, HasWords, IsLost}
use Rattle.settling_laws.proofs.Mails.{way_more, way_behind, way_marked, way_sent, IsOf}
use Rattle.settling_laws.proofs.Heard.{either}
use Rattle.settling_laws.proofs.Bringing.{another_is}

-- ---- while it elects, who promised the epoch is stopped

pub no_reign : (g : Tree) (w : ClusterState) (o e k l : ℕ) → Sound g o w → Electing_in w e → LeadsEpoch w e l → ⊥
no_reign g w o e k l s el leads =
    let h : PhaseHolds o w w.coordinator.told Electing = subst (PhaseHolds o w w.coordinator.told) el.phase s.coordinator.phase in
    let none : reign w e ≡ None = subst (λ (n : ℕ). reign w n ≡ None) el.epoch_is h.new in
    let is = leads.1 in
    cc (none, is)

pub elect_stopped : (g : Tree) (w : ClusterState) (o e k : ℕ) → Sound g o w → Electing_in w e → (member w k).promise ≡ e → (member w k).role ≡ Stopped
elect_stopped g w o e k s el p = go (member w k).role refl
  where
    holds : RoleHolds g w k (member w k).promise (member w k).role
    holds = (s.each_member k).role

    go : (r : MemberRole) → (member w k).role ≡ r → (member w k).role ≡ Stopped
    go Stopped e = e
    go (Follower f) eq = absurd (let h : RoleHolds g w k (member w k).promise (Follower f) = subst (RoleHolds g w k (member w k).promise) eq holds in no_reign g w o e k f s el (subst (λ (n : ℕ). LeadsEpoch w n f) p h.0))
    go (Leader d) eq = absurd (let h : RoleHolds g w k (member w k).promise (Leader d) = subst (RoleHolds g w k (member w k).promise) eq holds in no_reign g w o e k k s el (subst (λ (n : ℕ). LeadsEpoch w n k) p h.leads))

-- ---- what was told stays told

told_at : List (Option Tail) → ℕ → Bool
told_at told i = is_told (slice_index_or told i None)

first_told : (o : Option Tail) (u : Tail) → is_told (first_of o u) ≡ true
first_told None u = refl
first_told (Some t) u = refl

tell_here : (told : List (Option Tail)) (j : ℕ) (u : Tail) → j < length told → is_told (slice_index_or (tell (suc j) u told) j None) ≡ true
tell_here told j u lt =
    let at : suc j - 1 ≡ j = omega arith in
    subst (λ (n : ℕ). is_told (slice_index_or (slice_set told n (first_of (slice_index_or told n None) u)) j None) ≡ true) (sym at)
    (subst (λ (o : Option Tail). is_told o ≡ true) (sym (get_or-set_same told j (first_of (slice_index_or told j None) u) None lt)) (first_told (slice_index_or told j None) u))

tell_more : (told : List (Option Tail)) (j i : ℕ) (u : Tail) → i < length told → is_told (slice_index_or told i None) ≡ true → is_told (slice_index_or (tell (suc j) u told) i None) ≡ true
tell_more told j i u lt is = elim (cases_eq i j) [
  | inl eq ↦ subst (λ (x : ℕ). is_told (slice_index_or (tell (suc j) u told) x None) ≡ true) (sym eq) (tell_here told j u (omega (arith, lt, eq)))
  | inr ne ↦
      let at : suc j - 1 ≡ j = omega arith in
      subst (λ (n : ℕ). is_told (slice_index_or (slice_set told n (first_of (slice_index_or told n None) u)) i None) ≡ true) (sym at)
      (subst (λ (o : Option Tail). is_told o ≡ true) (sym (get_or-set_other told j i (first_of (slice_index_or told j None) u) None ne)) is)
]

-- who told is told to follow
follow_of : (e l first : ℕ) (told : List (Option Tail)) (i : ℕ) → is_told (slice_index_or told i None) ≡ true → (first + i ≡ l → ⊥) → IsOf (mail (first + i) (messages.Follow e l)) (to_each (messages.Follow e l) (others_from first l told))
follow_of e l first [] zero is ne = cc is
follow_of e l first [] (suc i) is ne = cc is
follow_of e l first (x ∷ xs) zero is ne =
    let other : (first == l) ≡ false = elim (cases_Bool (first == l)) [ inr n ↦ n | inl y ↦ absurd (let z = eq_is first l y in ne (omega (arith, z))) ] in
    let test : (is_told x && not (first == l)) ≡ true = rw (is, other) refl in
    let at : first ≡ first + 0 = omega arith in
    subst (λ (b : Bool). IsOf (mail (first + 0) (messages.Follow e l)) (to_each (messages.Follow e l) (cond b (first ∷ others_from (first + 1) l xs) (others_from (first + 1) l xs)))) (sym test)
    (inl (ap (λ (n : ℕ). mail n (messages.Follow e l)) at))
follow_of e l first (x ∷ xs) (suc i) is ne =
    let at : first + 1 + i ≡ first + suc i = omega arith in
    let rest : IsOf (mail (first + suc i) (messages.Follow e l)) (to_each (messages.Follow e l) (others_from (first + 1) l xs)) =
    subst (λ (n : ℕ). IsOf (mail n (messages.Follow e l)) (to_each (messages.Follow e l) (others_from (first + 1) l xs))) at (follow_of e l (first + 1) xs i is (λ z. ne (sym at ∙ z))) in
    either (λ (ns : List ℕ). IsOf (mail (first + suc i) (messages.Follow e l)) (to_each (messages.Follow e l) ns)) (is_told x && not (first == l)) (first ∷ others_from (first + 1) l xs) (others_from (first + 1) l xs)
    (λ y. inr rest) (λ n. rest)

-- ---- what a word makes of the coordinator

pub data ElectTook (e : ℕ) (c : CoordinatorState) (x from : ℕ) (u : Tail) (h : Hears) : Type 0 where
  Passes_by : h.state ≡ c → (is_another c.members 0 from ≡ true → x ≡ e → ⊥) → ElectTook e c x from u h
  Counts_on : h.state ≡ record c { told = tell from u c.told } → is_another c.members 0 from ≡ true → is_majority c.members (repliers (tell from u c.told)) ≡ false → ElectTook e c x from u h
  Opens_epoch : h ≡ hears (record c { told = tell from u c.told; phase = Running (leader_of (tell from u c.told)) }) (did.Opened c.epoch (leader_of (tell from u c.told)) (electors_of (tell from u c.told)))
      → is_another c.members 0 from ≡ true → ElectTook e c x from u h

pub elect_took : (e x from : ℕ) (u : Tail) (c : CoordinatorState) → c.phase ≡ Electing → c.epoch ≡ e → c.job ≡ None → ElectTook e c x from u (stopped x from u c)
elect_took e x from u c phase epoch idle =
    subst (λ (j : Option ℕ). ElectTook e c x from u (stopped_by j x from u c)) (sym idle)
    (either (ElectTook e c x from u) (not (is_another c.members 0 from)) (hears c did.Nothing) (cond (nat_lt x c.epoch) (told_before c.phase from c) (cond (x == c.epoch) (told_in_epoch c.phase from u c) (hears c did.Nothing)))
    (λ n. Passes_by refl (λ y z. clash_not (is_another c.members 0 from) y n))
    (λ f. either (ElectTook e c x from u) (nat_lt x c.epoch) (told_before c.phase from c) (cond (x == c.epoch) (told_in_epoch c.phase from u c) (hears c did.Nothing))
    (λ lt. subst (λ (p : Phase). ElectTook e c x from u (told_before p from c)) (sym phase) (Passes_by refl (λ y z. less x c.epoch lt (z ∙ sym epoch))))
    (λ nlt. either (ElectTook e c x from u) (x == c.epoch) (told_in_epoch c.phase from u c) (hears c did.Nothing)
    (λ same. subst (λ (p : Phase). ElectTook e c x from u (told_in_epoch p from u c)) (sym phase)
    (either (ElectTook e c x from u) (is_majority c.members (repliers (tell from u c.told)))
    (hears (record c { told = tell from u c.told; phase = Running (leader_of (tell from u c.told)) }) (did.Opened c.epoch (leader_of (tell from u c.told)) (electors_of (tell from u c.told))))
    (hears (record c { told = tell from u c.told }) did.Nothing)
    (λ y. Opens_epoch refl (named (is_another c.members 0 from) f)) (λ n. Counts_on refl (named (is_another c.members 0 from) f) n)))
    (λ ne. Passes_by refl (λ y z. clash (x == c.epoch) (eq_made x c.epoch (z ∙ sym epoch)) ne)))))
  where
    clash : (b : Bool) → b ≡ true → b ≡ false → ⊥
    clash b t f = cc (t, f)

    clash_not : (b : Bool) → b ≡ true → not b ≡ true → ⊥
    clash_not true y n = cc n
    clash_not false y n = cc y

    named : (b : Bool) → not b ≡ false → b ≡ true
    named true n = refl
    named false n = absurd (cc n)

    less : (a b : ℕ) → nat_lt a b ≡ true → a ≡ b → ⊥
    less a b lt same = let z : a < b = lt_is a b lt in omega (arith, z, same)
      where
        lt_is : (a b : ℕ) → nat_lt a b ≡ true → a < b
        lt_is a b h = grind arith

-- ---- a word comes

-- a member that has promised an epoch above 0 is one
member_known : (w : ClusterState) (k : ℕ) → 0 < (member w k).promise → IsMember w k
member_known w zero p = absurd (omega (arith, p))
member_known w (suc i) p = elim (cases_lt i (length w.seats)) [
  | inl lt ↦ (omega arith, omega (arith, lt))
  | inr ge ↦ absurd (let z : (member w (suc i)).promise ≡ 0 = ap (λ (s : Seat). s.state.promise) (beyond w.seats i ge) in omega (arith, p, z))
]
  where
    beyond : (xs : List Seat) (i : ℕ) → length xs ≤ i → slice_index_or xs i nobody ≡ nobody
    beyond [] zero le = refl
    beyond [] (suc i) le = refl
    beyond (x ∷ xs) zero le = absurd (omega (arith, le))
    beyond (x ∷ xs) (suc i) le = beyond xs i (omega (arith, le))

-- the words go on, or the epoch runs: then everyone has a token, or its leader is down
pub data Elected (w : ClusterState) (e : ℕ) : Type 0 where
  Goes_on : HasWords w e → Elected w e
  Runs : (l low : ℕ) → HasTokens w e l low → Elected w e
  Is_lost : (l : ℕ) → IsLost w e l → Elected w e

pub word_comes : (g g' : Tree) (w : ClusterState) (o n e x from : ℕ) (u : Tail) (s : Sent) → Sound g o w → HasWords w e → letter_in n w.mail ≡ Some s → s.to ≡ 0 → s.message ≡ messages.Stopped x from u
    → (to_coordinator (messages.Stopped x from u) (record w { mail = marked n w.mail })).last < last_number
    → Sound g' o (to_coordinator (messages.Stopped x from u) (record w { mail = marked n w.mail }))
    → Elected (to_coordinator (messages.Stopped x from u) (record w { mail = marked n w.mail })) e
word_comes g g' w o n e x from u s so h is to msg room so' = go (elect_took e x from u w.coordinator h.elects.phase h.elects.epoch_is h.elects.idle)
  where
    hs : Hears
    hs = stopped x from u w.coordinator

    w' : ClusterState
    w' = to_coordinator (messages.Stopped x from u) (record w { mail = marked n w.mail })

    sent : List Sent
    sent = opened hs.state hs.answer

    pass : (At : ℕ → Type 0) (y : Sent) → (s ≡ y → ⊥) → OnItsWay At y w.mail → OnItsWay At y w'.mail
    pass At y ne way = way_more At y (marked n w.mail) (numbered w.last sent) (way_marked At n y s w.mail is (λ at. ne) way)

    fresh : (At : ℕ → Type 0) (y : Sent) → ((i : ℕ) → w.last < i → At i) → IsOf y sent → OnItsWay At y w'.mail
    fresh At y at of = way_behind At y (marked n w.mail) (numbered w.last sent) (way_sent At y w.last sent at room of)

    told_places : length w.coordinator.told ≡ length w.seats
    told_places = so.coordinator.places

    named : (k : ℕ) → IsMember w k → is_another w.coordinator.members 0 k ≡ true
    named k mk = another_is w.coordinator.members 0 k mk.0 (let c = so.coordinator.count in let z = mk.1 in omega (arith, c, z)) (λ z. (let y = mk.0 in omega (arith, y, z)))

    same_word : (k : ℕ) (t : Tail) → s ≡ mail 0 (messages.Stopped e k t) → (x ≡ e) × (from ≡ k)
    same_word k t z = let same : messages.Stopped x from u ≡ messages.Stopped e k t = sym msg ∙ ap (λ (q : Sent). q.message) z in (cc same, cc same)

    -- told now, or its word is still on its way
    word : (i : ℕ) → i < length w.seats → is_another w.coordinator.members 0 from ≡ true → (is_told (slice_index_or w.coordinator.told i None) ≡ true) ⊎ ((t : Tail) × OnItsWay (Behind 0) (mail 0 (messages.Stopped e (suc i) t)) w.mail)
        → (is_told (slice_index_or (tell from u w.coordinator.told) i None) ≡ true) ⊎ ((t : Tail) × OnItsWay (Behind 0) (mail 0 (messages.Stopped e (suc i) t)) w'.mail)
    word i lt other old = by from refl
      where
        by : (f : ℕ) → from ≡ f → (is_told (slice_index_or (tell from u w.coordinator.told) i None) ≡ true) ⊎ ((t : Tail) × OnItsWay (Behind 0) (mail 0 (messages.Stopped e (suc i) t)) w'.mail)
        by zero eq = absurd (not_zero w.coordinator.members (subst (λ (f : ℕ). is_another w.coordinator.members 0 f ≡ true) eq other))
          where
            not_zero : (members : ℕ) → is_another members 0 0 ≡ true → ⊥
            not_zero members h = grind arith
        by (suc j) eq = elim old [
          | inl t ↦ inl (subst (λ (f : ℕ). is_told (slice_index_or (tell f u w.coordinator.told) i None) ≡ true) (sym eq) (tell_more w.coordinator.told j i u (omega (arith, lt, told_places)) t))
          | inr way ↦ elim (cases_eq i j) [
            | inl same ↦ inl (subst (λ (f : ℕ). is_told (slice_index_or (tell f u w.coordinator.told) i None) ≡ true) (sym eq)
                (subst (λ (q : ℕ). is_told (slice_index_or (tell (suc j) u w.coordinator.told) q None) ≡ true) (sym same) (tell_here w.coordinator.told j u (omega (arith, lt, told_places, same)))))
            | inr ne ↦ inr (way.0, pass (Behind 0) (mail 0 (messages.Stopped e (suc i) way.0)) (λ z. (let f = (same_word (suc i) way.0 z).1 in ne (omega (arith, f, eq)))) way.1)
          ]
        ]

    go : ElectTook e w.coordinator x from u hs → Elected w' e
    go (Passes_by st none) = Goes_on (record {
      elects = record { coordinator_up = h.elects.coordinator_up; phase = ap (λ (c : CoordinatorState). c.phase) st ∙ h.elects.phase; epoch_is = ap (λ (c : CoordinatorState). c.epoch) st ∙ h.elects.epoch_is; idle = ap (λ (c : CoordinatorState). c.job) st ∙ h.elects.idle };
      each = λ i lt up p. elim (h.each i lt up p) [
        | inl t ↦ inl (ap (λ (c : CoordinatorState). is_told (slice_index_or c.told i None)) st ∙ t)
        | inr way ↦ inr (
          way.0,
          pass (Behind 0) (mail 0 (messages.Stopped e (suc i) way.0))
              (λ z. (let f = same_word (suc i) way.0 z in none (subst (λ (q : ℕ). is_another w.coordinator.members 0 q ≡ true) (sym f.1) (named (suc i) (omega arith, omega (arith, lt)))) f.0)) way.1,
        )
      ];
    })
    go (Counts_on st other few) = Goes_on (record {
      elects = record { coordinator_up = h.elects.coordinator_up; phase = ap (λ (c : CoordinatorState). c.phase) st ∙ h.elects.phase; epoch_is = ap (λ (c : CoordinatorState). c.epoch) st ∙ h.elects.epoch_is; idle = ap (λ (c : CoordinatorState). c.job) st ∙ h.elects.idle };
      each = λ i lt up p. elim (word i lt other (h.each i lt up p)) [
        | inl t ↦ inl (ap (λ (c : CoordinatorState). is_told (slice_index_or c.told i None)) st ∙ t)
        | inr way ↦ inr way
      ];
    })
    go (Opens_epoch eq other) = by (seat w l).up refl
      where
        told : List (Option Tail)
        told = tell from u w.coordinator.told

        l : ℕ
        l = leader_of told

        now : CoordinatorState
        now = record w.coordinator { told = told; phase = Running l }

        state_is : hs.state ≡ now
        state_is = ap (λ (y : Hears). y.state) eq

        sent_is : sent ≡ opening w.coordinator.epoch l told
        sent_is = ap (λ (y : Hears). opened y.state y.answer) eq

        phase : w'.coordinator.phase ≡ Running l
        phase = ap (λ (c : CoordinatorState). c.phase) state_is

        epoch : w'.coordinator.epoch ≡ e
        epoch = ap (λ (c : CoordinatorState). c.epoch) state_is ∙ h.elects.epoch_is

        idle : w'.coordinator.job ≡ None
        idle = ap (λ (c : CoordinatorState). c.job) state_is ∙ h.elects.idle

        leads : LeadsEpoch w' e l
        leads =
            let p : PhaseHolds o w' w'.coordinator.told (Running l) = subst (PhaseHolds o w' w'.coordinator.told) phase so'.coordinator.phase in
            subst (λ (q : ℕ). LeadsEpoch w' q l) epoch p

        late : o < e
        late = so'.tree.reigns_later e (leads.0, leads.1)

        promised : (member w l).promise ≡ e
        promised =
            let r = so'.each_reign e leads.0 leads.1 in
            let low : e ≤ (member w l).promise = subst (λ (q : ℕ). e ≤ (member w q).promise) leads.2 r.led in
            let high = (so.each_member l).not_ahead in
            let d = h.elects.epoch_is in
            omega (arith, low, high, d)

        lm : IsMember w l
        lm = member_known w l (omega (arith, late, promised))

        by : (b : Bool) → (seat w l).up ≡ b → Elected w' e
        by false down = Is_lost l (record { coordinator_up = h.elects.coordinator_up; phase = phase; epoch_is = epoch; idle = idle; is_member = lm; down = down })
        by true up = Runs l (w.last + 1) (record {
          runs = record { coordinator_up = h.elects.coordinator_up; phase = phase; epoch_is = epoch; idle = idle; is_member = lm; leader_up = up; promised = promised };
          leads = Is_to_open (elect_stopped g w o e l so h.elects promised) (subst (λ (xs : List Sent). w.last + length (numbered w.last xs) < last_number → OnItsWay (Exactly (w.last + 1)) (mail l (messages.Open e)) (marked n w.mail ++ numbered w.last xs)) (sym sent_is) first room);
          low_given = given;
          each = λ k mk ne up' p. one k mk ne up' p;
        })
          where
            over : (a b : ℕ) → nat_lt a b ≡ false → b ≤ a
            over a b f = grind arith

            some : (xs : List Sent) (y : Sent) → w.last + length (numbered w.last (y ∷ xs)) < last_number → nat_lt w.last last_number ≡ true
            some xs y r = elim (cases_Bool (nat_lt w.last last_number)) [
              | inl t ↦ t
              | inr f ↦ absurd (let z = over w.last last_number f in let q : w.last + 0 < last_number = rw f at r in omega (arith, z, q))
            ]

            first : w.last + length (numbered w.last (opening w.coordinator.epoch l told)) < last_number → OnItsWay (Exactly (w.last + 1)) (mail l (messages.Open e)) (marked n w.mail ++ numbered w.last (opening w.coordinator.epoch l told))
            first r =
                way_behind (Exactly (w.last + 1)) (mail l (messages.Open e)) (marked n w.mail) (numbered w.last (opening w.coordinator.epoch l told))
                (subst (λ (b : Bool). OnItsWay (Exactly (w.last + 1)) (mail l (messages.Open e)) (cond b (record { number = w.last + 1; delivered = false; sent = mail l (messages.Open w.coordinator.epoch) } ∷ numbered (w.last + 1) (to_each (messages.Follow w.coordinator.epoch l) (others_from 1 l told))) []))
                (sym (some (to_each (messages.Follow w.coordinator.epoch l) (others_from 1 l told)) (mail l (messages.Open w.coordinator.epoch)) r))
                (inl (refl, refl, ap (λ (q : ℕ). mail l (messages.Open q)) h.elects.epoch_is)))

            given : w.last + 1 ≤ w'.last
            given = subst (λ (xs : List Sent). w.last + length (numbered w.last xs) < last_number → w.last + 1 ≤ w.last + length (numbered w.last xs)) (sym sent_is)
                (λ r. (let t = some (to_each (messages.Follow w.coordinator.epoch l) (others_from 1 l told)) (mail l (messages.Open w.coordinator.epoch)) r in rw t (omega arith))) room

            one : (k : ℕ) → IsMember w k → k ≢ l → (seat w k).up ≡ true → (member w k).promise ≡ e → Token w' e l (w.last + 1) k (member w k)
            one zero mk ne up' p = absurd (omega (arith, mk.0))
            one (suc i) mk ne up' p =
                let lt : i < length w.seats = (let z = mk.1 in omega (arith, z)) in
                let role = elect_stopped g w o e (suc i) so h.elects p in
                elim (word i lt other (h.each i lt up' p)) [
                  | inl t ↦ Is_told role (fresh (Behind 0) (mail (suc i) (messages.Follow e l)) (λ q z. omega (arith, z))
                      (subst (λ (xs : List Sent). IsOf (mail (suc i) (messages.Follow e l)) xs) (sym sent_is)
                      (inr (subst (λ (q : ℕ). IsOf (mail (suc i) (messages.Follow e l)) (to_each (messages.Follow q l) (others_from 1 l told))) (sym h.elects.epoch_is)
                      (subst (λ (q : ℕ). IsOf (mail q (messages.Follow e l)) (to_each (messages.Follow e l) (others_from 1 l told))) (omega arith) (follow_of e l 1 told i t (λ z. ne (omega (arith, z)))))))))
                  | inr way ↦ Tells way.0 role way.1
                ]
