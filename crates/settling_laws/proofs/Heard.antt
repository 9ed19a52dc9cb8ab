-- What a member that promised the running epoch does with a message.
use Rattle.std.proofs.Common.{◌≡◌, ℕ, ◌<◌, ◌≤◌, List, refl, sym, ap, ◌∙◌, subst, inl, inr, arith, Option, Some, None, Bool, true, false, cond}
use Rattle.std.specs.Prelude.{◌&&◌, ◌||◌, ◌==◌, nat_lt}
use Rattle.chunk_format.specs.declared.chunk.Chunk.{Chunk}
use Rattle.chunk_format.specs.Logs.{end_of, opening_chunk}
use Rattle.epoch_coordinator.specs.declared.tail.Tail.{Tail}
use Rattle.epoch_coordinator.specs.declared.tail.Run.{Run}
use Rattle.epoch_coordinator.specs.declared.message.Job.{Job}
use Rattle.epoch_coordinator.specs.declared.message.Job.TheVariants.{Write, Cut, Promise}
use Rattle.epoch_coordinator.specs.declared.message.Message.{Message}
use Rattle.epoch_coordinator.specs.declared.message.Message.TheVariants as messages
use Rattle.epoch_coordinator.specs.Tails.{tail_of, runs_of, contains}
use Rattle.epoch_coordinator.specs.Members.{Leading, MemberRole, MemberState, Stopped, Follower, Leader, is_stopped}
use Rattle.epoch_coordinator.specs.MemberSteps.{Took, silent, says, says_stopped, chunk_from, acknowledge, send_next, asks, epoch_of, is_another, names_another, after_stop, can_open, new_leading, stamp_at, after_open, after_follow, ask_of_leader, after_ask, ends_in, kept_end, after_shape, goes_on, after_append, heard, is_later_stop, taken}
use Rattle.replication_laws.proofs.Takings.{both_are, eq_is, eq_made}
use Rattle.replication_laws.proofs.Walks.{or_cases}

pub either : {A : Type 0} (P : A → Type 0) (b : Bool) (x y : A) → (b ≡ true → P x) → (b ≡ false → P y) → P (cond b x y)
either P true x y p q = p refl
either P false x y p q = q refl

lt_is : (a b : ℕ) → nat_lt a b ≡ true → a < b
lt_is a b h = grind arith

own : (e p : ℕ) → ((e == p) || false) ≡ true → e ≡ p
own e p h = elim (or_cases (e == p) false h) [ inl x ↦ eq_is e p x | inr x ↦ absurd (cc x) ]

heard_test : (e p : ℕ) (a : Bool) → a ≡ true → e ≡ p → (a && ((e == p) || false)) ≡ true
heard_test e p a t same = rw (t, eq_made e p same) refl

clash : (b : Bool) → b ≡ true → b ≡ false → ⊥
clash b t f = cc (t, f)

-- what is known of messages, for who doesn't lead, and for the leader
abbrev pub Fair : ℕ → ℕ → Message → Type 0
Fair e l (messages.Stop x) = x ≤ e
Fair e l (messages.Stopped x from t) = Unit {0}
Fair e l (messages.Open x) = x ≡ e → ⊥
Fair e l (messages.Follow x leader) = x ≡ e → leader ≡ l
Fair e l (messages.Shape x runs) = Unit {0}
Fair e l (messages.Ask x from t) = Unit {0}
Fair e l (messages.Append x t c) = Unit {0}

abbrev pub FairToLeader : ℕ → Message → Type 0
FairToLeader e (messages.Stop x) = x ≤ e
FairToLeader e (messages.Stopped x from t) = Unit {0}
FairToLeader e (messages.Open x) = Unit {0}
FairToLeader e (messages.Follow x leader) = x ≡ e → ⊥
FairToLeader e (messages.Shape x runs) = Unit {0}
FairToLeader e (messages.Ask x from t) = Unit {0}
FairToLeader e (messages.Append x t c) = Unit {0}

-- a Stop that isn't later leaves a member as it is
stop_state : (P : Took → Type 0) (e x : ℕ) (m : MemberState) → x ≤ e → m.promise ≡ e → ((t : Took) → t.state ≡ m → P t) → P (after_stop x m)
stop_state P e x m le p still =
    either P (nat_lt m.promise x) (silent (record m { role = Stopped; job = Some (Promise x) })) (cond ((x == m.promise) && is_stopped m.role) (says_stopped m) (silent m))
    (λ t. absurd (let lt = lt_is m.promise x t in omega (arith, lt, le, p)))
    (λ f. either P ((x == m.promise) && is_stopped m.role) (says_stopped m) (silent m) (λ t. still (says_stopped m) refl) (λ f. still (silent m) refl))

-- ---- a stopped member that doesn't lead

pub data StoppedTook (e l : ℕ) (m : MemberState) (msg : Message) (t : Took) : Type 0 where
  Still : t.state ≡ m → (msg ≡ messages.Follow e l → ⊥) → StoppedTook e l m msg t
  Goes_on : t ≡ asks l (record m { role = Follower l }) → StoppedTook e l m msg t

pub stopped_taken : (now e l : ℕ) (msg : Message) (m : MemberState) → Fair e l msg → m.promise ≡ e → m.role ≡ Stopped → is_another m.members m.number l ≡ true → StoppedTook e l m msg (taken now msg m)
stopped_taken now e l (messages.Stop x) m fair p role other =
    either (StoppedTook e l m (messages.Stop x)) ((x == m.promise) || nat_lt m.promise x) (heard now (messages.Stop x) m) (silent m)
    (λ t. stop_state (StoppedTook e l m (messages.Stop x)) e x m fair p (λ y same. Still same (λ z. cc z)))
    (λ f. Still refl (λ z. cc z))
stopped_taken now e l (messages.Stopped x from t) m fair p role other =
    either (StoppedTook e l m (messages.Stopped x from t)) (is_another m.members m.number from && ((x == m.promise) || false)) (silent m) (silent m)
    (λ t. Still refl (λ z. cc z)) (λ f. Still refl (λ z. cc z))
stopped_taken now e l (messages.Open x) m fair p role other =
    either (StoppedTook e l m (messages.Open x)) ((x == m.promise) || false) (after_open now m) (silent m)
    (λ t. absurd (fair (own x m.promise t ∙ p))) (λ f. Still refl (λ z. cc z))
stopped_taken now e l (messages.Follow x f) m fair p role other =
    either (StoppedTook e l m (messages.Follow x f)) (is_another m.members m.number f && ((x == m.promise) || false)) (after_follow f m) (silent m)
    (λ t. let b = both_are (is_another m.members m.number f) ((x == m.promise) || false) t in
    let same : f ≡ l = fair (own x m.promise b.1 ∙ p) in
    either (StoppedTook e l m (messages.Follow x f)) (is_stopped m.role) (asks f (record m { role = Follower f })) (silent m)
    (λ y. Goes_on (ap (λ (n : ℕ). asks n (record m { role = Follower n })) same))
    (λ n. absurd (clash (is_stopped m.role) (ap is_stopped role) n)))
    (λ n. Still refl (λ z. (let xe : x ≡ e = cc z in let fl : f ≡ l = cc z in
    clash (is_another m.members m.number f && ((x == m.promise) || false)) (heard_test x m.promise (is_another m.members m.number f) (subst (λ (i : ℕ). is_another m.members m.number i ≡ true) (sym fl) other) (xe ∙ sym p)) n)))
stopped_taken now e l (messages.Shape x runs) m fair p role other =
    either (StoppedTook e l m (messages.Shape x runs)) ((x == m.promise) || false) (after_shape m.role runs m) (silent m)
    (λ t. subst (λ (r : MemberRole). StoppedTook e l m (messages.Shape x runs) (after_shape r runs m)) (sym role) (Still refl (λ z. cc z))) (λ f. Still refl (λ z. cc z))
stopped_taken now e l (messages.Ask x from u) m fair p role other =
    either (StoppedTook e l m (messages.Ask x from u)) (is_another m.members m.number from && ((x == m.promise) || false)) (after_ask m.role from u m) (silent m)
    (λ t. subst (λ (r : MemberRole). StoppedTook e l m (messages.Ask x from u) (after_ask r from u m)) (sym role) (Still refl (λ z. cc z))) (λ f. Still refl (λ z. cc z))
stopped_taken now e l (messages.Append x u c) m fair p role other =
    either (StoppedTook e l m (messages.Append x u c)) ((x == m.promise) || false) (after_append m.role u c m) (silent m)
    (λ t. subst (λ (r : MemberRole). StoppedTook e l m (messages.Append x u c) (after_append r u c m)) (sym role) (Still refl (λ z. cc z))) (λ f. Still refl (λ z. cc z))

-- ---- a follower

pub data FollowerTook (e l : ℕ) (m : MemberState) (msg : Message) (t : Took) : Type 0 where
  Stays : t.state ≡ m → ((c : Chunk) → goes_on e (tail_of m.log) c m.log ≡ true → msg ≡ messages.Append e (tail_of m.log) c → ⊥)
      → ((runs : List Run) → ends_in e m.log ≡ false → msg ≡ messages.Shape e runs → ⊥) → FollowerTook e l m msg t
  Has_job : (j : Job) → t.state ≡ record m { job = Some j } → FollowerTook e l m msg t
  Asks_again : t ≡ asks l m → FollowerTook e l m msg t

follower_not : (r : MemberRole) (l : ℕ) → r ≡ Follower l → is_stopped r ≡ true → ⊥
follower_not r l e s = (let z : is_stopped (Follower l) ≡ true = subst (λ (x : MemberRole). is_stopped x ≡ true) e s in cc z)

pub follower_taken : (now e l : ℕ) (msg : Message) (m : MemberState) → Fair e l msg → m.promise ≡ e → m.role ≡ Follower l → FollowerTook e l m msg (taken now msg m)
follower_taken now e l (messages.Stop x) m fair p role =
    either (FollowerTook e l m (messages.Stop x)) ((x == m.promise) || nat_lt m.promise x) (heard now (messages.Stop x) m) (silent m)
    (λ t. stop_state (FollowerTook e l m (messages.Stop x)) e x m fair p (λ y same. Stays same (λ c g z. cc z) (λ r n z. cc z)))
    (λ f. Stays refl (λ c g z. cc z) (λ r n z. cc z))
follower_taken now e l (messages.Stopped x from t) m fair p role =
    either (FollowerTook e l m (messages.Stopped x from t)) (is_another m.members m.number from && ((x == m.promise) || false)) (silent m) (silent m)
    (λ t. Stays refl (λ c g z. cc z) (λ r n z. cc z)) (λ f. Stays refl (λ c g z. cc z) (λ r n z. cc z))
follower_taken now e l (messages.Open x) m fair p role =
    either (FollowerTook e l m (messages.Open x)) ((x == m.promise) || false) (after_open now m) (silent m)
    (λ t. absurd (fair (own x m.promise t ∙ p))) (λ f. Stays refl (λ c g z. cc z) (λ r n z. cc z))
follower_taken now e l (messages.Follow x f) m fair p role =
    either (FollowerTook e l m (messages.Follow x f)) (is_another m.members m.number f && ((x == m.promise) || false)) (after_follow f m) (silent m)
    (λ t. either (FollowerTook e l m (messages.Follow x f)) (is_stopped m.role) (asks f (record m { role = Follower f })) (silent m)
    (λ y. absurd (follower_not m.role l role y))
    (λ n. Stays refl (λ c g z. cc z) (λ r n z. cc z)))
    (λ n. Stays refl (λ c g z. cc z) (λ r n z. cc z))
follower_taken now e l (messages.Shape x runs) m fair p role =
    either (FollowerTook e l m (messages.Shape x runs)) ((x == m.promise) || false) (after_shape m.role runs m) (silent m)
    (λ t. subst (λ (r : MemberRole). FollowerTook e l m (messages.Shape x runs) (after_shape r runs m)) (sym role)
    (either (FollowerTook e l m (messages.Shape x runs)) (ends_in m.promise m.log) (silent m) (cond (nat_lt (kept_end runs m.log) (end_of m.log)) (silent (record m { job = Some (Cut (kept_end runs m.log)) })) (asks l m))
    (λ y. Stays refl (λ c g z. cc z) (λ r n z. clash (ends_in m.promise m.log) y (subst (λ (i : ℕ). ends_in i m.log ≡ false) (sym p) n)))
    (λ n. either (FollowerTook e l m (messages.Shape x runs)) (nat_lt (kept_end runs m.log) (end_of m.log)) (silent (record m { job = Some (Cut (kept_end runs m.log)) })) (asks l m)
    (λ y. Has_job (Cut (kept_end runs m.log)) refl)
    (λ n. Asks_again refl))))
    (λ f. Stays refl (λ c g z. cc z) (λ r n z. (let xe : x ≡ e = cc z in clash ((x == m.promise) || false) (heard_test x m.promise true refl (xe ∙ sym p)) f)))
follower_taken now e l (messages.Ask x from u) m fair p role =
    either (FollowerTook e l m (messages.Ask x from u)) (is_another m.members m.number from && ((x == m.promise) || false)) (after_ask m.role from u m) (silent m)
    (λ t. subst (λ (r : MemberRole). FollowerTook e l m (messages.Ask x from u) (after_ask r from u m)) (sym role) (Stays refl (λ c g z. cc z) (λ r n z. cc z))) (λ f. Stays refl (λ c g z. cc z) (λ r n z. cc z))
follower_taken now e l (messages.Append x u c) m fair p role =
    either (FollowerTook e l m (messages.Append x u c)) ((x == m.promise) || false) (after_append m.role u c m) (silent m)
    (λ t. subst (λ (r : MemberRole). FollowerTook e l m (messages.Append x u c) (after_append r u c m)) (sym role)
    (either (FollowerTook e l m (messages.Append x u c)) (goes_on m.promise u c m.log) (silent (record m { job = Some (Write c) })) (silent m)
    (λ y. Has_job (Write c) refl)
    (λ n. Stays refl (λ d g z. (let ue : u ≡ tail_of m.log = cc z in let ce : c ≡ d = cc z in clash (goes_on m.promise u c m.log) (rw (p, ue, ce) g) n)) (λ r n z. cc z))))
    (λ f. Stays refl (λ d g z. (let xe : x ≡ e = cc z in clash ((x == m.promise) || false) (heard_test x m.promise true refl (xe ∙ sym p)) f)) (λ r n z. cc z))

-- ---- the opened leader

pub data LeaderTook (e : ℕ) (m : MemberState) (d : Leading) (msg : Message) (t : Took) : Type 0 where
  Quiet : t.state ≡ m → ((k : ℕ) (u : Tail) → is_another m.members m.number k ≡ true → msg ≡ messages.Ask e k u → ⊥) → LeaderTook e m d msg t
  Answers : (k : ℕ) (u : Tail) → msg ≡ messages.Ask e k u → is_another m.members m.number k ≡ true → t ≡ ask_of_leader d k u m → LeaderTook e m d msg t

leader_not : (r : MemberRole) (d : Leading) → r ≡ Leader d → is_stopped r ≡ true → ⊥
leader_not r d e s = (let z : is_stopped (Leader d) ≡ true = subst (λ (x : MemberRole). is_stopped x ≡ true) e s in cc z)

pub leader_taken : (now e : ℕ) (msg : Message) (m : MemberState) (d : Leading) → FairToLeader e msg → m.promise ≡ e → m.role ≡ Leader d → d.opened ≡ true → LeaderTook e m d msg (taken now msg m)
leader_taken now e (messages.Stop x) m d fair p role opened =
    either (LeaderTook e m d (messages.Stop x)) ((x == m.promise) || nat_lt m.promise x) (heard now (messages.Stop x) m) (silent m)
    (λ t. stop_state (LeaderTook e m d (messages.Stop x)) e x m fair p (λ y same. Quiet same (λ k u o z. cc z)))
    (λ f. Quiet refl (λ k u o z. cc z))
leader_taken now e (messages.Stopped x from t) m d fair p role opened =
    either (LeaderTook e m d (messages.Stopped x from t)) (is_another m.members m.number from && ((x == m.promise) || false)) (silent m) (silent m)
    (λ t. Quiet refl (λ k u o z. cc z)) (λ f. Quiet refl (λ k u o z. cc z))
leader_taken now e (messages.Open x) m d fair p role opened =
    either (LeaderTook e m d (messages.Open x)) ((x == m.promise) || false) (after_open now m) (silent m)
    (λ t. either (LeaderTook e m d (messages.Open x)) (is_stopped m.role && can_open m.promise m.log)
    (silent (record m { role = Leader (new_leading m.members); job = Some (Write (opening_chunk m.promise (stamp_at now) m.log)) })) (silent m)
    (λ y. absurd (leader_not m.role d role (both_are (is_stopped m.role) (can_open m.promise m.log) y).0))
    (λ n. Quiet refl (λ k u o z. cc z)))
    (λ f. Quiet refl (λ k u o z. cc z))
leader_taken now e (messages.Follow x f) m d fair p role opened =
    either (LeaderTook e m d (messages.Follow x f)) (is_another m.members m.number f && ((x == m.promise) || false)) (after_follow f m) (silent m)
    (λ t. absurd (fair (own x m.promise (both_are (is_another m.members m.number f) ((x == m.promise) || false) t).1 ∙ p)))
    (λ n. Quiet refl (λ k u o z. cc z))
leader_taken now e (messages.Shape x runs) m d fair p role opened =
    either (LeaderTook e m d (messages.Shape x runs)) ((x == m.promise) || false) (after_shape m.role runs m) (silent m)
    (λ t. subst (λ (r : MemberRole). LeaderTook e m d (messages.Shape x runs) (after_shape r runs m)) (sym role) (Quiet refl (λ k u o z. cc z))) (λ f. Quiet refl (λ k u o z. cc z))
leader_taken now e (messages.Ask x from u) m d fair p role opened =
    either (LeaderTook e m d (messages.Ask x from u)) (is_another m.members m.number from && ((x == m.promise) || false)) (after_ask m.role from u m) (silent m)
    (λ t. let b = both_are (is_another m.members m.number from) ((x == m.promise) || false) t in
    let same : x ≡ e = own x m.promise b.1 ∙ p in
    Answers from u (ap (λ (n : ℕ). messages.Ask n from u) same) b.0
    (ap (λ (r : MemberRole). after_ask r from u m) role ∙ ap (λ (y : Bool). cond y (ask_of_leader d from u m) (silent m)) opened))
    (λ f. Quiet refl (λ k v o z. (let xe : x ≡ e = cc z in let fk : from ≡ k = cc z in
    clash (is_another m.members m.number from && ((x == m.promise) || false)) (heard_test x m.promise (is_another m.members m.number from) (subst (λ (i : ℕ). is_another m.members m.number i ≡ true) (sym fk) o) (xe ∙ sym p)) f)))
leader_taken now e (messages.Append x u c) m d fair p role opened =
    either (LeaderTook e m d (messages.Append x u c)) ((x == m.promise) || false) (after_append m.role u c m) (silent m)
    (λ t. subst (λ (r : MemberRole). LeaderTook e m d (messages.Append x u c) (after_append r u c m)) (sym role) (Quiet refl (λ k v o z. cc z))) (λ f. Quiet refl (λ k v o z. cc z))

-- ---- a leader that is to open

pub data OpenerTook (e : ℕ) (m : MemberState) (msg : Message) (t : Took) : Type 0 where
  Waits_on : t.state ≡ m → (msg ≡ messages.Open e → ⊥) → OpenerTook e m msg t
  Opens : (d : Leading) → t.state.role ≡ Leader d → t.state.promise ≡ m.promise → can_open e m.log ≡ true → OpenerTook e m msg t
  Cannot : t.state ≡ m → can_open e m.log ≡ false → OpenerTook e m msg t

pub opener_taken : (now e : ℕ) (msg : Message) (m : MemberState) → FairToLeader e msg → m.promise ≡ e → m.role ≡ Stopped → OpenerTook e m msg (taken now msg m)
opener_taken now e (messages.Stop x) m fair p role =
    either (OpenerTook e m (messages.Stop x)) ((x == m.promise) || nat_lt m.promise x) (heard now (messages.Stop x) m) (silent m)
    (λ t. stop_state (OpenerTook e m (messages.Stop x)) e x m fair p (λ y same. Waits_on same (λ z. cc z)))
    (λ f. Waits_on refl (λ z. cc z))
opener_taken now e (messages.Stopped x from t) m fair p role =
    either (OpenerTook e m (messages.Stopped x from t)) (is_another m.members m.number from && ((x == m.promise) || false)) (silent m) (silent m)
    (λ t. Waits_on refl (λ z. cc z)) (λ f. Waits_on refl (λ z. cc z))
opener_taken now e (messages.Open x) m fair p role =
    either (OpenerTook e m (messages.Open x)) ((x == m.promise) || false) (after_open now m) (silent m)
    (λ t. either (OpenerTook e m (messages.Open x)) (is_stopped m.role && can_open m.promise m.log)
    (silent (record m { role = Leader (new_leading m.members); job = Some (Write (opening_chunk m.promise (stamp_at now) m.log)) })) (silent m)
    (λ y. Opens (new_leading m.members) refl refl (subst (λ (n : ℕ). can_open n m.log ≡ true) p (both_are (is_stopped m.role) (can_open m.promise m.log) y).1))
    (λ n. Cannot refl (subst (λ (n : ℕ). can_open n m.log ≡ false) p (subst (λ (r : MemberRole). (is_stopped r && can_open m.promise m.log) ≡ false) role n))))
    (λ f. Waits_on refl (λ z. (let xe : x ≡ e = cc z in clash ((x == m.promise) || false) (heard_test x m.promise true refl (xe ∙ sym p)) f)))
opener_taken now e (messages.Follow x f) m fair p role =
    either (OpenerTook e m (messages.Follow x f)) (is_another m.members m.number f && ((x == m.promise) || false)) (after_follow f m) (silent m)
    (λ t. absurd (fair (own x m.promise (both_are (is_another m.members m.number f) ((x == m.promise) || false) t).1 ∙ p)))
    (λ n. Waits_on refl (λ z. cc z))
opener_taken now e (messages.Shape x runs) m fair p role =
    either (OpenerTook e m (messages.Shape x runs)) ((x == m.promise) || false) (after_shape m.role runs m) (silent m)
    (λ t. subst (λ (r : MemberRole). OpenerTook e m (messages.Shape x runs) (after_shape r runs m)) (sym role) (Waits_on refl (λ z. cc z))) (λ f. Waits_on refl (λ z. cc z))
opener_taken now e (messages.Ask x from u) m fair p role =
    either (OpenerTook e m (messages.Ask x from u)) (is_another m.members m.number from && ((x == m.promise) || false)) (after_ask m.role from u m) (silent m)
    (λ t. subst (λ (r : MemberRole). OpenerTook e m (messages.Ask x from u) (after_ask r from u m)) (sym role) (Waits_on refl (λ z. cc z))) (λ f. Waits_on refl (λ z. cc z))
opener_taken now e (messages.Append x u c) m fair p role =
    either (OpenerTook e m (messages.Append x u c)) ((x == m.promise) || false) (after_append m.role u c m) (silent m)
    (λ t. subst (λ (r : MemberRole). OpenerTook e m (messages.Append x u c) (after_append r u c m)) (sym role) (Waits_on refl (λ z. cc z))) (λ f. Waits_on refl (λ z. cc z))

-- no message changes a promise
pub promise_stays : (now : ℕ) (msg : Message) (m : MemberState) → (taken now msg m).state.promise ≡ m.promise
promise_stays now msg m =
    either P (names_another m.members m.number msg && ((epoch_of msg == m.promise) || is_later_stop m.promise msg)) (heard now msg m) (silent m) (λ t. go msg) (λ f. refl)
  where
    P : Took → Type 0
    P t = t.state.promise ≡ m.promise

    shape : (runs : List Run) (r : MemberRole) → (after_shape r runs m).state.promise ≡ m.promise
    shape runs Stopped = refl
    shape runs (Leader d) = refl
    shape runs (Follower l) = either (λ (t : Took). t.state.promise ≡ m.promise) (ends_in m.promise m.log) (silent m) (cond (nat_lt (kept_end runs m.log) (end_of m.log)) (silent (record m { job = Some (Cut (kept_end runs m.log)) })) (asks l m))
        (λ t. refl) (λ f. either (λ (t : Took). t.state.promise ≡ m.promise) (nat_lt (kept_end runs m.log) (end_of m.log)) (silent (record m { job = Some (Cut (kept_end runs m.log)) })) (asks l m) (λ t. refl) (λ f. refl))

    append : (u : Tail) (c : Chunk) (r : MemberRole) → (after_append r u c m).state.promise ≡ m.promise
    append u c Stopped = refl
    append u c (Leader d) = refl
    append u c (Follower l) = either (λ (t : Took). t.state.promise ≡ m.promise) (goes_on m.promise u c m.log) (silent (record m { job = Some (Write c) })) (silent m) (λ t. refl) (λ f. refl)

    ask : (k : ℕ) (u : Tail) (r : MemberRole) → (after_ask r k u m).state.promise ≡ m.promise
    ask k u Stopped = refl
    ask k u (Follower l) = refl
    ask k u (Leader d) = either (λ (t : Took). t.state.promise ≡ m.promise) d.opened (ask_of_leader d k u m) (silent m) (λ t. asked k u d) (λ f. refl)
      where
        sent : (o : Option Chunk) (k : ℕ) (u : Tail) (n : MemberState) → (send_next o k u n).state.promise ≡ n.promise
        sent None k u n = refl
        sent (Some c) k u n = refl

        asked : (k : ℕ) (u : Tail) (d : Leading) → (ask_of_leader d k u m).state.promise ≡ m.promise
        asked k u d = either (λ (t : Took). t.state.promise ≡ m.promise) (contains (runs_of m.log) u) (send_next (chunk_from u.end m.log) k u (record m { role = Leader (acknowledge m.promise k u d) })) (says k (messages.Shape m.promise d.kept) m)
            (λ t. sent (chunk_from u.end m.log) k u (record m { role = Leader (acknowledge m.promise k u d) })) (λ f. refl)

    go : (msg : Message) → (heard now msg m).state.promise ≡ m.promise
    go (messages.Stop x) = either (λ (t : Took). t.state.promise ≡ m.promise) (nat_lt m.promise x) (silent (record m { role = Stopped; job = Some (Promise x) })) (cond ((x == m.promise) && is_stopped m.role) (says_stopped m) (silent m))
        (λ t. refl) (λ f. either (λ (t : Took). t.state.promise ≡ m.promise) ((x == m.promise) && is_stopped m.role) (says_stopped m) (silent m) (λ t. refl) (λ f. refl))
    go (messages.Stopped x from t) = refl
    go (messages.Open x) = either (λ (t : Took). t.state.promise ≡ m.promise) (is_stopped m.role && can_open m.promise m.log)
        (silent (record m { role = Leader (new_leading m.members); job = Some (Write (opening_chunk m.promise (stamp_at now) m.log)) })) (silent m) (λ t. refl) (λ f. refl)
    go (messages.Follow x f) = either (λ (t : Took). t.state.promise ≡ m.promise) (is_stopped m.role) (asks f (record m { role = Follower f })) (silent m) (λ t. refl) (λ f. refl)
    go (messages.Shape x runs) = shape runs m.role
    go (messages.Ask x from u) = ask from u m.role
    go (messages.Append x u c) = append u c m.role
