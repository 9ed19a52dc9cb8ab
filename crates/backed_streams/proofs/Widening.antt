-- What a member or the coordinator does without a disk: what the disk may have, it may have behind that too.
use Rattle.std.proofs.Common.{◌≡◌, inl, inr, ℕ, ◌+◌, ◌≤◌, Bool, true, false, cond, ◌&&◌, ◌||◌, ◌==◌, not, List, [], ◌∷◌, ◌++◌, nat_lt, Option, Some, None, refl, sym, subst, ◌∙◌, arith}
use Rattle.chunk_format.specs.declared.chunk.Chunk.{Chunk}
use Rattle.chunk_format.specs.Logs.{end_of, opening_chunk}
use Rattle.chunk_format.proofs.BeginLaws.{goes_same}
use Rattle.epoch_coordinator.specs.declared.tail.Run.{Run}
use Rattle.epoch_coordinator.specs.declared.tail.Tail.{Tail}
use Rattle.epoch_coordinator.specs.declared.message.Job.{Job}
use Rattle.epoch_coordinator.specs.declared.message.Job.TheVariants.{Write, Cut, Promise}
use Rattle.epoch_coordinator.specs.declared.message.Message.{Message}
use Rattle.epoch_coordinator.specs.declared.message.Message.TheVariants as messages
use Rattle.epoch_coordinator.specs.declared.coordinator.Phase.{Phase}
use Rattle.epoch_coordinator.specs.declared.coordinator.Phase.TheVariants.{Idle, Electing, Running}
use Rattle.epoch_coordinator.specs.declared.coordinator.Elected.TheVariants as elected
use Rattle.epoch_coordinator.specs.declared.coordinator.StoppedDid.TheVariants as did
use Rattle.epoch_coordinator.specs.Tails.{runs_of, contains}
use Rattle.epoch_coordinator.specs.Members.{Leading, MemberRole, MemberState, Stopped, Follower, Leader, is_stopped}
use Rattle.epoch_coordinator.specs.MemberSteps.{Took, silent, says, says_stopped, asks, names_another, epoch_of, is_later_stop, is_another, is_majority, after_stop, after_open, can_open, new_leading, stamp_at, after_follow, chunk_from, acknowledge, send_next, ask_of_leader, after_ask, ends_in, kept_end, after_shape, goes_on, after_append, heard, taken, offered, offered_by, queued_by}
use Rattle.epoch_coordinator.specs.Coordinators.{CoordinatorState, Elects, Hears, hears, counted, repliers, leader_of, electors_of, tell, told_in_epoch, told_before, stopped_by, stopped, elect_by, elect}
use Rattle.replication_laws.specs.Cluster.{HoldsBy, Holds, MayPromise}
use Rattle.replication_laws.specs.Events.{all_offered, MayBegin}

-- ---- members

-- another state of a member, with the same log and promise, whose disk may have all that it might have before
pub record Widens (m n : MemberState) : Type 0 where
  pub number_is : n.number ≡ m.number
  pub log_is : n.log ≡ m.log
  pub promise_is : n.promise ≡ m.promise
  pub held : (h : List Chunk) → Holds m h → Holds n h
  pub may : (promise : ℕ) → MayPromise m promise → MayPromise n promise

widens_same : (m : MemberState) → Widens m m
widens_same m = record { number_is = refl; log_is = refl; promise_is = refl; held = λ h x. x; may = λ p x. x }

widens_then : (a b c : MemberState) → Widens a b → Widens b c → Widens a c
widens_then a b c x y = record {
  number_is = y.number_is ∙ x.number_is;
  log_is = y.log_is ∙ x.log_is;
  promise_is = y.promise_is ∙ x.promise_is;
  held = λ h z. y.held h (x.held h z);
  may = λ p z. y.may p (x.may p z);
}

-- only the role changes
pub widens_role : (m : MemberState) (r : MemberRole) → Widens m (record m { role = r })
widens_role m r = record { number_is = refl; log_is = refl; promise_is = refl; held = λ h x. x; may = λ p x. x }

-- the same log and promise, with a job that has done nothing yet
record Rests (m n : MemberState) : Type 0 where
  number_is : n.number ≡ m.number
  log_is : n.log ≡ m.log
  promise_is : n.promise ≡ m.promise
  own : Holds n n.log

own_log : (m : MemberState) → m.job ≡ None → Holds m m.log
own_log m none = subst (λ (j : Option Job). HoldsBy j m.log m.log) (sym none) refl

rests_same : (m : MemberState) → m.job ≡ None → Rests m m
rests_same m none = record { number_is = refl; log_is = refl; promise_is = refl; own = own_log m none }

rests_role : (m : MemberState) (r : MemberRole) → m.job ≡ None → Rests m (record m { role = r })
rests_role m r none = record { number_is = refl; log_is = refl; promise_is = refl; own = own_log m none }

rests_widens : (m n : MemberState) → m.job ≡ None → Rests m n → Widens m n
rests_widens m n none r = record { number_is = r.number_is; log_is = r.log_is; promise_is = r.promise_is; held = held; may = may }
  where
    held : (h : List Chunk) → Holds m h → Holds n h
    held h x =
        let is : h ≡ m.log = subst (λ (j : Option Job). HoldsBy j m.log h) none x in
        subst (λ (l : List Chunk). Holds n l) (r.log_is ∙ sym is) r.own

    may : (p : ℕ) → MayPromise m p → MayPromise n p
    may p (inl e) = inl (e ∙ sym r.promise_is)
    may p (inr e) = absurd (cc (sym none ∙ e))

either : (m : MemberState) (b : Bool) (x y : Took) → (b ≡ true → Rests m x.state) → Rests m y.state → Rests m (cond {A = Took} b x y).state
either m true x y h k = h refl
either m false x y h k = k

next_rests : (c : Option Chunk) (from : ℕ) (tail : Tail) (m n : MemberState) → Rests m n → Rests m (send_next c from tail n).state
next_rests None from tail m n r = r
next_rests (Some c) from tail m n r = r

less : (a b : ℕ) → nat_lt a b ≡ true → a ≤ b
less a b h = grind arith

shape_rests : (r : MemberRole) (runs : List Run) (m : MemberState) → m.job ≡ None → Rests m (after_shape r runs m).state
shape_rests Stopped runs m none = rests_same m none
shape_rests (Leader l) runs m none = rests_same m none
shape_rests (Follower leader) runs m none =
    let cut = silent (record m { job = Some (Cut (kept_end runs m.log)) }) in
    let shorter = nat_lt (kept_end runs m.log) (end_of m.log) in
    either m (ends_in m.promise m.log) (silent m) (cond {A = Took} shorter cut (asks leader m)) (λ _. rests_same m none)
    (either m shorter cut (asks leader m) (λ lt. record { number_is = refl; log_is = refl; promise_is = refl; own = (goes_same m.log, less (kept_end runs m.log) (end_of m.log) lt) }) (rests_same m none))

ask_rests : (r : MemberRole) (from : ℕ) (tail : Tail) (m : MemberState) → m.job ≡ None → Rests m (after_ask r from tail m).state
ask_rests Stopped from tail m none = rests_same m none
ask_rests (Follower leader) from tail m none = rests_same m none
ask_rests (Leader l) from tail m none =
    let heard_it : MemberState = record m { role = Leader (acknowledge m.promise from tail l) } in
    let next = send_next (chunk_from tail.end m.log) from tail heard_it in
    let shape = says from (messages.Shape m.promise l.kept) m in
    either m l.opened (ask_of_leader l from tail m) (silent m)
    (λ _. either m (contains (runs_of m.log) tail) next shape (λ _. next_rests (chunk_from tail.end m.log) from tail m heard_it (rests_role m (Leader (acknowledge m.promise from tail l)) none)) (rests_same m none))
    (rests_same m none)

append_rests : (r : MemberRole) (previous : Tail) (c : Chunk) (m : MemberState) → m.job ≡ None → Rests m (after_append r previous c m).state
append_rests Stopped previous c m none = rests_same m none
append_rests (Leader l) previous c m none = rests_same m none
append_rests (Follower leader) previous c m none = either m (goes_on m.promise previous c m.log) (silent (record m { job = Some (Write c) })) (silent m) (λ _. record { number_is = refl; log_is = refl; promise_is = refl; own = inl refl }) (rests_same m none)

stop_rests : (epoch : ℕ) (m : MemberState) → m.job ≡ None → Rests m (after_stop epoch m).state
stop_rests epoch m none =
    let again = (epoch == m.promise) && is_stopped m.role in
    let stops = silent (record m { role = Stopped; job = Some (Promise epoch) }) in
    either m (nat_lt m.promise epoch) stops (cond {A = Took} again (says_stopped m) (silent m)) (λ _. record { number_is = refl; log_is = refl; promise_is = refl; own = refl })
    (either m again (says_stopped m) (silent m) (λ _. rests_same m none) (rests_same m none))

open_rests : (now : ℕ) (m : MemberState) → m.job ≡ None → Rests m (after_open now m).state
open_rests now m none =
    either m (is_stopped m.role && can_open m.promise m.log) (silent (record m { role = Leader (new_leading m.members); job = Some (Write (opening_chunk m.promise (stamp_at now) m.log)) })) (silent m)
    (λ _. record { number_is = refl; log_is = refl; promise_is = refl; own = inl refl }) (rests_same m none)

follow_rests : (leader : ℕ) (m : MemberState) → m.job ≡ None → Rests m (after_follow leader m).state
follow_rests leader m none = either m (is_stopped m.role) (asks leader (record m { role = Follower leader })) (silent m) (λ _. rests_role m (Follower leader) none) (rests_same m none)

heard_rests : (now : ℕ) (message : Message) (m : MemberState) → m.job ≡ None → Rests m (heard now message m).state
heard_rests now (messages.Stop epoch) m none = stop_rests epoch m none
heard_rests now (messages.Stopped epoch from tail) m none = rests_same m none
heard_rests now (messages.Open epoch) m none = open_rests now m none
heard_rests now (messages.Follow epoch leader) m none = follow_rests leader m none
heard_rests now (messages.Shape epoch runs) m none = shape_rests m.role runs m none
heard_rests now (messages.Ask epoch from tail) m none = ask_rests m.role from tail m none
heard_rests now (messages.Append epoch previous chunk) m none = append_rests m.role previous chunk m none

pub taken_widens : (now : ℕ) (message : Message) (m : MemberState) → m.job ≡ None → Widens m (taken now message m).state
taken_widens now message m none =
    rests_widens m (taken now message m).state none
    (either m (names_another m.members m.number message && ((epoch_of message == m.promise) || is_later_stop m.promise message)) (heard now message m) (silent m) (λ _. heard_rests now message m none) (rests_same m none))

-- ---- offers

queued_widens : (j : Option Job) (c : Chunk) (l : Leading) (m : MemberState) → m.job ≡ j → Widens m (queued_by j c l m)
queued_widens None c l m none = rests_widens m (record m { job = Some (Write c) }) none (record { number_is = refl; log_is = refl; promise_is = refl; own = inl refl })
queued_widens (Some job) c l m is = widens_role m (Leader (record l { queue = l.queue ++ c ∷ [] }))

offered_widens : (r : MemberRole) (c : Chunk) (m : MemberState) → Widens m (offered_by r c m)
offered_widens Stopped c m = widens_same m
offered_widens (Follower leader) c m = widens_same m
offered_widens (Leader l) c m = queued_widens m.job c l m refl

pub all_widen : (chunks : List Chunk) (m : MemberState) → Widens m (all_offered chunks m)
all_widen [] m = widens_same m
all_widen (c ∷ chunks) m = widens_then m (offered c m) (all_offered chunks (offered c m)) (offered_widens m.role c m) (all_widen chunks (offered c m))

-- ---- the coordinator

-- the epochs that its disk may have, it may have behind that too
abbrev pub WidensEpoch : CoordinatorState → CoordinatorState → Type 0
WidensEpoch c d = (epoch : ℕ) → MayBegin c epoch → MayBegin d epoch

asked_widens : (c : CoordinatorState) (next : ℕ) → c.job ≡ None → WidensEpoch c (record c { job = Some next })
asked_widens c next none epoch (inl is) = inl is
asked_widens c next none epoch (inr is) = absurd (cc (sym none ∙ is))

elected_widens : (b : Bool) (c : CoordinatorState) (x y : Elects) → WidensEpoch c x.state → WidensEpoch c y.state → WidensEpoch c (cond {A = Elects} b x y).state
elected_widens true c x y h k = h
elected_widens false c x y h k = k

pub elect_widens : (c : CoordinatorState) → WidensEpoch c (elect c).state
elect_widens c = by c.job refl
  where
    by : (j : Option ℕ) → c.job ≡ j → WidensEpoch c (elect_by j c).state
    by (Some next) is = λ epoch b. b
    by None none =
        elected_widens (c.epoch == 18446744073709551615) c (record { state = c; answer = elected.Last c.epoch }) (record { state = record c { job = Some (c.epoch + 1) }; answer = elected.Asked (c.epoch + 1) })
        (λ epoch b. b) (asked_widens c (c.epoch + 1) none)

heard_widens : (b : Bool) (c : CoordinatorState) (x y : Hears) → WidensEpoch c x.state → WidensEpoch c y.state → WidensEpoch c (cond {A = Hears} b x y).state
heard_widens true c x y h k = h
heard_widens false c x y h k = k

counted_widens : (c d : CoordinatorState) → WidensEpoch c d → WidensEpoch c (counted d).state
counted_widens c d h = heard_widens (is_majority d.members (repliers d.told)) c (hears (record d { phase = Running (leader_of d.told) }) (did.Opened d.epoch (leader_of d.told) (electors_of d.told))) (hears d did.Nothing) h h

in_epoch_widens : (p : Phase) (from : ℕ) (tail : Tail) (c : CoordinatorState) → WidensEpoch c (told_in_epoch p from tail c).state
in_epoch_widens Idle from tail c = λ epoch b. b
in_epoch_widens Electing from tail c = counted_widens c (record c { told = tell from tail c.told }) (λ epoch b. b)
in_epoch_widens (Running leader) from tail c = λ epoch b. b

before_widens : (p : Phase) (from : ℕ) (c : CoordinatorState) → WidensEpoch c (told_before p from c).state
before_widens Idle from c = λ epoch b. b
before_widens Electing from c = λ epoch b. b
before_widens (Running leader) from c = λ epoch b. b

pub stopped_widens : (epoch from : ℕ) (tail : Tail) (c : CoordinatorState) → WidensEpoch c (stopped epoch from tail c).state
stopped_widens epoch from tail c = by c.job
  where
    by : (j : Option ℕ) → WidensEpoch c (stopped_by j epoch from tail c).state
    by (Some next) = λ e b. b
    by None =
        let later = cond {A = Hears} (epoch == c.epoch) (told_in_epoch c.phase from tail c) (hears c did.Nothing) in
        let known = cond {A = Hears} (nat_lt epoch c.epoch) (told_before c.phase from c) later in
        heard_widens (not (is_another c.members 0 from)) c (hears c did.Nothing) known (λ e b. b)
        (heard_widens (nat_lt epoch c.epoch) c (told_before c.phase from c) later (before_widens c.phase from c)
        (heard_widens (epoch == c.epoch) c (told_in_epoch c.phase from tail c) (hears c did.Nothing) (in_epoch_widens c.phase from tail c) (λ e b. b)))
