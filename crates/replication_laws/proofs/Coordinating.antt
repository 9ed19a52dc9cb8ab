-- What the coordinator does leaves a sound state sound.
use Rattle.std.proofs.Common.{◌≡◌, ℕ, ◌+◌, ◌-◌, ◌*◌, ◌<◌, ◌≤◌, ◌⊎◌, ◌≢◌, List, [], ◌∷◌, ◌++◌, length, map, refl, sym, ap, ◌∙◌, subst, inl, inr, arith, Option, Some, None, Bool, true, false, cond, not, zero, suc}
use Rattle.std.specs.Prelude.{◌==◌, ◌&&◌, nat_lt, if◌then◌else◌, slice_set, slice_index_or}
use Rattle.std.specs.List.{AllByRecursion}
use Rattle.std.proofs.lemmas.Bool.{cases_lt}
use Rattle.std.proofs.lemmas.List.{append-nil, length-set, length-map}
use Rattle.chunk_format.specs.declared.chunk.Chunk.{Chunk}
use Rattle.chunk_format.specs.Logs.{GoesOn}
use Rattle.chunk_format.proofs.BeginLaws.{goes_same}
use Rattle.epoch_coordinator.specs.declared.tail.Tail.{Tail}
use Rattle.epoch_coordinator.specs.declared.message.Message.{Message}
use Rattle.epoch_coordinator.specs.declared.message.Message.TheVariants as messages
use Rattle.epoch_coordinator.specs.declared.message.Sent.{Sent}
use Rattle.epoch_coordinator.specs.declared.coordinator.Phase.{Phase}
use Rattle.epoch_coordinator.specs.declared.coordinator.Phase.TheVariants.{Idle, Electing, Running}
use Rattle.epoch_coordinator.specs.declared.coordinator.StoppedDid.TheVariants as did
use Rattle.epoch_coordinator.specs.Tails.{tail_of, is_behind, runs_of}
use Rattle.epoch_coordinator.specs.Members.{sequence_of}
use Rattle.epoch_coordinator.specs.declared.coordinator.Elected.TheVariants as elected
use Rattle.epoch_coordinator.specs.MemberSteps.{mail, is_another, is_majority, all_members}
use Rattle.epoch_coordinator.specs.Coordinators.{CoordinatorState, Elects, Hears, hears, untold, elect, elect_by, begun, to_each, stop_all, first_of, tell, is_told, repliers, leader_of, electors_of, counted, open_or_follow, told_in_epoch, told_before, stopped_by, stopped, others_from, opening, opened_with, untold_from, nudged_in, Told, IsLeader}
use Rattle.epoch_coordinator.specs.Coordinators as coordinators
use Rattle.epoch_coordinator.proofs.Leaders.{is_leader}
use Rattle.replication_laws.specs.Majorities.{flags_of}
use Rattle.replication_laws.specs.Cluster.{Seat, Letter, Reign, ClusterState, seat_in, member, IsMember, durable, reign, last_number, numbered, send}
use Rattle.replication_laws.specs.Events.{heard_by, to_coordinator, begins, reopens, nudges_by, MayBegin}
use Rattle.replication_laws.specs.Soundness.{Tree, LeadsEpoch, HasReign, IsCalm, ReplyHolds, MessageHolds, LetterHolds, ElectingHolds, PhaseHolds, CoordinatorHolds, Sound}
use Rattle.replication_laws.proofs.Meetings.{some_told, told_votes, flags_are, told_by, is_flagged}
use Rattle.replication_laws.proofs.Frame.{Advance, reply_on, message_on, elects_on, leads_on}
use Rattle.replication_laws.proofs.Carry.{phase_on}
use Rattle.replication_laws.proofs.Sounds.{all_weaker, all_join, all_numbered, After, SentHolds}
use Rattle.replication_laws.proofs.Walks.{runs_to, runs_from}
use Rattle.replication_laws.proofs.Takings.{eq_is, eq_made}
use Rattle.replication_laws.proofs.Elections.{IsAtMost, Chooses, reign_made, elect_reign}
use Rattle.replication_laws.proofs.Commits.{rest, rest_advance, rest_sound, rest_stays}
use Rattle.replication_laws.proofs.Moves.{MoveOf, Stays, Next}

-- ---- steps that change no member

pub alike_next : (o : ℕ) (w w' : ClusterState) (g g' : Tree) → After g o w g' w' → w'.seats ≡ w.seats → w'.committed ≡ w.committed → Next o w w' g
alike_next o w w' g g' a seats list = record {
  tree = g';
  after = a;
  moves = λ i. Stays (ap (λ (ss : List Seat). sequence_of (seat_in ss i).state) seats);
  grows = subst (GoesOn w.committed) (sym list) (goes_same w.committed);
}

-- nothing happens
pub same_next : (g : Tree) (w : ClusterState) (o : ℕ) → Sound g o w → Next o w w g
same_next g w o s = alike_next o w w g g (record { sound = s; kept = λ l h. h; sources = λ e. inl (goes_same (g.canon e)); reigns = λ e r is. is }) refl refl

-- nothing is sent
pub send_none : (w : ClusterState) → send w [] ≡ w
send_none w =
    ap (λ (ms : List Letter). record w { mail = ms; last = w.last + 0 }) (append-nil w.mail)
    ∙ ap (λ (n : ℕ). record w { last = n }) (omega arith)

-- messages that hold are sent
pub tells : (g : Tree) (w : ClusterState) (o : ℕ) (ms : List Sent) → Sound g o w → AllByRecursion (SentHolds g w) ms → Next o w (send w ms) g
tells g w o ms s h =
    let w' = send w ms in
    let a = rest_advance g w w.coordinator_up w.coordinator (w.mail ++ numbered w.last ms) (w.last + length (numbered w.last ms)) w.committed (omega arith) in
    alike_next o w w' g g
    (rest_stays g w o (w.mail ++ numbered w.last ms) (w.last + length (numbered w.last ms)) w.committed s s.committed
    (λ old. all_join (LetterHolds g w') w.mail (numbered w.last ms) old
    (all_numbered (SentHolds g w') w.last ms (all_weaker (SentHolds g w) (SentHolds g w')
    (λ x y. message_on g g w w' s.tree.logs a (λ e j n. elects_on g g w w' e j n s.tree.logs a refl) x.to x.message y) ms h))))
    refl refl

abbrev changed : ClusterState → Bool → CoordinatorState → List Sent → ClusterState
changed w up co ms = send (record w { coordinator_up = up; coordinator = co }) ms

-- the coordinator changes, and sends
coordinator_after : (g : Tree) (w : ClusterState) (o : ℕ) (up : Bool) (co : CoordinatorState) (ms : List Sent) → Sound g o w → durable w ≤ co.epoch
    → (Advance g w g (changed w up co ms) → CoordinatorHolds o (changed w up co ms) co)
    → (Advance g w g (changed w up co ms) → AllByRecursion (SentHolds g (changed w up co ms)) ms)
    → After g o w g (changed w up co ms)
coordinator_after g w o up co ms s le holds sent =
    let list = w.mail ++ numbered w.last ms in
    let last = w.last + length (numbered w.last ms) in
    let w' = changed w up co ms in
    let a = rest_advance g w up co list last w.committed le in
    rest_sound g w o up co list last w.committed s le holds s.committed
    (λ old. all_join (LetterHolds g w') w.mail (numbered w.last ms) old (all_numbered (SentHolds g w') w.last ms (sent a)))

coordinator_next : (g : Tree) (w : ClusterState) (o : ℕ) (up : Bool) (co : CoordinatorState) (ms : List Sent) → After g o w g (changed w up co ms) → Next o w (changed w up co ms) g
coordinator_next g w o up co ms a = alike_next o w (changed w up co ms) g g a refl refl

-- ---- an election begins

pub untold_count : (n : ℕ) → length (untold n) ≡ n
untold_count zero = refl
untold_count (suc n) = ap suc (untold_count n)

untold_none : (first n k : ℕ) (t : Tail) → Told first (untold n) k t → ⊥
untold_none first zero k t h = h
untold_none first (suc n) k t (inl p) = (let z : None ≡ Some t = p.1 in absurd cc)
untold_none first (suc n) k t (inr q) = untold_none (first + 1) n k t q

-- the next epoch is to be made durable
pub elect_next : (g : Tree) (w : ClusterState) (o : ℕ) → Sound g o w → w.coordinator.job ≡ None → durable w < last_number → Next o w (record w { coordinator = (elect w.coordinator).state }) g
elect_next g w o s job lt = go w.coordinator.job job
  where
    c : CoordinatorState
    c = w.coordinator

    co : CoordinatorState
    co = record c { job = Some (c.epoch + 1) }

    w' : ClusterState
    w' = rest w w.coordinator_up co w.mail w.last w.committed

    next : Next o w w' g
    next =
        let a = rest_advance g w w.coordinator_up co w.mail w.last w.committed (omega arith) in
        let old = s.coordinator in
        alike_next o w w' g g
        (rest_sound g w o w.coordinator_up co w.mail w.last w.committed s (omega arith)
        (λ a. record {
          count = old.count;
          places = old.places;
          fits = old.fits;
          next = λ epoch is. (let same : c.epoch + 1 ≡ epoch = cc in (sym same, omega (arith, same, lt)));
          phase = phase_on g g w w' o a refl refl c.told c.phase old.phase;
        })
        s.committed (λ old. old)) refl refl

    asked : (b : Bool) → (c.epoch == 18446744073709551615) ≡ b
        → Next o w (record w { coordinator = (cond {A = Elects} b (record { state = c; answer = elected.Last c.epoch }) (record { state = co; answer = elected.Asked (c.epoch + 1) })).state }) g
    asked true e = absurd (let same = eq_is c.epoch 18446744073709551615 e in omega (arith, lt, same))
    asked false e = next

    go : (j : Option ℕ) → j ≡ None → Next o w (record w { coordinator = (elect_by j c).state }) g
    go None e = asked (c.epoch == 18446744073709551615) refl
    go (Some x) e = absurd cc

-- each member is told to stop
stops_hold : (g : Tree) (w : ClusterState) (e : ℕ) (ks : List ℕ) → e ≤ durable w → AllByRecursion (SentHolds g w) (to_each (messages.Stop e) ks)
stops_hold g w e [] h = tt
stops_hold g w e (k ∷ ks) h = (h, stops_hold g w e ks h)

none_or : (w : ClusterState) (e : ℕ) → (reign w e ≡ None) ⊎ HasReign w e
none_or w e = go (reign w e) refl
  where
    go : (x : Option Reign) → reign w e ≡ x → (reign w e ≡ None) ⊎ HasReign w e
    go None h = inl h
    go (Some r) h = inr (r, h)

-- the next epoch is durable
pub begins_next : (g : Tree) (w : ClusterState) (o : ℕ) → Sound g o w → (j : Option ℕ) → w.coordinator.job ≡ j → Next o w (begins j w) g
begins_next g w o s None job = same_next g w o s
begins_next g w o s (Some e) job =
    let c = w.coordinator in
    let co = begun e c in
    let ms = stop_all co in
    let w' = changed w w.coordinator_up co ms in
    let old = s.coordinator in
    let next = old.next e job in
    let le : durable w ≤ co.epoch = omega (arith, next.0) in
    coordinator_next g w o w.coordinator_up co ms
    (coordinator_after g w o w.coordinator_up co ms s le
    (λ a. record {
      count = old.count;
      places = untold_count c.members ∙ old.count;
      fits = next.1;
      next = λ epoch is. let z : None ≡ Some epoch = is in absurd cc;
      phase = record {
        new = elim (none_or w e) [ inl none ↦ none | inr x ↦ (let h = (s.each_reign e x.0 x.1).not_ahead in absurd (omega (arith, h, next.0))) ];
        replies = λ k t x. absurd (untold_none 1 c.members k t x);
        later = omega (arith, next.0, s.tree.not_ahead);
      };
    })
    (λ a. stops_hold g w' e (all_members c.members) (omega arith)))

-- ---- a reply is kept

-- what is told after one more reply was told before, or is that reply
told_after : (first i : ℕ) (told : List (Option Tail)) (tail : Tail) (k : ℕ) (t : Tail) → Told first (slice_set told i (first_of (slice_index_or told i None) tail)) k t → Told first told k t ⊎ ((k ≡ first + i) × (t ≡ tail))
told_after first i [] tail k t h = inl h
told_after first zero (None ∷ xs) tail k t (inl p) = inr (omega (arith, p.0), (let e : Some tail ≡ Some t = p.1 in let same : tail ≡ t = cc in sym same))
told_after first zero (None ∷ xs) tail k t (inr q) = inl (inr q)
told_after first zero (Some x ∷ xs) tail k t h = inl h
told_after first (suc i) (x ∷ xs) tail k t (inl p) = inl (inl p)
told_after first (suc i) (x ∷ xs) tail k t (inr q) = elim (told_after (first + 1) i xs tail k t q) [
  | inl y ↦ inl (inr y)
  | inr y ↦ inr (omega (arith, y.0), y.1)
]

tell_after : (from : ℕ) (told : List (Option Tail)) (tail : Tail) (k : ℕ) (t : Tail) → 0 < from → Told 1 (tell from tail told) k t → Told 1 told k t ⊎ ((k ≡ from) × (t ≡ tail))
tell_after from told tail k t some h = elim (told_after 1 (from - 1) told tail k t h) [ inl x ↦ inl x | inr y ↦ inr (omega (arith, y.0, some), y.1) ]

abbrev kept_reply : ℕ → Tail → CoordinatorState → CoordinatorState
kept_reply from tail c = record c { told = tell from tail c.told }

tell_count : (from : ℕ) (tail : Tail) (told : List (Option Tail)) → length (tell from tail told) ≡ length told
tell_count from tail told = length-set told (from - 1) (first_of (slice_index_or told (from - 1) None) tail)

-- the phase with one more reply
phase_told : (g : Tree) (w w' : ClusterState) (o from : ℕ) (tail : Tail) → Sound g o w → Advance g w g w' → w'.reigns ≡ w.reigns → durable w' ≡ durable w
    → IsMember w from → MessageHolds g w 0 (messages.Stopped (durable w) from tail)
    → (p : Phase) → PhaseHolds o w w.coordinator.told p → PhaseHolds o w' (tell from tail w.coordinator.told) p
phase_told g w w' o from tail s a same d lt h Idle p = tt
phase_told g w w' o from tail s a same d lt h (Running l) p = phase_on g g w w' o a same d w.coordinator.told (Running l) p
phase_told g w w' o from tail s a same d lt h Electing p = record {
  new = (phase_on g g w w' o a same d w.coordinator.told Electing p).new;
  replies = λ k t x. elim (tell_after from w.coordinator.told tail k t lt.0 x) [
    | inl y ↦ (phase_on g g w w' o a same d w.coordinator.told Electing p).replies k t y
    | inr y ↦ subst (λ (q : ℕ × Tail). IsMember w' q.0 × (durable w' ≤ (member w' q.0).promise) × ReplyHolds w' (durable w') q.0 q.1) (sym (pair k from t tail y.0 y.1))
        ((lt.0, omega (arith, lt.1, a.count)), rw d (omega (arith, h.0, a.promises from)), rw d (reply_on g g w w' (durable w) from tail a h.1))
  ];
  later = (phase_on g g w w' o a same d w.coordinator.told Electing p).later;
}
  where
    pair : (k f : ℕ) (t u : Tail) → k ≡ f → t ≡ u → ◌≡◌ {A = ℕ × Tail} (k, t) (f, u)
    pair k f t u e q = ap {B = ℕ × Tail} (λ (x : ℕ). (x, t)) e ∙ ap {B = ℕ × Tail} (λ (y : Tail). (f, y)) q

kept_holds : (g : Tree) (w w' : ClusterState) (o from : ℕ) (tail : Tail) → Sound g o w → Advance g w g w' → w'.reigns ≡ w.reigns → durable w' ≡ durable w
    → IsMember w from → MessageHolds g w 0 (messages.Stopped (durable w) from tail) → CoordinatorHolds o w' (kept_reply from tail w.coordinator)
kept_holds g w w' o from tail s a same d lt h =
    let old = s.coordinator in
    record {
      count = old.count ∙ sym a.count;
      places = tell_count from tail w.coordinator.told ∙ (old.places ∙ sym a.count);
      fits = old.fits;
      next = old.next;
      phase = phase_told g w w' o from tail s a same d lt h w.coordinator.phase old.phase;
    }

-- it sends at most one message
replies_next : (g : Tree) (w : ClusterState) (o from : ℕ) (tail : Tail) (ms : List Sent) → Sound g o w → IsMember w from → MessageHolds g w 0 (messages.Stopped (durable w) from tail)
    → ((w' : ClusterState) → w'.reigns ≡ w.reigns → Advance g w g w' → AllByRecursion (SentHolds g w') ms)
    → After g o w g (changed w w.coordinator_up (kept_reply from tail w.coordinator) ms)
replies_next g w o from tail ms s lt h sent =
    let co = kept_reply from tail w.coordinator in
    let w' = changed w w.coordinator_up co ms in
    coordinator_after g w o w.coordinator_up co ms s (omega arith)
    (λ a. kept_holds g w w' o from tail s a refl refl lt h)
    (λ a. sent w' refl a)

-- ---- a majority has replied

-- the leader's tail isn't behind another
at_most : (t u : Tail) → is_behind u t ≡ false → IsAtMost t u
at_most t u h = elim (cases_lt t.epoch u.epoch) [
  | inl lt ↦ inl lt
  | inr ge ↦ inr (same t u h ge, low t u h ge)
]
  where
    same : (t u : Tail) → is_behind u t ≡ false → u.epoch ≤ t.epoch → t.epoch ≡ u.epoch
    same t u h ge = grind arith

    low : (t u : Tail) → is_behind u t ≡ false → u.epoch ≤ t.epoch → t.end ≤ u.end
    low t u h ge = grind arith

-- Follow goes to others than the leader
others_hold : (first e l : ℕ) (told : List (Option Tail)) → AllByRecursion (λ (x : Sent). (x ≡ mail l (messages.Open e)) ⊎ ((k : ℕ) × (k ≢ l) × (x ≡ mail k (messages.Follow e l)))) (to_each (messages.Follow e l) (others_from first l told))
others_hold first e l [] = tt
others_hold first e l (x ∷ xs) = go (is_told x && not (first == l)) refl (others_hold (first + 1) e l xs)
  where
    P : Sent → Type 0
    P x = (x ≡ mail l (messages.Open e)) ⊎ ((k : ℕ) × (k ≢ l) × (x ≡ mail k (messages.Follow e l)))

    not_is : (a : Bool) (n m : ℕ) → (a && not (n == m)) ≡ true → n ≡ m → ⊥
    not_is true n m h e = grind arith
    not_is false n m h e = absurd cc

    go : (b : Bool) → (is_told x && not (first == l)) ≡ b → AllByRecursion P (to_each (messages.Follow e l) (others_from (first + 1) l xs))
        → AllByRecursion P (to_each (messages.Follow e l) (cond b (first ∷ others_from (first + 1) l xs) (others_from (first + 1) l xs)))
    go true q rest = (inr (first, not_is (is_told x) first l q, refl), rest)
    go false q rest = rest

many : (members n : ℕ) → is_majority members n ≡ true → members < 2 * n
many members n h = grind arith

-- what a reply that the electing coordinator keeps says
reply_is : (g : Tree) (w : ClusterState) (o k : ℕ) (t : Tail) → Sound g o w → ElectingHolds o w w.coordinator.told → Told 1 w.coordinator.told k t
    → ((member w k).promise ≡ durable w) × IsCalm (member w k) × (tail_of (member w k).log ≡ t)
reply_is g w o k t s e x =
    let r = e.replies k t x in
    let low = (s.each_member k).not_ahead in
    elim r.2 [
      | inl z ↦ absurd (omega (arith, z, low))
      | inr (inl z) ↦ absurd (let none = e.new in let some = z.1 in cc (none, some))
      | inr (inr z) ↦ z
    ]

-- from a coordinator that elects, with all its replies, the epoch runs
runs_next : (g : Tree) (w : ClusterState) (o : ℕ) → Sound g o w → w.coordinator.phase ≡ Electing → w.coordinator.job ≡ None → is_majority w.coordinator.members (repliers w.coordinator.told) ≡ true
    → Next o w (heard_by (hears (record w.coordinator { phase = Running (leader_of w.coordinator.told) }) (did.Opened w.coordinator.epoch (leader_of w.coordinator.told) (electors_of w.coordinator.told))) w) g
runs_next g w o s phase job most =
    let c = w.coordinator in
    let old = s.coordinator in
    let l = leader_of c.told in
    let eh : ElectingHolds o w c.told = subst (PhaseHolds o w c.told) phase old.phase in
    let more = many c.members (repliers c.told) most in
    let it = some_told c.told 1 (omega (arith, more)) in
    let leader : IsLeader c.told l = is_leader c.told it.0 it.1 it.2 in
    let flags = flags_of c.members (electors_of c.told) in
    let electors : flags ≡ map is_told c.told = ap (λ (n : ℕ). flags_of n (electors_of c.told)) (old.count ∙ sym old.places) ∙ flags_are c.told in
    let count : length (map is_told c.told) ≡ length w.seats = length-map c.told is_told ∙ old.places in
    let reply = λ (k : ℕ) (t : Tail) (x : Told 1 c.told k t). reply_is g w o k t s eh x in
    let first = reply l leader.tail leader.told_it in
    let chosen : Chooses w l (map is_told c.told) = record {
      most = record { each = count; most = (let v = told_votes c.told in let n = old.count in omega (arith, v, n, more)) };
      calm = λ k v. (let x = told_by c.told k v in let y = reply k x.0 x.1 in (y.0, y.1));
      leader = is_flagged c.told l leader.tail leader.told_it;
      greatest = λ k v. (let x = told_by c.told k v in let y = reply k x.0 x.1 in
          subst (λ (u : Tail). IsAtMost (tail_of (member w k).log) u) (sym first.2) (subst (λ (u : Tail). IsAtMost u leader.tail) (sym y.2) (at_most x.0 leader.tail (leader.first k x.0 x.1).greatest)));
    } in
    let log = (member w l).log in
    let is_log = (s.each_member l).is_log in
    let r : Reign = record { epoch = c.epoch; leader = l; electors = flags; runs = runs_of log } in
    let co : CoordinatorState = record c { phase = Running l } in
    let ms = opening c.epoch l c.told in
    let made = elect_reign g w o l r co ms s eh.new eh.later (subst (Chooses w l) (sym electors) chosen)
    (record { count = old.count; places = old.places; epoch_is = refl; phase_is = refl; job_is = job })
    refl refl
    (λ e m. (runs_to (record { epoch = e; end = m }) 0 0 log is_log, runs_from (record { epoch = e; end = m }) 0 0 log is_log))
    (inl refl, others_hold 1 c.epoch l c.told) in
    alike_next o w (reign_made w r co ms) g made.0 made.1 refl refl

-- ---- a member has stopped

choose_heard : (g : Tree) (w : ClusterState) (o : ℕ) (b : Bool) (x y : Hears) → (b ≡ true → Next o w (heard_by x w) g) → (b ≡ false → Next o w (heard_by y w) g) → Next o w (heard_by (if b then x else y) w) g
choose_heard g w o true x y p q = p refl
choose_heard g w o false x y p q = q refl

nothing_next : (g : Tree) (w : ClusterState) (o : ℕ) → Sound g o w → Next o w (heard_by (hears w.coordinator did.Nothing) w) g
nothing_next g w o s = tells g w o [] s tt

-- a member of an earlier epoch
before_next : (g : Tree) (w : ClusterState) (o from : ℕ) → Sound g o w → (p : Phase) → Next o w (heard_by (told_before p from w.coordinator) w) g
before_next g w o from s Idle = nothing_next g w o s
before_next g w o from s Electing = tells g w o (mail from (messages.Stop (durable w)) ∷ []) s (omega arith, tt)
before_next g w o from s (Running l) = tells g w o (mail from (messages.Stop (durable w)) ∷ []) s (omega arith, tt)

-- one step after another that changed no member
pub after_next : (g : Tree) (w x y : ClusterState) (o : ℕ) → After g o w g x → x.seats ≡ w.seats → x.committed ≡ w.committed → Next o x y g → Next o w y g
after_next g w x y o a seats list n = record {
  tree = n.tree;
  after = record {
    sound = n.after.sound;
    kept = λ l h. n.after.kept l (a.kept l h);
    sources = λ e. elim (n.after.sources e) [
      | inl p ↦ inl p
      | inr p ↦ inr (p.0, subst (λ (ss : List Seat). GoesOn (n.tree.canon e) (sequence_of (seat_in ss p.0).state)) seats p.1)
    ];
    reigns = λ e r is. n.after.reigns e r (a.reigns e r is);
  };
  moves = λ i. subst (λ (ss : List Seat). MoveOf n.tree.canon (seat_in ss i).state (member y i)) seats (n.moves i);
  grows = subst (λ (l : List Chunk). GoesOn l y.committed) list n.grows;
}

-- a reply in the epoch
in_epoch_next : (g : Tree) (w : ClusterState) (o from : ℕ) (tail : Tail) → Sound g o w → w.coordinator.job ≡ None → IsMember w from → MessageHolds g w 0 (messages.Stopped (durable w) from tail)
    → (p : Phase) → w.coordinator.phase ≡ p → Next o w (heard_by (told_in_epoch p from tail w.coordinator) w) g
in_epoch_next g w o from tail s job lt h Idle phase = nothing_next g w o s
in_epoch_next g w o from tail s job lt h (Running l) phase =
    let c = w.coordinator in
    let co = kept_reply from tail c in
    let ms = open_or_follow c.epoch l from ∷ [] in
    let led : LeadsEpoch w c.epoch l = subst (PhaseHolds o w c.told) phase s.coordinator.phase in
    coordinator_next g w o w.coordinator_up co ms
    (replies_next g w o from tail ms s lt h (λ w' same a. (go w' a (from == l) refl (leads_on g g w w' c.epoch l a led), tt)))
  where
    go : (w' : ClusterState) → Advance g w g w' → (b : Bool) → (from == l) ≡ b → LeadsEpoch w' w.coordinator.epoch l → MessageHolds g w' from (cond b (messages.Open w.coordinator.epoch) (messages.Follow w.coordinator.epoch l))
    go w' a true e led = subst (LeadsEpoch w' w.coordinator.epoch) (sym (eq_is from l e)) led
    go w' a false e led = (led, λ same. let both : true ≡ false = sym (eq_made from l same) ∙ e in absurd cc)
in_epoch_next g w o from tail s job lt h Electing phase =
    let c = w.coordinator in
    let co = kept_reply from tail c in
    let w1 : ClusterState = record w { coordinator = co } in
    let a : After g o w g (changed w w.coordinator_up co []) = replies_next g w o from tail [] s lt h (λ w' same a. tt) in
    let a1 : After g o w g w1 = subst (After g o w g) (send_none w1) a in
    choose_heard g w o (is_majority co.members (repliers co.told))
    (hears (record co { phase = Running (leader_of co.told) }) (did.Opened co.epoch (leader_of co.told) (electors_of co.told))) (hears co did.Nothing)
    (λ most. after_next g w w1 _ o a1 refl refl (runs_next g w1 o a1.sound phase job most))
    (λ f. coordinator_next g w o w.coordinator_up co [] a)

another : (members number : ℕ) → is_another members 0 number ≡ true → (0 < number) × (number ≤ members)
another members number h = (above members number h, low members number h)
  where
    above : (members number : ℕ) → is_another members 0 number ≡ true → 0 < number
    above members number h = grind arith

    low : (members number : ℕ) → is_another members 0 number ≡ true → number ≤ members
    low members number h = grind arith

stopped_next : (g : Tree) (w : ClusterState) (o e from : ℕ) (tail : Tail) → Sound g o w → (j : Option ℕ) → w.coordinator.job ≡ j → j ≡ None → MessageHolds g w 0 (messages.Stopped e from tail) → Next o w (heard_by (stopped_by j e from tail w.coordinator) w) g
stopped_next g w o e from tail s (Some next) job none h = absurd cc
stopped_next g w o e from tail s None job none h =
    let c = w.coordinator in
    choose_heard g w o (not (is_another c.members 0 from)) (hears c did.Nothing)
    (if nat_lt e c.epoch then told_before c.phase from c else (if e == c.epoch then told_in_epoch c.phase from tail c else hears c did.Nothing))
    (λ t. nothing_next g w o s)
    (λ t.
    let x = another c.members from (not_not (is_another c.members 0 from) t) in
    let lt : IsMember w from = (x.0, omega (arith, x.1, s.coordinator.count)) in
    choose_heard g w o (nat_lt e c.epoch) (told_before c.phase from c) (if e == c.epoch then told_in_epoch c.phase from tail c else hears c did.Nothing)
    (λ t. before_next g w o from s c.phase)
    (λ t. choose_heard g w o (e == c.epoch) (told_in_epoch c.phase from tail c) (hears c did.Nothing)
    (λ t. in_epoch_next g w o from tail s job lt (subst (λ (n : ℕ). MessageHolds g w 0 (messages.Stopped n from tail)) (eq_is e c.epoch t) h) c.phase refl)
    (λ t. nothing_next g w o s)))
  where
    not_not : (b : Bool) → not b ≡ false → b ≡ true
    not_not true h = refl
    not_not false h = absurd cc

-- any message to the coordinator
pub to_coordinator_next : (g : Tree) (w : ClusterState) (o : ℕ) (message : Message) → Sound g o w → w.coordinator.job ≡ None → MessageHolds g w 0 message → Next o w (to_coordinator message w) g
to_coordinator_next g w o (messages.Stopped e from tail) s job h = stopped_next g w o e from tail s w.coordinator.job refl job h
to_coordinator_next g w o (messages.Stop e) s job h = same_next g w o s
to_coordinator_next g w o (messages.Open e) s job h = same_next g w o s
to_coordinator_next g w o (messages.Follow e l) s job h = same_next g w o s
to_coordinator_next g w o (messages.Shape e runs) s job h = same_next g w o s
to_coordinator_next g w o (messages.Ask e from tail) s job h = same_next g w o s
to_coordinator_next g w o (messages.Append e t c) s job h = same_next g w o s

-- ---- the coordinator stops and comes back

pub coordinator_stops : (g : Tree) (w : ClusterState) (o : ℕ) → Sound g o w → Next o w (record w { coordinator_up = false; coordinator = record w.coordinator { phase = Idle; told = untold w.coordinator.members } }) g
coordinator_stops g w o s =
    let c = w.coordinator in
    let co : CoordinatorState = record c { phase = Idle; told = untold c.members } in
    let old = s.coordinator in
    alike_next o w (rest w false co w.mail w.last w.committed) g g
    (rest_sound g w o false co w.mail w.last w.committed s (omega arith)
    (λ a. record { count = old.count; places = untold_count c.members ∙ old.count; fits = old.fits; next = old.next; phase = tt })
    s.committed (λ old. old)) refl refl

pub reopens_next : (g : Tree) (w : ClusterState) (o epoch : ℕ) → Sound g o w → MayBegin w.coordinator epoch → Next o w (reopens epoch w) g
reopens_next g w o epoch s may =
    let c = w.coordinator in
    let co = opened_with c.members epoch in
    let old = s.coordinator in
    let up : (durable w ≤ epoch) × (epoch ≤ last_number) = elim may [
      | inl e ↦ (omega (arith, e), omega (arith, e, old.fits))
      | inr j ↦ (let n = old.next epoch j in (omega (arith, n.0), n.1))
    ] in
    alike_next o w (rest w true co w.mail w.last w.committed) g g
    (rest_sound g w o true co w.mail w.last w.committed s up.0
    (λ a. record { count = old.count; places = untold_count c.members ∙ old.count; fits = up.1; next = λ e is. let z : None ≡ Some e = is in absurd cc; phase = tt })
    s.committed (λ old. old)) refl refl

-- ---- a nudge of the coordinator

nudged_holds : (g : Tree) (w : ClusterState) (p : Phase) → AllByRecursion (SentHolds g w) (nudged_in p w.coordinator)
nudged_holds g w Idle = tt
nudged_holds g w Electing = stops_hold g w (durable w) (untold_from 1 w.coordinator.told) (omega arith)
nudged_holds g w (Running l) = stops_hold g w (durable w) (untold_from 1 w.coordinator.told) (omega arith)

pub coordinator_nudges : (g : Tree) (w : ClusterState) (up : Bool) → AllByRecursion (SentHolds g w) (nudges_by up (coordinators.nudged w.coordinator))
coordinator_nudges g w true = nudged_holds g w w.coordinator.phase
coordinator_nudges g w false = tt
