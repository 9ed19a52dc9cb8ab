-- Each event leaves a sound state sound.
use Rattle.std.proofs.Common.{◌≡◌, ℕ, ◌+◌, ◌<◌, ◌≤◌, List, [], ◌∷◌, ◌++◌, length, refl, sym, ap, ◌∙◌, subst, inl, inr, arith, Option, Some, None, Bool, true, false, cond, zero, suc, append_assoc}
use Rattle.std.specs.Prelude.{◌==◌, nat_lt, slice_index_or}
use Rattle.std.specs.List.{AllByRecursion}
use Rattle.std.proofs.lemmas.Bool.{cases_eq}
use Rattle.std.proofs.lemmas.List.{append-nil}
use Rattle.chunk_format.specs.declared.chunk.Chunk.{Chunk}
use Rattle.chunk_format.specs.Logs.{GoesOn, end_of, IsLog}
use Rattle.chunk_format.proofs.BeginLaws.{goes_same, goes_on}
use Rattle.epoch_coordinator.specs.declared.message.Message.{Message}
use Rattle.epoch_coordinator.specs.declared.message.Message.TheVariants as messages
use Rattle.epoch_coordinator.specs.declared.message.Sent.{Sent}
use Rattle.epoch_coordinator.specs.Members.{MemberRole, MemberState, Stopped, Follower, Leader, job_chunks, role_chunks, sequence_of}
use Rattle.epoch_coordinator.specs.MemberSteps.{Took, taken, finished, nudged, nudged_by, restarted, commit_by, commit_end, cut_at}
use Rattle.epoch_coordinator.specs.Coordinators as coordinators
use Rattle.replication_laws.specs.Cluster.{Seat, Letter, ClusterState, nobody, seat_in, seat, member, IsMember, put, send, letter_in, marked, without}
use Rattle.replication_laws.specs.Events.{committed_by, commits, took, comes, to_coordinator, begins, member_nudges, nudges_by, nudges, IsFree, ClusterStep, Elect, Deliver, Lose, Forget, Nudge, Done, Stop, Restart, Reopen}
use Rattle.replication_laws.specs.Soundness.{Tree, MessageHolds, Kept, Sound, IsCommitted}
use Rattle.replication_laws.proofs.Logs.{goes_behind, begins_as, front_end}
use Rattle.replication_laws.proofs.Frame.{message_on, elects_on}
use Rattle.replication_laws.proofs.Carry.{kept_rooted}
use Rattle.replication_laws.proofs.Sounds.{all_join, seat_put, seat_else, count_put, After, SentHolds}
use Rattle.replication_laws.proofs.Followers.{is_up, stop_member}
use Rattle.replication_laws.proofs.Takings.{ask_again, stopped_again, taken_sound}
use Rattle.replication_laws.proofs.Finishings.{finished_sound, restart_sound}
use Rattle.replication_laws.proofs.Commits.{rest_advance, rest_stays, kept_order, DueAt, due_at}
use Rattle.replication_laws.proofs.Moves.{MoveOf, Next, Did, done_by, put_next, falls}
use Rattle.replication_laws.proofs.Coordinating.{alike_next, after_next, send_none, tells, elect_next, begins_next, to_coordinator_next, coordinator_stops, reopens_next, coordinator_nudges}

-- ---- messages that stay

all_marked : (P : Sent → Type 0) → (n : ℕ) (letters : List Letter) → AllByRecursion (λ (l : Letter). P l.sent) letters → AllByRecursion (λ (l : Letter). P l.sent) (marked n letters)
all_marked P n [] h = tt
all_marked P n (l ∷ more) h = go (l.number == n) (all_marked P n more h.1)
  where
    go : (b : Bool) → AllByRecursion (λ (x : Letter). P x.sent) (marked n more) → AllByRecursion (λ (x : Letter). P x.sent) (cond b (record l { delivered = true } ∷ more) (l ∷ marked n more))
    go true rest = (h.0, h.1)
    go false rest = (h.0, rest)

all_without : (P : Letter → Type 0) → (n : ℕ) (letters : List Letter) → AllByRecursion P letters → AllByRecursion P (without n letters)
all_without P n [] h = tt
all_without P n (l ∷ more) h = go (l.number == n) (all_without P n more h.1)
  where
    go : (b : Bool) → AllByRecursion P (without n more) → AllByRecursion P (cond b more (l ∷ without n more))
    go true rest = h.1
    go false rest = (h.0, rest)

-- a message that is there holds
pub letter_holds : (P : Sent → Type 0) → (n : ℕ) (letters : List Letter) (s : Sent) → AllByRecursion (λ (l : Letter). P l.sent) letters → letter_in n letters ≡ Some s → P s
letter_holds P n [] s h e = absurd cc
letter_holds P n (l ∷ more) s h e = go (l.number == n) e (letter_holds P n more s h.1)
  where
    go : (b : Bool) → cond b (Some l.sent) (letter_in n more) ≡ Some s → (letter_in n more ≡ Some s → P s) → P s
    go true x on = (let same : l.sent ≡ s = cc in subst P same h.0)
    go false x on = on x

-- ---- a commit

-- what is due at a member is committed
pub record Committed (g : Tree) (o k : ℕ) (w : ClusterState) : Type 0 where
  pub after : After g o w g (commits k w)
  pub grows : GoesOn w.committed (commits k w).committed
  pub reached : commit_end (member w k) ≤ end_of (commits k w).committed

committed_log : (g : Tree) (w : ClusterState) (o : ℕ) → Sound g o w → IsLog w.committed
committed_log g w o s = (kept_rooted g w o w.committed s.tree s.each_member s.committed).1

lt_is : (a b : ℕ) → nat_lt a b ≡ true → a < b
lt_is a b h = grind arith

ge_is : (a b : ℕ) → nat_lt a b ≡ false → b ≤ a
ge_is a b h = grind arith

pub commits_sound : (g : Tree) (w : ClusterState) (o k : ℕ) → Sound g o w → IsMember w k → Committed g o k w
commits_sound g w o k s lt = go (nat_lt (end_of w.committed) (commit_end m)) refl
  where
    m : MemberState
    m = member w k

    due : (r : MemberRole) → m.role ≡ r → end_of w.committed < commit_by r m → DueAt w k
    due Stopped role some = absurd (omega (arith, some))
    due (Follower l) role some = absurd (omega (arith, some))
    due (Leader l) role some = due_at g w o k l s lt role

    longer : end_of w.committed < commit_end m → (d : DueAt w k) → GoesOn w.committed d.front
    longer some d = elim (kept_order g w o w.committed d.front s s.committed d.is_kept) [
      | inl p ↦ p
      | inr p ↦ (let z = front_end d.front w.committed p (committed_log g w o s) in absurd (omega (arith, z, d.end_is, some)))
    ]

    go : (b : Bool) → nat_lt (end_of w.committed) (commit_end m) ≡ b → Committed g o k w
    go true e =
        let some = lt_is (end_of w.committed) (commit_end m) e in
        let d = due m.role refl some in
        let is : committed_by w.committed m ≡ d.front = ap (λ (b : Bool). cond b (cut_at (commit_end m) m.log) w.committed) e ∙ d.cut_is in
        record {
          after = rest_stays g w o w.mail w.last (committed_by w.committed m) s (subst (Kept w) (sym is) d.is_kept) (λ old. old);
          grows = begins_as w.committed d.front (committed_by w.committed m) (sym is) (longer some d);
          reached = (let same = ap end_of is in omega (arith, same, d.end_is));
        }
    go false e =
        let is : committed_by w.committed m ≡ w.committed = ap (λ (b : Bool). cond b (cut_at (commit_end m) m.log) w.committed) e in
        record {
          after = rest_stays g w o w.mail w.last (committed_by w.committed m) s (subst (Kept w) (sym is) s.committed) (λ old. old);
          grows = begins_as w.committed w.committed (committed_by w.committed m) (sym is) (goes_same w.committed);
          reached = (let same = ap end_of is in let le = ge_is (end_of w.committed) (commit_end m) e in omega (arith, same, le));
        }

-- ---- what an event gives

-- the next state is sound, and what is due stays committed
pub record Goes (o : ℕ) (w w' : ClusterState) (g : Tree) : Type 0 where
  pub next : Next o w w' g
  pub reached : IsCommitted w → IsCommitted w'

-- where one member changes
pub still_committed : (g : Tree) (w w' : ClusterState) (o k : ℕ) (n : Next o w w' g) → length w'.seats ≡ length w.seats → ((i : ℕ) → (i ≡ k → ⊥) → seat w' i ≡ seat w i)
    → ((seat w' k).up ≡ true → commit_end (member w' k) ≤ end_of w'.committed) → IsCommitted w → IsCommitted w'
still_committed g w w' o k n count others here old i lt up = elim (cases_eq i k) [
  | inl eq ↦ rw eq (here (rw eq at up))
  | inr ne ↦
      let same = others i ne in
      let le = old i (lt.0, omega (arith, lt.1, count)) (ap (λ (s : Seat). s.up) (sym same) ∙ up) in
      let ends = front_end w.committed w'.committed n.grows (committed_log n.tree w' o n.after.sound) in
      let end : commit_end (member w' i) ≡ commit_end (member w i) = ap (λ (s : Seat). commit_end s.state) same in
      omega (arith, le, ends, end)
]

-- where none changes
alike_goes : (g : Tree) (w w' : ClusterState) (o : ℕ) → Next o w w' g → w'.seats ≡ w.seats → Goes o w w' g
alike_goes g w w' o n seats = record {
  next = n;
  reached = λ old i lt up.
      let same : seat w' i ≡ seat w i = ap (λ (ss : List Seat). seat_in ss i) seats in
      let le = old i (lt.0, (let c = ap length seats in omega (arith, lt.1, c))) (ap (λ (s : Seat). s.up) (sym same) ∙ up) in
      let ends = front_end w.committed w'.committed n.grows (committed_log n.tree w' o n.after.sound) in
      let end : commit_end (member w' i) ≡ commit_end (member w i) = ap (λ (s : Seat). commit_end s.state) same in
      omega (arith, le, ends, end);
}

-- a member that is up does something, and then what is due at it is committed
took_goes : (g : Tree) (w : ClusterState) (o k : ℕ) (t : Took) → IsMember w k → Did g w o k t → Goes o w (took k t w) g
took_goes g w o k t lt n =
    let x = done_by w k t in
    let there : IsMember x k = (lt.0, (let c = count_put k (is_up t.state) w.seats in omega (arith, lt.1, c))) in
    let c = commits_sound n.tree x o k n.after.sound there in
    let next : Next o w (took k t w) g = record {
      tree = n.tree;
      after = record {
        sound = c.after.sound;
        kept = λ l h. c.after.kept l (n.after.kept l h);
        sources = n.after.sources;
        reigns = λ e r is. n.after.reigns e r is;
      };
      moves = n.moves;
      grows = goes_on w.committed x.committed (commits k x).committed n.grows c.grows;
    } in
    record {
      next = next;
      reached = still_committed g w (took k t w) o k next (count_put k (is_up t.state) w.seats) (λ i ne. seat_else w k i (is_up t.state) ne) (λ up. c.reached);
    }

-- ---- nudges

member_nudge : (g : Tree) (w : ClusterState) (o k : ℕ) → Sound g o w → IsMember w k → (seat w k).up ≡ true → (r : MemberRole) → (member w k).role ≡ r → AllByRecursion (SentHolds g w) (nudged_by r (member w k))
member_nudge g w o k s lt up Stopped role = (stopped_again g w o k s lt up role, tt)
member_nudge g w o k s lt up (Follower l) role = (ask_again g w o k l s lt role, tt)
member_nudge g w o k s lt up (Leader l) role = tt

nudges_hold : (g : Tree) (w : ClusterState) (o first : ℕ) (seats : List Seat) → Sound g o w
    → ((i : ℕ) → i < length seats → (slice_index_or seats i nobody ≡ seat w (suc (first + i))) × IsMember w (suc (first + i))) → AllByRecursion (SentHolds g w) (member_nudges seats)
nudges_hold g w o first [] so at = tt
nudges_hold g w o first (s ∷ seats) so at =
    all_join (SentHolds g w) (nudges_by s.up (nudged s.state)) (member_nudges seats) (one s.up refl)
    (nudges_hold g w o (first + 1) seats so (λ i lt. let x = at (suc i) (omega (arith, lt)) in let e : suc (first + suc i) ≡ suc (first + 1 + i) = omega arith in (x.0 ∙ ap (seat w) e, rw e at x.1)))
  where
    k : ℕ
    k = suc (first + 0)

    here : s ≡ seat w k
    here = (at 0 (omega arith)).0

    one : (b : Bool) → s.up ≡ b → AllByRecursion (SentHolds g w) (nudges_by b (nudged s.state))
    one false e = tt
    one true e =
        subst (λ (x : Seat). AllByRecursion (SentHolds g w) (nudged x.state)) (sym here)
        (member_nudge g w o k so (at 0 (omega arith)).1 (ap (λ (x : Seat). x.up) (sym here) ∙ e) (member w k).role refl)

-- ---- each event

to_coordinator_seats : (message : Message) (w : ClusterState) → (to_coordinator message w).seats ≡ w.seats
to_coordinator_seats (messages.Stopped e from t) w = refl
to_coordinator_seats (messages.Stop e) w = refl
to_coordinator_seats (messages.Open e) w = refl
to_coordinator_seats (messages.Follow e l) w = refl
to_coordinator_seats (messages.Shape e runs) w = refl
to_coordinator_seats (messages.Ask e from t) w = refl
to_coordinator_seats (messages.Append e t c) w = refl

begins_seats : (j : Option ℕ) (w : ClusterState) → (begins j w).seats ≡ w.seats
begins_seats None w = refl
begins_seats (Some e) w = refl

-- a member that stops has what it was about to write on its disk, at most
stops_move : (canon : ℕ → List Chunk) (m : MemberState) → MoveOf canon m (record m { role = Stopped })
stops_move canon m =
    falls canon m (record m { role = Stopped }) (m.log ++ job_chunks m.job) refl (ap (λ (l : List Chunk). m.log ++ l) (append-nil (job_chunks m.job)))
    (begins_as (m.log ++ job_chunks m.job) ((m.log ++ job_chunks m.job) ++ role_chunks m.role) (sequence_of m) (append_assoc m.log (job_chunks m.job) (role_chunks m.role)) (goes_behind (m.log ++ job_chunks m.job) (role_chunks m.role)))

-- a message was delivered, and stays
pub delivered_after : (g : Tree) (w : ClusterState) (o n : ℕ) → Sound g o w → After g o w g (record w { mail = marked n w.mail })
delivered_after g w o n so =
    let w1 : ClusterState = record w { mail = marked n w.mail } in
    rest_stays g w o (marked n w.mail) w.last w.committed so so.committed (λ old. all_marked (SentHolds g w1) n w.mail old)

-- it holds as well when it was marked
pub delivered_holds : (g : Tree) (w : ClusterState) (o n : ℕ) (s : Sent) → Sound g o w → letter_in n w.mail ≡ Some s → SentHolds g (record w { mail = marked n w.mail }) s
delivered_holds g w o n s so is =
    let w1 : ClusterState = record w { mail = marked n w.mail } in
    let a = rest_advance g w w.coordinator_up w.coordinator (marked n w.mail) w.last w.committed (omega arith) in
    message_on g g w w1 so.tree.logs a (λ e j n. elects_on g g w w1 e j n so.tree.logs a refl) s.to s.message (letter_holds (SentHolds g w) n w.mail s so.each_letter is)

deliver_goes : (g : Tree) (w : ClusterState) (o now n to : ℕ) (s : Sent) → Sound g o w → letter_in n w.mail ≡ Some s → (to ≡ s.to) → IsFree w to → Goes o w (comes now to s.message (record w { mail = marked n w.mail })) g
deliver_goes g w o now n zero s so is same free =
    let w1 : ClusterState = record w { mail = marked n w.mail } in
    let a = delivered_after g w o n so in
    let h : SentHolds g w1 s = delivered_holds g w o n s so is in
    let held : MessageHolds g w1 0 s.message = subst (λ (x : ℕ). MessageHolds g w1 x s.message) (sym same) h in
    let n1 = to_coordinator_next g w1 o s.message a.sound free.1 held in
    alike_goes g w (to_coordinator s.message w1) o (after_next g w w1 (to_coordinator s.message w1) o a refl refl n1) (to_coordinator_seats s.message w1)
deliver_goes g w o now n (suc i) s so is same free =
    let k = suc i in
    let w1 : ClusterState = record w { mail = marked n w.mail } in
    let a = delivered_after g w o n so in
    let h : SentHolds g w1 s = delivered_holds g w o n s so is in
    let held : MessageHolds g w1 k s.message = subst (λ (x : ℕ). MessageHolds g w1 x s.message) (sym same) h in
    let t = taken now s.message (member w k) in
    let r = took_goes g w1 o k t free.0.0 (taken_sound g w1 o k now s.message a.sound free.0.0 free.0.1 free.1 held) in
    record { next = after_next g w w1 (took k t w1) o a refl refl r.next; reached = r.reached }

pub event_goes : (g : Tree) (o now : ℕ) (w w' : ClusterState) → Sound g o w → ClusterStep now w w' → Goes o w w' g
event_goes g o now w w' s (Elect free lt eq) = subst (λ (x : ClusterState). Goes o w x g) (sym eq) (alike_goes g w _ o (elect_next g w o s free.1 lt) refl)
event_goes g o now w w' s (Deliver n x is free eq) = subst (λ (x : ClusterState). Goes o w x g) (sym eq) (deliver_goes g w o now n x.to x s is refl free)
event_goes g o now w w' s (Lose n x is eq) =
    subst (λ (x : ClusterState). Goes o w x g) (sym eq)
    (alike_goes g w _ o (alike_next o w _ g g (rest_stays g w o (without n w.mail) w.last w.committed s s.committed (λ old. all_without _ n w.mail old)) refl refl) refl)
event_goes g o now w w' s (Forget eq) =
    subst (λ (x : ClusterState). Goes o w x g) (sym eq)
    (alike_goes g w _ o (alike_next o w _ g g (rest_stays g w o [] 0 w.committed s s.committed (λ old. tt)) refl refl) refl)
event_goes g o now w w' s (Nudge eq) =
    subst (λ (x : ClusterState). Goes o w x g) (sym eq)
    (alike_goes g w _ o (tells g w o (nudges w) s
    (all_join (SentHolds g w) (nudges_by w.coordinator_up (coordinators.nudged w.coordinator)) (member_nudges w.seats) (coordinator_nudges g w w.coordinator_up)
    (nudges_hold g w o 0 w.seats s (λ i lt. (let e : i ≡ 0 + i = omega arith in ap (seat w) (ap suc e), (omega arith, omega (arith, lt))))))) refl)
event_goes g o now w w' s (Done zero up eq) =
    subst (λ (x : ClusterState). Goes o w x g) (sym eq) (alike_goes g w _ o (begins_next g w o s w.coordinator.job refl) (begins_seats w.coordinator.job w))
event_goes g o now w w' s (Done (suc i) up eq) =
    subst (λ (x : ClusterState). Goes o w x g) (sym eq) (took_goes g w o (suc i) (finished (member w (suc i))) up.0 (finished_sound g w o (suc i) s up.0 up.1))
event_goes g o now w w' s (Stop zero up eq) = subst (λ (x : ClusterState). Goes o w x g) (sym eq) (alike_goes g w _ o (coordinator_stops g w o s) refl)
event_goes g o now w w' s (Stop (suc i) up eq) =
    let k = suc i in
    let m = member w k in
    let down : Seat = record { up = false; state = record m { role = Stopped } } in
    let n : Next o w (send (put w k down) []) g = put_next o w g g k down [] up.0 (stop_member g w o k s up.0) (stops_move g.canon m) in
    let n1 : Next o w (put w k down) g = subst (λ (x : ClusterState). Next o w x g) (send_none (put w k down)) n in
    subst (λ (x : ClusterState). Goes o w x g) (sym eq)
    (record {
      next = n1;
      reached = still_committed g w (put w k down) o k n1 (count_put k down w.seats) (λ j ne. seat_else w k j down ne)
          (λ u. let never : false ≡ true = ap (λ (x : Seat). x.up) (sym (seat_put w k down up.0)) ∙ u in absurd cc);
    })
event_goes g o now w w' s (Restart k p log lt down held pe eq) =
    let m = member w k in
    let named = s.named k lt in
    let ours : Seat = is_up (record m { role = Stopped; promise = p; log = log; job = None }) in
    let new : Seat = is_up (restarted (length w.seats) k p log) in
    let same : ours ≡ new =
    ap (λ (x : ℕ). is_up (record { number = x; members = m.members; promise = p; role = Stopped; log = log; job = None })) named.0
    ∙ ap (λ (x : ℕ). is_up (record { number = k; members = x; promise = p; role = Stopped; log = log; job = None })) named.1 in
    let n : Next o w (send (put w k ours) []) g = restart_sound g w o k p log s lt held pe in
    let n1 : Next o w (put w k new) g = subst (λ (x : Seat). Next o w (put w k x) g) same (subst (λ (x : ClusterState). Next o w x g) (send_none (put w k ours)) n) in
    subst (λ (x : ClusterState). Goes o w x g) (sym eq)
    (record {
      next = n1;
      reached = still_committed g w (put w k new) o k n1 (count_put k new w.seats) (λ j ne. seat_else w k j new ne)
          (λ u. let e : commit_end (member (put w k new) k) ≡ 0 = ap (λ (x : Seat). commit_end x.state) (seat_put w k new lt) in omega (arith, e));
    })
event_goes g o now w w' s (Reopen epoch down may eq) = subst (λ (x : ClusterState). Goes o w x g) (sym eq) (alike_goes g w _ o (reopens_next g w o epoch s may) refl)
