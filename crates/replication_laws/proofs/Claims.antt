-- What waits stands in the running leader's sequence, and in the committed list once that reaches it.
use Rattle.std.proofs.Common.{◌≡◌, ℕ, ◌<◌, ◌≤◌, ◌⊎◌, List, ◌++◌, refl, sym, ap, ◌∙◌, subst, append_assoc, inl, inr, arith, Option, Some, None, Bool, true, false, cond, zero, suc}
use Rattle.std.specs.Prelude.{nat_lt}
use Rattle.std.proofs.lemmas.Bool.{cases_eq}
use Rattle.std.proofs.lemmas.List.{append-nil}
use Rattle.chunk_format.specs.declared.chunk.Chunk.{Chunk}
use Rattle.chunk_format.specs.Logs.{GoesOn, end_of, IsLog}
use Rattle.chunk_format.proofs.LinkLaws.{linked_join}
use Rattle.chunk_format.proofs.BeginLaws.{goes_same, goes_on, shorter_begins}
use Rattle.epoch_coordinator.specs.declared.message.Message.{Message}
use Rattle.epoch_coordinator.specs.declared.message.Message.TheVariants as messages
use Rattle.epoch_coordinator.specs.declared.message.Job.{Job}
use Rattle.epoch_coordinator.specs.declared.message.Job.TheVariants.{Write, Cut, Promise, Epoch}
use Rattle.epoch_coordinator.specs.Members.{MemberRole, MemberState, Stopped, Follower, Leader, job_chunks, role_chunks, sequence_of}
use Rattle.epoch_coordinator.specs.MemberSteps.{Took, taken, finished, commit_by, commit_end, cut_at}
use Rattle.replication_laws.specs.Cluster.{Seat, Reign, reign, put, send, ClusterState, seat, member, IsMember, durable, marked, is_opened, RunsWith}
use Rattle.replication_laws.specs.Events.{IsFree, took, comes, to_coordinator, begins, ClusterStep, Elect, Deliver, Lose, Forget, Nudge, Done, Stop, Restart, Reopen, OfferStep, AnyStep, Happens, Takes}
use Rattle.replication_laws.specs.Soundness.{Tree, LeadsEpoch, JobHolds, LineHolds, LeaderLine, PhaseHolds, Sound, IsSound}
use Rattle.replication_laws.specs.Confirms.{Stands, Awaits, IsGiven, IsBehind}
use Rattle.replication_laws.proofs.Logs.{goes_behind, begins_as, front_end, front_epoch, log_push}
use Rattle.replication_laws.proofs.Sounds.{seat_put, seat_else, count_put}
use Rattle.replication_laws.proofs.Followers.{leads_unique, is_up}
use Rattle.replication_laws.proofs.Walks.{commit_at}
use Rattle.replication_laws.proofs.Moves.{MoveOf, Stays, Opens, Falls_back, Adopts, log_begins}
use Rattle.replication_laws.proofs.Happenings.{event_goes, delivered_after}
use Rattle.replication_laws.proofs.Offerings.{opened_leader, offer_goes}
use Rattle.replication_laws.proofs.Joined.{event_sound, step_grows, committed_begins}

-- ---- an open leader's sequence

-- it is a log
pub sequence_log : (g : Tree) (w : ClusterState) (o k : ℕ) → Sound g o w → (seat w k).up ≡ true → is_opened (member w k).role ≡ true → IsLog (sequence_of (member w k))
sequence_log g w o k s up opens =
    let m = member w k in
    let h = s.each_member k in
    let x = opened_leader m.role opens in
    let l = x.0 in
    let lh : LeaderLine m.promise m.log m.job l = subst (LineHolds m.promise m.log m.job) x.1 (h.line up) in
    let same : sequence_of m ≡ (m.log ++ job_chunks m.job) ++ l.queue = ap (λ (r : MemberRole). m.log ++ (job_chunks m.job ++ role_chunks r)) x.1 ∙ sym (append_assoc m.log (job_chunks m.job) l.queue) in
    subst IsLog (sym same) (linked_join 0 0 (m.log ++ job_chunks m.job) l.queue (front m.job h.job) lh.goes_on)
  where
    m : MemberState
    m = member w k

    front : (j : Option Job) → JobHolds g w k m.promise m.log j → IsLog (m.log ++ job_chunks j)
    front None jh = subst IsLog (sym (append-nil m.log)) (s.each_member k).is_log
    front (Some (Promise e)) jh = subst IsLog (sym (append-nil m.log)) (s.each_member k).is_log
    front (Some (Epoch e)) jh = absurd jh
    front (Some (Cut to)) jh = subst IsLog (sym (append-nil m.log)) (s.each_member k).is_log
    front (Some (Write c)) jh = log_push m.log c (s.each_member k).is_log jh.0

-- the coordinator's leader leads the epoch
running_leads : (g : Tree) (w : ClusterState) (o e k : ℕ) → Sound g o w → RunsWith w e k → LeadsEpoch w e k
running_leads g w o e k s r =
    let ph : LeadsEpoch w (durable w) k = subst (PhaseHolds o w w.coordinator.told) r.phase s.coordinator.phase in
    subst (λ (n : ℕ). LeadsEpoch w n k) r.epoch_is ph

-- while an epoch runs its leader stays the same
pub same_leader : (g g' : Tree) (w w' : ClusterState) (o e k l : ℕ) → Sound g o w → Sound g' o w' → ((e : ℕ) (r : Reign) → reign w e ≡ Some r → reign w' e ≡ Some r) → RunsWith w e k → RunsWith w' e l → k ≡ l
same_leader g g' w w' o e k l s s' reigns a b =
    let x = running_leads g w o e k s a in
    leads_unique w' e k l (x.0, reigns e x.0 x.1, x.2) (running_leads g' w' o e l s' b)

-- and an open leader's sequence stays
open_stays : (canon : ℕ → List Chunk) (m n : MemberState) → is_opened n.role ≡ true → MoveOf canon m n → sequence_of n ≡ sequence_of m
open_stays canon m n opens (Stays e) = e
open_stays canon m n opens (Opens epoch stamp closed is e) = absurd (let both : true ≡ false = sym opens ∙ closed in cc)
open_stays canon m n opens (Falls_back closed p) = absurd (let both : true ≡ false = sym opens ∙ closed in cc)
open_stays canon m n opens (Adopts e closed p) = absurd (let both : true ≡ false = sym opens ∙ closed in cc)

pub sequence_stays : (o now e k l : ℕ) (w w' : ClusterState) → IsSound o w → ClusterStep now w w' → RunsWith w e k → RunsWith w' e l → (k ≡ l) × (sequence_of (member w' l) ≡ sequence_of (member w k))
sequence_stays o now e k l w w' s step a b =
    let n = (event_goes s.tree o now w w' s.sound step).next in
    let same = same_leader s.tree n.tree w w' o e k l s.sound n.after.sound n.after.reigns a b in
    (same, open_stays n.tree.canon (member w l) (member w' l) b.is_open (n.moves l) ∙ ap (λ (i : ℕ). sequence_of (member w i)) (sym same))

-- ---- a commit leaves the running leader as it is

-- what is due at a member is due at an opened leader
due_open : (g : Tree) (w : ClusterState) (o k : ℕ) → Sound g o w → (seat w k).up ≡ true → 0 < commit_end (member w k) → is_opened (member w k).role ≡ true
due_open g w o k s up some = go (member w k).role refl some
  where
    m : MemberState
    m = member w k

    go : (r : MemberRole) → m.role ≡ r → 0 < commit_by r m → is_opened m.role ≡ true
    go Stopped role h = absurd (omega (arith, h))
    go (Follower l) role h = absurd (omega (arith, h))
    go (Leader l) role h = by l.opened refl
      where
        by : (b : Bool) → l.opened ≡ b → is_opened m.role ≡ true
        by true e = ap is_opened role ∙ e
        by false e =
            let mh = s.each_member k in
            let lh : LeaderLine m.promise m.log m.job l = subst (LineHolds m.promise m.log m.job) role (mh.line up) in
            let c = commit_at m l mh.is_log in
            let low = front_epoch c.front m.log c.begins mh.is_log in
            let below = mh.below in
            elim c.due [
              | inl nil ↦ absurd (let z = ap end_of nil in let x = c.end_is in omega (arith, z, x, h))
              | inr d ↦ absurd ((lh.is_new e).0 (omega (arith, d.0, low, below)))
            ]

-- the committed list stays, or each epoch that runs with an open leader runs on
pub record Commits (w w' : ClusterState) : Type 0 where
  pub either : (w'.committed ≡ w.committed) ⊎ ((e k : ℕ) → RunsWith w e k → RunsWith w' e k)

took_commits : (o k : ℕ) (w : ClusterState) (t : Took) → IsSound o w → IsMember w k → IsSound o (took k t w) → ((e : ℕ) (r : Reign) → reign w e ≡ Some r → reign (took k t w) e ≡ Some r) → Commits w (took k t w)
took_commits o k w t s lt s' reigns = go (nat_lt (end_of w.committed) (commit_end (member x k))) refl
  where
    x : ClusterState
    x = send (put w k (is_up t.state)) t.sent

    w' : ClusterState
    w' = took k t w

    lt_is : (a b : ℕ) → nat_lt a b ≡ true → a < b
    lt_is a b h = grind arith

    there : seat w' k ≡ is_up t.state
    there = seat_put w k (is_up t.state) lt

    go : (b : Bool) → nat_lt (end_of w.committed) (commit_end (member x k)) ≡ b → Commits w w'
    go false e = record { either = inl (ap (λ (b : Bool). cond b (cut_at (commit_end (member x k)) (member x k).log) w.committed) e) }
    go true e = record { either = inr (λ e' l r. runs e' l r (cases_eq l k)) }
      where
        runs : (e' l : ℕ) → RunsWith w e' l → (l ≡ k) ⊎ (l ≡ k → ⊥) → RunsWith w' e' l
        runs e' l r (inr ne) = record {
          coordinated = r.coordinated;
          phase = r.phase;
          epoch_is = r.epoch_is;
          is_member = (r.is_member.0, (let c = count_put k (is_up t.state) w.seats in let le = r.is_member.1 in omega (arith, c, le)));
          leader_up = ap (λ (z : Seat). z.up) (seat_else w k l (is_up t.state) ne) ∙ r.leader_up;
          promised = ap (λ (z : Seat). z.state.promise) (seat_else w k l (is_up t.state) ne) ∙ r.promised;
          is_open = ap (λ (z : Seat). is_opened z.state.role) (seat_else w k l (is_up t.state) ne) ∙ r.is_open;
        }
        runs e' l r (inl eq) =
            let up : (seat w' l).up ≡ true = ap (λ (i : ℕ). (seat w' i).up) eq ∙ ap (λ (z : Seat). z.up) there in
            let some : 0 < commit_end (member w' l) = (let same = ap (λ (i : ℕ). commit_end (member w' i)) eq in let less = lt_is (end_of w.committed) (commit_end (member x k)) e in omega (arith, same, less)) in
            let opens = due_open s'.tree w' o l s'.sound up some in
            let led = running_leads s.tree w o e' l s.sound r in
            let low = (s'.sound.each_reign e' led.0 (reigns e' led.0 led.1)).led in
            let low' : e' ≤ (member w' l).promise = subst (λ (i : ℕ). e' ≤ (member w' i).promise) led.2 low in
            let high = (s'.sound.each_member l).not_ahead in
            let d = r.epoch_is in
            record {
              coordinated = r.coordinated;
              phase = r.phase;
              epoch_is = r.epoch_is;
              is_member = (r.is_member.0, (let c = count_put k (is_up t.state) w.seats in let le = r.is_member.1 in omega (arith, c, le)));
              leader_up = up;
              promised = omega (arith, low', high, d);
              is_open = opens;
            }

to_coordinator_list : (message : Message) (w : ClusterState) → (to_coordinator message w).committed ≡ w.committed
to_coordinator_list (messages.Stopped e from t) w = refl
to_coordinator_list (messages.Stop e) w = refl
to_coordinator_list (messages.Open e) w = refl
to_coordinator_list (messages.Follow e l) w = refl
to_coordinator_list (messages.Shape e runs) w = refl
to_coordinator_list (messages.Ask e from t) w = refl
to_coordinator_list (messages.Append e t c) w = refl

begins_list : (j : Option ℕ) (w : ClusterState) → (begins j w).committed ≡ w.committed
begins_list None w = refl
begins_list (Some e) w = refl

marked_sound : (o n : ℕ) (w : ClusterState) → IsSound o w → IsSound o (record w { mail = marked n w.mail })
marked_sound o n w s = record { tree = s.tree; sound = (delivered_after s.tree w o n s.sound).sound; reached = s.reached }

deliver_commits : (o now n to : ℕ) (m : Message) (w : ClusterState) → IsSound o w → IsFree w to → IsSound o (comes now to m (record w { mail = marked n w.mail }))
    → ((e : ℕ) (r : Reign) → reign w e ≡ Some r → reign (comes now to m (record w { mail = marked n w.mail })) e ≡ Some r) → Commits w (comes now to m (record w { mail = marked n w.mail }))
deliver_commits o now n zero m w s free s' reigns = record { either = inl (to_coordinator_list m (record w { mail = marked n w.mail })) }
deliver_commits o now n (suc i) m w s free s' reigns =
    let c = took_commits o (suc i) (record w { mail = marked n w.mail }) (taken now m (member w (suc i))) (marked_sound o n w s) free.0.0 s' reigns in
    record { either = elim c.either [ inl e ↦ inl e | inr f ↦ inr (λ e k r. f e k (record { coordinated = r.coordinated; phase = r.phase; epoch_is = r.epoch_is; is_member = r.is_member; leader_up = r.leader_up; promised = r.promised; is_open = r.is_open })) ] }

as_commits : (w x w' : ClusterState) → w' ≡ x → Commits w x → Commits w w'
as_commits w x w' e c = subst (Commits w) (sym e) c

event_commits : (o now : ℕ) (w w' : ClusterState) → IsSound o w → IsSound o w' → ((e : ℕ) (r : Reign) → reign w e ≡ Some r → reign w' e ≡ Some r) → ClusterStep now w w' → Commits w w'
event_commits o now w w' s s' reigns (Elect free lt eq) = record { either = inl (ap (λ (x : ClusterState). x.committed) eq) }
event_commits o now w w' s s' reigns (Deliver n x is free eq) =
    let y = comes now x.to x.message (record w { mail = marked n w.mail }) in
    as_commits w y w' eq (deliver_commits o now n x.to x.message w s free (subst (IsSound o) eq s') (subst (λ (z : ClusterState). (e : ℕ) (r : Reign) → reign w e ≡ Some r → reign z e ≡ Some r) eq reigns))
event_commits o now w w' s s' reigns (Lose n x is eq) = record { either = inl (ap (λ (x : ClusterState). x.committed) eq) }
event_commits o now w w' s s' reigns (Forget eq) = record { either = inl (ap (λ (x : ClusterState). x.committed) eq) }
event_commits o now w w' s s' reigns (Nudge eq) = record { either = inl (ap (λ (x : ClusterState). x.committed) eq) }
event_commits o now w w' s s' reigns (Done zero up eq) = record { either = inl (ap (λ (x : ClusterState). x.committed) eq ∙ begins_list w.coordinator.job w) }
event_commits o now w w' s s' reigns (Done (suc i) up eq) =
    let y = took (suc i) (finished (member w (suc i))) w in
    as_commits w y w' eq (took_commits o (suc i) w (finished (member w (suc i))) s up.0 (subst (IsSound o) eq s') (subst (λ (z : ClusterState). (e : ℕ) (r : Reign) → reign w e ≡ Some r → reign z e ≡ Some r) eq reigns))
event_commits o now w w' s s' reigns (Stop zero up eq) = record { either = inl (ap (λ (x : ClusterState). x.committed) eq) }
event_commits o now w w' s s' reigns (Stop (suc i) up eq) = record { either = inl (ap (λ (x : ClusterState). x.committed) eq) }
event_commits o now w w' s s' reigns (Restart k p log lt down held pe eq) = record { either = inl (ap (λ (x : ClusterState). x.committed) eq) }
event_commits o now w w' s s' reigns (Reopen epoch down may eq) = record { either = inl (ap (λ (x : ClusterState). x.committed) eq) }

-- ---- claims

-- one leader runs at a time
pub running_is : (w : ClusterState) (e f k l : ℕ) → RunsWith w e k → RunsWith w f l → k ≡ l
running_is w e f k l a b = (let p = a.phase in let q = b.phase in cc (p, q))

pub stands_on : (Says : List Chunk → Type 0) (end : ℕ) (a b : List Chunk) → GoesOn a b → Stands Says end a → Stands Says end b
stands_on Says end a b p h = record { front = h.front; begins = goes_on h.front a b h.begins p; end_is = h.end_is; says = h.says }

pub stands_back : (Says : List Chunk → Type 0) (end : ℕ) (a b : List Chunk) → GoesOn b a → IsLog a → end ≤ end_of b → Stands Says end a → Stands Says end b
stands_back Says end a b p l le h = record { front = h.front; begins = shorter_begins h.front b a h.begins p l (let e = h.end_is in omega (arith, e, le)); end_is = h.end_is; says = h.says }

pub stands_end : (Says : List Chunk → Type 0) (end : ℕ) (a : List Chunk) → IsLog a → Stands Says end a → end ≤ end_of a
stands_end Says end a l h = (let z = front_end h.front a h.begins l in let e = h.end_is in omega (arith, z, e))

-- the committed list begins the open leader's sequence
pub committed_in : (o e k : ℕ) (w : ClusterState) → IsSound o w → RunsWith w e k → GoesOn w.committed (sequence_of (member w k))
committed_in o e k w s r = goes_on w.committed (member w k).log (sequence_of (member w k)) (committed_begins o e k w s r) (log_begins (member w k))

-- what is true of the open leader's sequence waits, or stands at once
pub claim_made : (Says : List Chunk → Type 0) (o e k : ℕ) (w : ClusterState) → IsSound o w → RunsWith w e k → Says (sequence_of (member w k))
    → (end_of (sequence_of (member w k)) ≤ end_of w.committed → Stands Says (end_of (sequence_of (member w k))) w.committed)
    × (end_of w.committed < end_of (sequence_of (member w k)) → Awaits Says e (end_of (sequence_of (member w k))) w)
claim_made Says o e k w s r says =
    let seq = sequence_of (member w k) in
    let h : Stands Says (end_of seq) seq = record { front = seq; begins = goes_same seq; end_is = refl; says = says } in (
      λ le. stands_back Says (end_of seq) seq w.committed (committed_in o e k w s r) (sequence_log s.tree w o k s.sound r.leader_up r.is_open) le h,
      λ lt. record { leader = k; runs = r; past = lt; stands = h },
    )

pub claim_moves : (Says : List Chunk → Type 0) (o e end : ℕ) (w w' : ClusterState) → IsSound o w → AnyStep w w' → Awaits Says e end w
    → (end ≤ end_of w'.committed → Stands Says end w'.committed) × ((l : ℕ) → end_of w'.committed < end → RunsWith w' e l → Awaits Says e end w')
claim_moves Says o e end w w' s (Happens now step) a =
    let s' = event_sound o now w w' s step in
    let n = (event_goes s.tree o now w w' s.sound step).next in
    let k = a.leader in (
      λ le. elim (event_commits o now w w' s s' n.after.reigns step).either [
        | inl same ↦ absurd (let z = ap end_of same in let p = a.past in omega (arith, z, p, le))
        | inr on ↦
            let r' = on e k a.runs in
            let seq = (sequence_stays o now e k k w w' s step a.runs r').1 in
            let there : Stands Says end (sequence_of (member w' k)) = subst (Stands Says end) (sym seq) a.stands in
            stands_back Says end (sequence_of (member w' k)) w'.committed (committed_in o e k w' s' r') (sequence_log s'.tree w' o k s'.sound r'.leader_up r'.is_open) le there
      ],
      λ l lt r'. let x = sequence_stays o now e k l w w' s step a.runs r' in
          record { leader = l; runs = r'; past = lt; stands = subst (Stands Says end) (sym x.1) a.stands },
    )
claim_moves Says o e end w w' s (Takes now step) a =
    let x = offer_goes s.tree o now w w' s.sound step in
    let k = a.leader in
    let led : x.leader ≡ k = running_is w x.epoch e x.leader k x.runs a.runs in
    let seq : sequence_of (member w' x.leader) ≡ sequence_of (member w x.leader) ++ x.chunks = x.sequence in
    let there : Stands Says end (sequence_of (member w x.leader)) = subst (λ (i : ℕ). Stands Says end (sequence_of (member w i))) (sym led) a.stands in
    let now_there : Stands Says end (sequence_of (member w' x.leader)) =
    stands_on Says end (sequence_of (member w x.leader)) (sequence_of (member w' x.leader)) (begins_as (sequence_of (member w x.leader)) (sequence_of (member w x.leader) ++ x.chunks) (sequence_of (member w' x.leader)) (sym seq) (goes_behind (sequence_of (member w x.leader)) x.chunks)) there in (
      λ le. absurd (let z = ap end_of x.committed_is in let p = a.past in omega (arith, z, p, le)),
      λ l lt r'. record { leader = l; runs = r'; past = lt; stands = subst (λ (i : ℕ). Stands Says end (sequence_of (member w' i))) (running_is w' x.epoch e x.leader l x.still_runs r') now_there },
    )

pub claim_stays : (Says : List Chunk → Type 0) (o end : ℕ) (w w' : ClusterState) → IsSound o w → AnyStep w w' → Stands Says end w.committed → Stands Says end w'.committed
claim_stays Says o end w w' s step h = stands_on Says end w.committed w'.committed (step_grows o w w' s step) h

-- what was given ends within the sequence: so what comes next begins behind it
pub given_within : (Says : List Chunk → Type 0) (o e k end : ℕ) (w : ClusterState) → IsSound o w → RunsWith w e k → IsGiven Says end w → end ≤ end_of (sequence_of (member w k))
given_within Says o e k end w s r (inl (e', a)) =
    let same = running_is w e' e a.leader k a.runs r in
    stands_end Says end (sequence_of (member w k)) (sequence_log s.tree w o k s.sound r.leader_up r.is_open) (subst (λ (i : ℕ). Stands Says end (sequence_of (member w i))) same a.stands)
given_within Says o e k end w s r (inr h) =
    stands_end Says end (sequence_of (member w k)) (sequence_log s.tree w o k s.sound r.leader_up r.is_open) (stands_on Says end w.committed (sequence_of (member w k)) (committed_in o e k w s r) h)

-- an offer goes behind the open leader's sequence, whose epoch runs on
pub offer_goes_behind : (o now : ℕ) (w w' : ClusterState) → IsSound o w → OfferStep now w w' → IsBehind w w'
offer_goes_behind o now w w' s step =
    let x = offer_goes s.tree o now w w' s.sound step in
    record { epoch = x.epoch; leader = x.leader; chunks = x.chunks; runs = x.runs; still_runs = x.still_runs; sequence = x.sequence; linked = x.go_on.linked; each = x.go_on.each; committed_is = x.committed_is }

pub open_sequence_log : (o e k : ℕ) (w : ClusterState) → IsSound o w → RunsWith w e k → IsLog (sequence_of (member w k))
open_sequence_log o e k w s r = sequence_log s.tree w o k s.sound r.leader_up r.is_open
