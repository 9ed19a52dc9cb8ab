-- What members do that don't lead: stops, promises, follows, Appends, Shapes, Cuts and restarts.
use Rattle.std.proofs.Common.{◌≡◌, ℕ, ◌<◌, ◌≤◌, ◌⊎◌, ◌≢◌, List, [], ◌∷◌, ◌++◌, refl, sym, ap, subst, ◌∙◌, inl, inr, arith, Option, Some, None, Bool, true, false}
use Rattle.chunk_format.specs.declared.chunk.Chunk.{Chunk}
use Rattle.chunk_format.specs.Logs.{GoesOn, end_of, last_epoch, HasRun}
use Rattle.chunk_format.proofs.LinkLaws.{epoch_push}
use Rattle.chunk_format.proofs.BeginLaws.{goes_same, goes_on, log_front, same_end, shorter_begins}
use Rattle.epoch_coordinator.specs.declared.tail.Tail.{Tail}
use Rattle.epoch_coordinator.specs.declared.tail.Run.{Run}
use Rattle.epoch_coordinator.specs.declared.message.Job.{Job}
use Rattle.epoch_coordinator.specs.declared.message.Job.TheVariants.{Write, Cut, Promise, Epoch}
use Rattle.epoch_coordinator.specs.declared.message.Message.TheVariants as messages
use Rattle.epoch_coordinator.specs.declared.message.Sent.{Sent}
use Rattle.epoch_coordinator.specs.Tails.{tail_of, has_run}
use Rattle.epoch_coordinator.specs.Members.{MemberState, Stopped, Follower}
use Rattle.epoch_coordinator.specs.MemberSteps.{mail}
use Rattle.replication_laws.specs.Cluster.{Seat, Reign, ClusterState, seat, member, IsMember, put, durable, reign, InRuns, send, HoldsBy, Holds, MayPromise}
use Rattle.replication_laws.specs.Soundness.{Tree, IsRooted, IsMark, Follows, LeadsEpoch, HasReign, AppendHolds, IsRest, IsQuiet, MessageHolds, JobHolds, TreeHolds, Sound, ShapeHolds, TailMark}
use Rattle.replication_laws.proofs.Logs.{goes_one, same_begins, front_below, log_push, push_follows, run_front, nil_or, run_epoch, IsTree, rooted_front, rooted_order, run_gives}
use Rattle.replication_laws.proofs.Carry.{is_tree, job_on, held_log, held_below, holds_log, self_mark}
use Rattle.replication_laws.proofs.Sounds.{After, member_put, keeps_by_cover, put_sound}

pub leads_unique : (w : ClusterState) (e k l : ℕ) → LeadsEpoch w e k → LeadsEpoch w e l → k ≡ l
leads_unique w e k l a b = cc (a.1, b.1, a.2, b.2)

-- ---- what a member tells of its log

pub mark_reached : (g : Tree) (w : ClusterState) (o e m : ℕ) (log : List Chunk) → TreeHolds g w o → IsRooted g.canon log
    → last_epoch log ≡ e → m ≤ end_of log → IsMark g.canon e m → HasRun log e m
mark_reached g w o e m log t r te le mark =
    let pre : GoesOn mark.upto log = rooted_order g.canon mark.upto log (is_tree g w o t) (t.rooted e mark.upto mark.begins) r (mark.epoch_is ∙ sym te) (omega (arith, mark.end_is)) in
    run_front mark.upto log e m pre mark.run

pub reign_run : (g : Tree) (w : ClusterState) (o e : ℕ) (log : List Chunk) → TreeHolds g w o → HasReign w e → last_epoch log ≡ e → HasRun log (last_epoch log) (end_of log)
reign_run g w o e log t has te =
    let later = t.reigns_later e has in
    elim (nil_or log) [ inl nil ↦ (let z : 0 ≡ e = rw nil at te in absurd (omega arith)) | inr run ↦ run ]

pub tail_mark : (g : Tree) (log : List Chunk) → IsRooted g.canon log → TailMark g (tail_of log)
tail_mark g log r = elim (nil_or log) [ inl nil ↦ inl (ap tail_of nil) | inr run ↦ inr (self_mark g log r run) ]

-- an Ask that a member sends when it is another
pub ask_made : (g : Tree) (w : ClusterState) (o k e to : ℕ) (s : Seat) (ms : List Sent) → Sound g o w → IsMember w k → HasReign w e
    → s.state.promise ≡ e → (member w k).promise ≤ e → (last_epoch s.state.log ≡ e → (h : List Chunk) → Holds s.state h → GoesOn s.state.log h) → IsRooted g.canon s.state.log
    → MessageHolds g (send (put w k s) ms) to (messages.Ask e k (tail_of s.state.log))
ask_made g w o k e to s ms so lt has pe old only rooted = (
  λ te. (
    record {
      has_reign = has;
      promised = rw (member_put w k s lt) (omega arith);
      mark = rw te at (self_mark g s.state.log rooted (reign_run g w o e s.state.log so.tree has te));
      stands = λ at mark le. inl (rw (member_put w k s lt) (λ h x. run_front s.state.log h e at (only te h x) (mark_reached g w o e at s.state.log so.tree rooted te le mark)));
    },
    λ at q r mark le is later elector. let x = (so.each_reign q r is).promised k elector in absurd (omega arith),
  ),
  has,
  tail_mark g s.state.log rooted,
)

-- a message that names its sender by a number that is the member's own
pub asked_as : (g : Tree) (w : ClusterState) (to e k n : ℕ) (t : Tail) → n ≡ k → MessageHolds g w to (messages.Ask e k t) → MessageHolds g w to (messages.Ask e n t)
asked_as g w to e k n t same h = subst (λ (x : ℕ). MessageHolds g w to (messages.Ask e x t)) (sym same) h

pub stopped_as : (g : Tree) (w : ClusterState) (to e k n : ℕ) (t : Tail) → n ≡ k → MessageHolds g w to (messages.Stopped e k t) → MessageHolds g w to (messages.Stopped e n t)
stopped_as g w to e k n t same h = subst (λ (x : ℕ). MessageHolds g w to (messages.Stopped e x t)) (sym same) h

pub calm_tail : (m : MemberState) (log : List Chunk) → IsQuiet m.job → Holds m log → tail_of log ≡ tail_of m.log
calm_tail m log q h = go m.job q h
  where
    go : (j : Option Job) → IsQuiet j → HoldsBy j m.log log → tail_of log ≡ tail_of m.log
    go None q h = ap tail_of h
    go (Some (Promise e)) q h = ap tail_of h
    go (Some (Epoch e)) q h = ap tail_of h
    go (Some (Write c)) q h = absurd q
    go (Some (Cut to)) q h = absurd q

-- ---- Stop and Promise

-- a member that is up, as this
abbrev pub is_up : MemberState → Seat
is_up m = record { up = true; state = m }

-- Stop above the promise
pub take_stop : (g : Tree) (w : ClusterState) (o k e : ℕ) → Sound g o w → IsMember w k → (member w k).job ≡ None → (member w k).promise < e → e ≤ durable w
    → After g o w g (send (put w k (is_up (record (member w k) { role = Stopped; job = Some (Promise e) }))) [])
take_stop g w o k e s lt job up dur =
    let m = member w k in
    let n : MemberState = record m { role = Stopped; job = Some (Promise e) } in
    let h = s.each_member k in
    put_sound g w o k (is_up n) [] s lt (refl, refl) (omega arith)
    (keeps_by_cover g w m n (λ x y. (m.log, holds_log g w k (seat w k) h, same_begins m.log x (sym y))))
    (λ x y. inl (m.log, holds_log g w k (seat w k) h, same_begins x m.log y))
    (λ c. inr (inr (refl, (tt, tt), refl)))
    (λ a. record { is_log = h.is_log; below = h.below; not_ahead = h.not_ahead; rooted = h.rooted; job = (up, dur); role = tt; leads = h.leads; line = λ _. tt })
    (λ a. tt)

-- the promise is on the disk
pub done_promise : (g : Tree) (w : ClusterState) (o k e : ℕ) → Sound g o w → IsMember w k → (member w k).job ≡ Some (Promise e) → (member w k).role ≡ Stopped
    → After g o w g (send (put w k (is_up (record (member w k) { promise = e; job = None }))) (mail 0 (messages.Stopped e (member w k).number (tail_of (member w k).log)) ∷ []))
done_promise g w o k e s lt job role =
    let m = member w k in
    let n : MemberState = record m { promise = e; job = None } in
    let ms = mail 0 (messages.Stopped e m.number (tail_of m.log)) ∷ [] in
    let w' = send (put w k (is_up n)) ms in
    let h = s.each_member k in
    let jh : (m.promise < e) × (e ≤ durable w) = rw job at h.job in
    put_sound g w o k (is_up n) ms s lt (refl, refl) (omega (arith, jh.0))
    (keeps_by_cover g w m n (λ x y. (m.log, holds_log g w k (seat w k) h, same_begins m.log x (sym y))))
    (λ x y. inl (m.log, holds_log g w k (seat w k) h, same_begins x m.log y))
    (λ c. inr (inl jh.0))
    (λ a. record {
      is_log = h.is_log;
      below = omega (arith, h.below, jh.0);
      not_ahead = jh.1;
      rooted = h.rooted;
      job = tt;
      role = rw role tt;
      leads = λ l. let x = (s.each_reign e l.0 l.1).led in let y : e ≤ m.promise = rw l.2 at x in absurd (omega (arith, jh.0));
      line = λ _. rw role tt;
    })
    (λ a. (
      stopped_as g w' 0 e k m.number (tail_of m.log) (s.named k lt).0
          (rw (member_put w k (is_up n) lt) (omega arith), inr (inr (rw (member_put w k (is_up n) lt) (refl, (tt, rw role tt), refl)))),
      tt,
    ))

-- ---- Follow

pub take_follow : (g : Tree) (w : ClusterState) (o k e l : ℕ) → Sound g o w → IsMember w k → (member w k).job ≡ None → (member w k).role ≡ Stopped → (member w k).promise ≡ e
    → LeadsEpoch w e l → (k ≢ l)
    → After g o w g (send (put w k (is_up (record (member w k) { role = Follower l }))) (mail l (messages.Ask (member w k).promise (member w k).number (tail_of (member w k).log)) ∷ []))
take_follow g w o k e l s lt job role pe leads ne =
    let m = member w k in
    let n : MemberState = record m { role = Follower l } in
    let ms = mail l (messages.Ask m.promise m.number (tail_of m.log)) ∷ [] in
    let w' = send (put w k (is_up n)) ms in
    let h = s.each_member k in
    put_sound g w o k (is_up n) ms s lt (refl, refl) (omega arith)
    (keeps_by_cover g w m n (λ x y. (x, y, goes_same x)))
    (λ x y. inl (x, y, goes_same x))
    (λ c. inl (rw pe (leads.0, leads.1)))
    (λ a. record { is_log = h.is_log; below = h.below; not_ahead = h.not_ahead; rooted = h.rooted; job = h.job; role = (rw pe leads, ne); leads = h.leads; line = λ _. rw job tt })
    (λ a. (
      asked_as g w' l m.promise k m.number (tail_of m.log) (s.named k lt).0
          (ask_made g w o k m.promise l (is_up n) ms s lt (rw pe (leads.0, leads.1)) refl (omega arith)
          (λ te x y. let z : HoldsBy None m.log x = rw job at y in same_begins m.log x (sym z)) h.rooted),
      tt,
    ))

-- ---- Append

-- what an Append goes on from is the log of the same tail
pub append_same : (g : Tree) (w : ClusterState) (o k e : ℕ) (c : Chunk) → Sound g o w → (app : AppendHolds g w e (tail_of (member w k).log) c) → app.before ≡ (member w k).log
append_same g w o k e c s app =
    let m = member w k in
    let h = s.each_member k in
    let tree : IsTree g.canon = is_tree g w o s.tree in
    let pre : IsRooted g.canon app.before = s.tree.rooted c.epoch app.before (goes_on app.before (app.before ++ c ∷ []) (g.canon c.epoch) (goes_one app.before c) app.begins) in
    let t = app.tail_is in
    let ends : end_of app.before ≡ end_of m.log = ap (λ (t : Tail). t.end) t in
    let one : GoesOn app.before m.log = rooted_order g.canon app.before m.log tree pre h.rooted (ap (λ (t : Tail). t.epoch) t) (omega (arith, ends)) in
    sym (same_end app.before m.log one h.is_log (omega (arith, ends)))

-- a follower's Append is the next job
pub take_append : (g : Tree) (w : ClusterState) (o k e l : ℕ) (c : Chunk) → Sound g o w → IsMember w k → (member w k).job ≡ None → (member w k).role ≡ Follower l
    → (member w k).promise ≡ e → AppendHolds g w e (tail_of (member w k).log) c
    → After g o w g (send (put w k (is_up (record (member w k) { job = Some (Write c) }))) [])
take_append g w o k e l c s lt job role pe app =
    let m = member w k in
    let n : MemberState = record m { job = Some (Write c) } in
    let h = s.each_member k in
    let rh : LeadsEpoch w m.promise l × (k ≢ l) = rw role at h.role in
    let same = append_same g w o k e c s app in
    let le : c.epoch ≤ m.promise = rw pe app.not_above in
    let own : GoesOn (m.log ++ c ∷ []) (g.canon c.epoch) = subst (λ (x : List Chunk). GoesOn (x ++ c ∷ []) (g.canon c.epoch)) same app.begins in
    let from : GoesOn (m.log ++ c ∷ []) (g.canon m.promise) = rw pe (subst (λ (x : List Chunk). GoesOn (x ++ c ∷ []) (g.canon e)) same app.sent_from) in
    let follows : Follows m.log c = push_follows m.log c (log_front (m.log ++ c ∷ []) (g.canon c.epoch) own (s.tree.logs c.epoch)) in
    let last : last_epoch (m.log ++ c ∷ []) ≡ c.epoch = epoch_push m.log c in
    put_sound g w o k (is_up n) [] s lt (refl, refl) (omega arith)
    (keeps_by_cover g w m n (λ x y. elim y [ inl z ↦ (m.log, holds_log g w k (seat w k) h, same_begins m.log x (sym z)) | inr z ↦ (m.log, holds_log g w k (seat w k) h, (c ∷ [], z)) ]))
    (λ x y. elim y [
      | inl z ↦ inl (m.log, holds_log g w k (seat w k) h, same_begins x m.log z)
      | inr z ↦ inr (m.promise, (rh.0.0, rh.0.1), (let at : last_epoch x ≡ c.epoch = ap last_epoch z ∙ last in omega (arith, at, le)), inl (subst (λ (q : List Chunk). GoesOn q (g.canon m.promise)) (sym z) from))
    ])
    (λ q. let z : IsRest (Follower l) = rw role at q.1 in absurd z)
    (λ a. record {
      is_log = h.is_log;
      below = h.below;
      not_ahead = h.not_ahead;
      rooted = h.rooted;
      job = (follows, le, (rh.0.0, rh.0.1), inr ((λ x. rh.1 (leads_unique w m.promise k l x rh.0)), subst (λ (q : ℕ). GoesOn (m.log ++ c ∷ []) (g.canon q)) (sym last) own));
      role = rw role rh;
      leads = h.leads;
      line = λ _. rw role tt;
    })
    (λ a. tt)

-- a follower's chunk is written
pub done_append : (g : Tree) (w : ClusterState) (o k l : ℕ) (c : Chunk) → Sound g o w → IsMember w k → (member w k).job ≡ Some (Write c) → (member w k).role ≡ Follower l
    → After g o w g (send (put w k (is_up (record (member w k) { log = (member w k).log ++ c ∷ []; job = None }))) (mail l (messages.Ask (member w k).promise (member w k).number (tail_of ((member w k).log ++ c ∷ []))) ∷ []))
done_append g w o k l c s lt job role =
    let m = member w k in
    let n : MemberState = record m { log = m.log ++ c ∷ []; job = None } in
    let ms = mail l (messages.Ask m.promise m.number (tail_of (m.log ++ c ∷ []))) ∷ [] in
    let w' = send (put w k (is_up n)) ms in
    let h = s.each_member k in
    let rh : LeadsEpoch w m.promise l × (k ≢ l) = rw role at h.role in
    let never : LeadsEpoch w m.promise k → ⊥ = λ x. rh.1 (leads_unique w m.promise k l x rh.0) in
    let jh : JobHolds g w k m.promise m.log (Some (Write c)) = rw job at h.job in
    let rooted : IsRooted g.canon (m.log ++ c ∷ []) = elim jh.3 [ inl x ↦ absurd (never x.1) | inr x ↦ x.1 ] in
    put_sound g w o k (is_up n) ms s lt (refl, refl) (omega arith)
    (keeps_by_cover g w m n (λ x y. (m.log ++ c ∷ [], rw job (inr refl), same_begins (m.log ++ c ∷ []) x (sym y))))
    (λ x y. inl (m.log ++ c ∷ [], rw job (inr refl), same_begins x (m.log ++ c ∷ []) y))
    (λ q. let z : IsRest (Follower l) = rw role at q.1 in absurd z)
    (λ a. record {
      is_log = log_push m.log c h.is_log jh.0;
      below = (let last = epoch_push m.log c in let le = jh.1 in omega arith);
      not_ahead = h.not_ahead;
      rooted = rooted;
      job = tt;
      role = rw role rh;
      leads = λ x. absurd (never x);
      line = λ _. rw role tt;
    })
    (λ a. (
      asked_as g w' l m.promise k m.number (tail_of (m.log ++ c ∷ [])) (s.named k lt).0
          (ask_made g w o k m.promise l (is_up n) ms s lt (rh.0.0, rh.0.1) refl (omega arith) (λ te x y. same_begins (m.log ++ c ∷ []) x (sym y)) rooted),
      tt,
    ))

-- ---- Shape and Cut

pub runs_either : (runs : List Run) (e m : ℕ) → InRuns runs e m ⊎ (InRuns runs e m → ⊥)
runs_either runs e m = go (has_run runs (record { epoch = e; end = m })) refl
  where
    go : (b : Bool) → has_run runs (record { epoch = e; end = m }) ≡ b → InRuns runs e m ⊎ (InRuns runs e m → ⊥)
    go true h = inl h
    go false h = inr (λ x. let z : true ≡ false = sym x ∙ h in absurd cc)

-- a follower begins to cut
pub take_shape : (g : Tree) (w : ClusterState) (o k e l : ℕ) (r : Reign) (runs : List Run) (p : List Chunk) → Sound g o w → IsMember w k → (member w k).job ≡ None → (member w k).role ≡ Follower l
    → (member w k).promise ≡ e → last_epoch (member w k).log ≢ e → reign w e ≡ Some r → ShapeHolds g e runs
    → GoesOn p (member w k).log
    → ((q : List Chunk) → GoesOn q (member w k).log → InRuns runs (last_epoch q) (end_of q) → end_of q ≤ end_of p)
    → After g o w g (send (put w k (is_up (record (member w k) { job = Some (Cut (end_of p)) }))) [])
take_shape g w o k e l r runs p s lt job role pe ne is shape pre longest =
    let m = member w k in
    let n : MemberState = record m { job = Some (Cut (end_of p)) } in
    let h = s.each_member k in
    let tree = is_tree g w o s.tree in
    let rh : LeadsEpoch w m.promise l × (k ≢ l) = rw role at h.role in
    let never : LeadsEpoch w m.promise k → ⊥ = λ x. rh.1 (leads_unique w m.promise k l x rh.0) in
    put_sound g w o k (is_up n) [] s lt (refl, refl) (omega arith)
    (λ d at mark all.
    let run : HasRun m.log d at = all m.log (holds_log g w k (seat w k) h) in
    let low = run_epoch m.log d at h.is_log run in
    let b = h.below in
    let ru : IsRooted g.canon mark.upto = s.tree.rooted d mark.upto mark.begins in
    let up : GoesOn mark.upto m.log = run_gives g.canon mark.upto m.log tree ru h.rooted (rw (mark.epoch_is, mark.end_is) run) in
    elim (runs_either runs d at) [
      | inl has ↦ inl (λ x y.
          let far = longest mark.upto up (rw (mark.epoch_is, mark.end_is) has) in
          run_front mark.upto x d at
          (shorter_begins mark.upto x m.log up y.0 h.is_log (omega (arith, far, y.1))) mark.run)
      | inr lacks ↦ inr (record { at = e; by = r; is_reign = is; later = omega (arith, low, b, pe, ne); not_after = omega (arith, pe); lacks = λ z. lacks ((shape d at).1 (((s.each_reign e r is).runs d at).0 z)) })
    ])
    (λ x y. inl (m.log, holds_log g w k (seat w k) h, y.0))
    (λ q. let z : IsRest (Follower l) = rw role at q.1 in absurd z)
    (λ a. record {
      is_log = h.is_log;
      below = h.below;
      not_ahead = h.not_ahead;
      rooted = h.rooted;
      job = ((rh.0.0, rh.0.1), never, (p, pre, refl), rw pe ne);
      role = rw role rh;
      leads = h.leads;
      line = λ _. rw role tt;
    })
    (λ a. tt)

-- a follower's log is cut
pub done_cut : (g : Tree) (w : ClusterState) (o k l to : ℕ) (p : List Chunk) → Sound g o w → IsMember w k → (member w k).job ≡ Some (Cut to) → (member w k).role ≡ Follower l
    → GoesOn p (member w k).log → to ≤ end_of p
    → After g o w g (send (put w k (is_up (record (member w k) { log = p; job = None }))) (mail l (messages.Ask (member w k).promise (member w k).number (tail_of p)) ∷ []))
done_cut g w o k l to p s lt job role pre at =
    let m = member w k in
    let n : MemberState = record m { log = p; job = None } in
    let ms = mail l (messages.Ask m.promise m.number (tail_of p)) ∷ [] in
    let w' = send (put w k (is_up n)) ms in
    let h = s.each_member k in
    let rh : LeadsEpoch w m.promise l × (k ≢ l) = rw role at h.role in
    let never : LeadsEpoch w m.promise k → ⊥ = λ x. rh.1 (leads_unique w m.promise k l x rh.0) in
    let rooted : IsRooted g.canon p = rooted_front g.canon p m.log (is_tree g w o s.tree) h.rooted pre in
    put_sound g w o k (is_up n) ms s lt (refl, refl) (omega arith)
    (keeps_by_cover g w m n (λ x y. (p, rw job (pre, at), same_begins p x (sym y))))
    (λ x y. inl (p, rw job (pre, at), same_begins x p y))
    (λ q. let z : IsRest (Follower l) = rw role at q.1 in absurd z)
    (λ a. record {
      is_log = log_front p m.log pre h.is_log;
      below = front_below p m.log m.promise pre h.is_log h.below;
      not_ahead = h.not_ahead;
      rooted = rooted;
      job = tt;
      role = rw role rh;
      leads = λ x. absurd (never x);
      line = λ _. rw role tt;
    })
    (λ a. (
      asked_as g w' l m.promise k m.number (tail_of p) (s.named k lt).0
          (ask_made g w o k m.promise l (is_up n) ms s lt (rh.0.0, rh.0.1) refl (omega arith) (λ te x y. same_begins p x (sym y)) rooted),
      tt,
    ))

-- ---- stops and restarts

-- a member stops, with what its disk may have
pub stop_member : (g : Tree) (w : ClusterState) (o k : ℕ) → Sound g o w → IsMember w k
    → After g o w g (send (put w k (record { up = false; state = record (member w k) { role = Stopped } })) [])
stop_member g w o k s lt =
    let m = member w k in
    let n : MemberState = record m { role = Stopped } in
    let h = s.each_member k in
    put_sound g w o k (record { up = false; state = n }) [] s lt (refl, refl) (omega arith)
    (keeps_by_cover g w m n (λ x y. (x, y, goes_same x)))
    (λ x y. inl (x, y, goes_same x))
    (λ q. inr (inr (refl, (q.0, tt), refl)))
    (λ a. record {
      is_log = h.is_log;
      below = h.below;
      not_ahead = h.not_ahead;
      rooted = h.rooted;
      job = job_on g g w (send (put w k (record { up = false; state = n })) []) k m.promise m.log a (λ l. l) m.job h.job;
      role = tt;
      leads = h.leads;
      line = λ z. absurd cc;
    })
    (λ a. tt)

-- a member comes back with a log that is rooted: where it leads, with its log
pub restart : (g : Tree) (w : ClusterState) (o k p : ℕ) (log : List Chunk) → Sound g o w → IsMember w k
    → Holds (member w k) log → IsRooted g.canon log → (LeadsEpoch w (member w k).promise k → log ≡ (member w k).log)
    → MayPromise (member w k) p
    → After g o w g (send (put w k (is_up (record (member w k) { role = Stopped; promise = p; log = log; job = None }))) [])
restart g w o k p log s lt held rooted lead pe =
    let m = member w k in
    let n : MemberState = record m { role = Stopped; promise = p; log = log; job = None } in
    let h = s.each_member k in
    let low : last_epoch log ≤ m.promise = held_below g w k (seat w k) h log held in
    let up : (m.promise ≤ p) × (p ≤ durable w) = elim pe [
      | inl e ↦ (omega (arith, e), omega (arith, e, h.not_ahead))
      | inr j ↦ (let jh : JobHolds g w k m.promise m.log (Some (Promise p)) = rw j at h.job in (omega (arith, jh.0), jh.1))
    ] in
    put_sound g w o k (is_up n) [] s lt (refl, refl) up.0
    (keeps_by_cover g w m n (λ x y. (log, held, same_begins log x (sym y))))
    (λ x y. inl (log, held, same_begins x log y))
    (λ q. elim pe [
      | inl e ↦ inr (inr (e, (tt, tt), calm_tail m log q.0 held))
      | inr j ↦ (let jh : JobHolds g w k m.promise m.log (Some (Promise p)) = rw j at h.job in inr (inl jh.0))
    ])
    (λ a. record {
      is_log = held_log g w k (seat w k) h log held;
      below = omega (arith, low, up.0);
      not_ahead = up.1;
      rooted = rooted;
      job = tt;
      role = tt;
      leads = λ ld. elim pe [
        | inl e ↦ (let ld' : LeadsEpoch w m.promise k = rw e at ld in rw (e, lead ld') (h.leads ld'))
        | inr j ↦ (let x = (s.each_reign p ld.0 ld.1).led in let y : p ≤ m.promise = rw ld.2 at x in
            let jh : JobHolds g w k m.promise m.log (Some (Promise p)) = rw j at h.job in absurd (omega (arith, jh.0)))
      ];
      line = λ _. tt;
    })
    (λ a. tt)
