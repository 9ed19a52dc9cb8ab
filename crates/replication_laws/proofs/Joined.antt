-- What each step, and each list of steps, leaves of a sound stream.
use Rattle.std.proofs.Common.{◌≡◌, ℕ, ◌≤◌, List, [], ◌∷◌, length, sym, ap, subst, inl, inr, arith, Some, None, true, zero, suc}
use Rattle.std.specs.List.{AllByRecursion}
use Rattle.std.proofs.lemmas.Bool.{cases_lt}
use Rattle.chunk_format.specs.declared.chunk.Chunk.{Chunk}
use Rattle.chunk_format.specs.Logs.{GoesOn, last_epoch}
use Rattle.chunk_format.proofs.BeginLaws.{goes_on}
use Rattle.epoch_coordinator.specs.declared.message.Sent.{Sent}
use Rattle.epoch_coordinator.specs.MemberSteps.{taken, finished}
use Rattle.replication_laws.specs.Cluster.{ClusterState, seat, member, IsMember, put, durable, send, letter_in, marked, is_opened, RunsWith}
use Rattle.replication_laws.specs.Events.{committed_by, IsFree, ClusterStep, OfferStep, AnyStep, Happens, Takes, Steps}
use Rattle.replication_laws.specs.Soundness.{Tree, MessageHolds, LeadsEpoch, LeaderLine, LineHolds, LeaderHolds, RoleHolds, Kept, Sound, IsCommitted, IsSound, IsSoundBeforeCommit, StaysKept}
use Rattle.replication_laws.proofs.Logs.{begins_as, same_begins, front_below}
use Rattle.replication_laws.proofs.Meetings.{majorities}
use Rattle.replication_laws.proofs.Carry.{holds_log, kept_rooted}
use Rattle.replication_laws.proofs.Sounds.{After}
use Rattle.replication_laws.proofs.Followers.{is_up}
use Rattle.replication_laws.proofs.Takings.{taken_sound}
use Rattle.replication_laws.proofs.Finishings.{finished_sound}
use Rattle.replication_laws.proofs.Commits.{kept_order}
use Rattle.replication_laws.proofs.Happenings.{commits_sound, delivered_after, delivered_holds, event_goes}
use Rattle.replication_laws.proofs.Offerings.{opened_leader, offer_goes}

-- what any step gives
pub record Stepped (g : Tree) (o : ℕ) (w w' : ClusterState) : Type 0 where
  pub tree : Tree
  pub after : After g o w tree w'
  pub grows : GoesOn w.committed w'.committed
  pub reached : IsCommitted w → IsCommitted w'

pub stepped : (g : Tree) (o : ℕ) (w w' : ClusterState) → Sound g o w → AnyStep w w' → Stepped g o w w'
stepped g o w w' s (Happens now step) =
    let x = event_goes g o now w w' s step in
    record { tree = x.next.tree; after = x.next.after; grows = x.next.grows; reached = x.reached }
stepped g o w w' s (Takes now step) =
    let x = offer_goes g o now w w' s step in
    record { tree = g; after = x.after; grows = same_begins w.committed w'.committed (sym x.committed_is); reached = x.reached }

pub step_sound : (o : ℕ) (w w' : ClusterState) → IsSound o w → AnyStep w w' → IsSound o w'
step_sound o w w' s step = (let x = stepped s.tree o w w' s.sound step in record { tree = x.tree; sound = x.after.sound; reached = x.reached s.reached })

pub event_sound : (o now : ℕ) (w w' : ClusterState) → IsSound o w → ClusterStep now w w' → IsSound o w'
event_sound o now w w' s step = step_sound o w w' s (Happens now step)

pub offer_sound : (o now : ℕ) (w w' : ClusterState) → IsSound o w → OfferStep now w w' → IsSound o w'
offer_sound o now w w' s step = step_sound o w w' s (Takes now step)

pub steps_sound : (o : ℕ) (w : ClusterState) (run : List ClusterState) → IsSound o w → Steps w run → AllByRecursion (IsSound o) run
steps_sound o w [] s steps = tt
steps_sound o w (x ∷ xs) s steps = (let t = step_sound o w x s steps.0 in (t, steps_sound o x xs t steps.1))

-- ---- kept lists

pub step_kept : (o : ℕ) (w w' : ClusterState) (list : List Chunk) → IsSound o w → AnyStep w w' → Kept w list → StaysKept list w'
step_kept o w w' list s step h =
    let x = stepped s.tree o w w' s.sound step in
    let kept = x.after.kept list h in
    record { kept = kept; order = kept_order x.tree w' o list w'.committed x.after.sound kept x.after.sound.committed }

pub steps_kept : (o : ℕ) (w : ClusterState) (run : List ClusterState) (list : List Chunk) → IsSound o w → Steps w run → Kept w list → AllByRecursion (StaysKept list) run
steps_kept o w [] list s steps h = tt
steps_kept o w (x ∷ xs) list s steps h =
    let k = step_kept o w x list s steps.0 h in
    (k, steps_kept o x xs list (step_sound o w x s steps.0) steps.1 k.kept)

pub step_grows : (o : ℕ) (w w' : ClusterState) → IsSound o w → AnyStep w w' → GoesOn w.committed w'.committed
step_grows o w w' s step = (stepped s.tree o w w' s.sound step).grows

-- what is true of a later list is true of an earlier one
all_goes_on : (a b : List Chunk) (run : List ClusterState) → GoesOn a b → AllByRecursion (λ (x : ClusterState). GoesOn b x.committed) run → AllByRecursion (λ (x : ClusterState). GoesOn a x.committed) run
all_goes_on a b [] p h = tt
all_goes_on a b (x ∷ xs) p h = (goes_on a b x.committed p h.0, all_goes_on a b xs p h.1)

pub steps_grow : (o : ℕ) (w : ClusterState) (run : List ClusterState) → IsSound o w → Steps w run → AllByRecursion (λ (x : ClusterState). GoesOn w.committed x.committed) run
steps_grow o w [] s steps = tt
steps_grow o w (x ∷ xs) s steps =
    let p = step_grows o w x s steps.0 in
    (p, all_goes_on w.committed x.committed xs p (steps_grow o x xs (step_sound o w x s steps.0) steps.1))

pub committed_kept : (o : ℕ) (w : ClusterState) → IsSound o w → Kept w w.committed
committed_kept o w s = s.sound.committed

-- ---- the committed list and the open leader

-- who is open in the epoch that it leads has the longest log of it
pub open_log : (g : Tree) (w : ClusterState) (o k : ℕ) → Sound g o w → IsMember w k → (seat w k).up ≡ true → is_opened (member w k).role ≡ true
    → (LeadsEpoch w (member w k).promise k) × (last_epoch (member w k).log ≡ (member w k).promise) × ((member w k).log ≡ g.canon (member w k).promise)
open_log g w o k s lt up opens =
    let m = member w k in
    let h = s.each_member k in
    let x = opened_leader m.role opens in
    let lh : LeaderLine m.promise m.log m.job x.0 = subst (LineHolds m.promise m.log m.job) x.1 (h.line up) in
    let rh : LeaderHolds g w k m.promise x.0 = subst (RoleHolds g w k m.promise) x.1 h.role in
    let last = lh.is_open x.2 in
    let below = (s.each_reign m.promise rh.leads.0 rh.leads.1).base_below in (
      rh.leads,
      last,
      elim (h.leads rh.leads) [
        | inl y ↦ absurd (let e = ap last_epoch y.1 in omega (arith, e, last, below))
        | inr y ↦ y.0
      ],
    )

-- a kept list that isn't of a later epoch begins an open leader's log
pub kept_begins : (g : Tree) (w : ClusterState) (o k : ℕ) (list : List Chunk) → Sound g o w → IsMember w k → (seat w k).up ≡ true → is_opened (member w k).role ≡ true
    → Kept w list → last_epoch list ≤ (member w k).promise → GoesOn list (member w k).log
kept_begins g w o k list s lt up opens kept low =
    let m = member w k in
    let x = open_log g w o k s lt up opens in
    let r = kept_rooted g w o list s.tree s.each_member kept in
    elim (cases_lt (last_epoch list) m.promise) [
      | inl less ↦ kept.later k m.log (holds_log g w k (seat w k) (s.each_member k)) (omega (arith, less, x.1))
      | inr ge ↦
          let e : last_epoch list ≡ m.promise = omega (arith, low, ge) in
          begins_as list (g.canon m.promise) m.log (sym x.2) (subst (λ (n : ℕ). GoesOn list (g.canon n)) e r.0)
    ]

-- no kept list ends past the durable epoch
pub kept_below : (g : Tree) (w : ClusterState) (o : ℕ) (list : List Chunk) → Sound g o w → Kept w list → last_epoch list ≤ durable w
kept_below g w o list s h =
    let j = majorities (length w.seats) h.voters h.voters h.most h.most in
    let m = member w j.0 in
    let mh = s.each_member j.0 in
    let p = h.held j.0 j.1 m.log (holds_log g w j.0 (seat w j.0) mh) in
    let low = front_below list m.log m.promise p mh.is_log mh.below in
    let up = mh.not_ahead in
    omega (arith, low, up)

pub committed_begins : (o epoch k : ℕ) (w : ClusterState) → IsSound o w → RunsWith w epoch k → GoesOn w.committed (member w k).log
committed_begins o epoch k w s runs =
    let low = kept_below s.tree w o w.committed s.sound s.sound.committed in
    kept_begins s.tree w o k w.committed s.sound runs.is_member runs.leader_up runs.is_open s.sound.committed (omega (arith, low, runs.promised, runs.epoch_is))

-- ---- before the commit

pub commit_extends : (o k : ℕ) (w : ClusterState) → IsSoundBeforeCommit o w → IsMember w k → GoesOn w.committed (committed_by w.committed (member w k))
commit_extends o k w s lt = (commits_sound s.tree w o k s.sound lt).grows

pub taken_before : (o now number k : ℕ) (w : ClusterState) (s : Sent) → IsSound o w → letter_in number w.mail ≡ Some s → s.to ≡ k → IsMember w k → IsFree w k
    → IsSoundBeforeCommit o (send (put (record w { mail = marked number w.mail }) k (is_up (taken now s.message (member w k)).state)) (taken now s.message (member w k)).sent)
taken_before o now number k w s so is to lt free =
    let w1 : ClusterState = record w { mail = marked number w.mail } in
    let a = delivered_after so.tree w o number so.sound in
    let h = delivered_holds so.tree w o number s so.sound is in
    let up = free_up w k lt free in
    let n = taken_sound so.tree w1 o k now s.message a.sound lt up.0 up.1 (subst (λ (x : ℕ). MessageHolds so.tree w1 x s.message) to h) in
    record { tree = n.tree; sound = n.after.sound }
  where
    free_up : (w : ClusterState) (k : ℕ) → IsMember w k → IsFree w k → ((seat w k).up ≡ true) × ((member w k).job ≡ None)
    free_up w zero lt free = absurd (omega (arith, lt.0))
    free_up w (suc i) lt free = (free.0.1, free.1)

pub finished_before : (o k : ℕ) (w : ClusterState) → IsSound o w → IsMember w k → (seat w k).up ≡ true → IsSoundBeforeCommit o (send (put w k (is_up (finished (member w k)).state)) (finished (member w k)).sent)
finished_before o k w s lt up = (let n = finished_sound s.tree w o k s.sound lt up in record { tree = n.tree; sound = n.after.sound })
