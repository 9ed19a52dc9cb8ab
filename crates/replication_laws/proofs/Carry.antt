-- The clauses on members, reigns, the coordinator and kept lists, carried along a step.
use Rattle.std.proofs.Common.{◌≡◌, ℕ, ◌<◌, ◌≤◌, ◌⊎◌, List, [], ◌∷◌, ◌++◌, length, refl, sym, ap, subst, ◌∙◌, inl, inr, arith, Option, Some, None}
use Rattle.chunk_format.specs.declared.chunk.Chunk.{Chunk}
use Rattle.chunk_format.specs.Logs.{GoesOn, end_of, last_epoch, IsLog, HasRun}
use Rattle.chunk_format.proofs.LinkLaws.{epoch_push}
use Rattle.chunk_format.proofs.BeginLaws.{goes_same, goes_on, log_front}
use Rattle.epoch_coordinator.specs.declared.message.Job.{Job}
use Rattle.epoch_coordinator.specs.declared.message.Job.TheVariants.{Write, Cut, Promise, Epoch}
use Rattle.epoch_coordinator.specs.declared.coordinator.Phase.{Phase}
use Rattle.epoch_coordinator.specs.declared.coordinator.Phase.TheVariants.{Idle, Electing, Running}
use Rattle.epoch_coordinator.specs.declared.tail.Tail.{Tail}
use Rattle.epoch_coordinator.specs.Members.{MemberRole, MemberState, Stopped, Follower, Leader}
use Rattle.epoch_coordinator.specs.Coordinators.{CoordinatorState}
use Rattle.replication_laws.specs.Cluster.{Seat, Reign, ClusterState, seat, member, durable, reign, HoldsBy, Holds}
use Rattle.replication_laws.specs.Soundness.{Tree, IsRooted, IsMark, LeadsEpoch, HasReign, LeadsWith, JobHolds, RoleHolds, MemberHolds, ReignHolds, TreeHolds, OwnBehind, PhaseHolds, CoordinatorHolds, Kept}
use Rattle.replication_laws.proofs.Logs.{goes_one, goes_empty, same_begins, none_begins, front_epoch, log_push, run_front, front_end, front_below, nil_or, IsTree, rooted_front, run_gives, earlier_begins}
use Rattle.replication_laws.proofs.Meetings.{majorities}
use Rattle.replication_laws.proofs.Frame.{Advance, ElectsOn, has_reign_on, leads_on, ask_on, reply_on, shape_on}

pub is_tree : (g : Tree) (w : ClusterState) (o : ℕ) → TreeHolds g w o → IsTree g.canon
is_tree g w o t = λ e. (t.logs e, t.rooted e)

pub rooted_on : (g g' : Tree) (xs : List Chunk) → ((e : ℕ) → GoesOn (g.canon e) (g'.canon e)) → IsRooted g.canon xs → IsRooted g'.canon xs
rooted_on g g' xs grows r = goes_on xs (g.canon (last_epoch xs)) (g'.canon (last_epoch xs)) r (grows (last_epoch xs))

-- that an epoch has the same leader in both, or none
abbrev pub SameLeads : ClusterState → ClusterState → ℕ → ℕ → Type 0
SameLeads w w' e k = LeadsEpoch w' e k → LeadsEpoch w e k

pub job_on : (g g' : Tree) (w w' : ClusterState) (k p : ℕ) (log : List Chunk) (a : Advance g w g' w') → SameLeads w w' p k
    → (j : Option Job) → JobHolds g w k p log j → JobHolds g' w' k p log j
job_on g g' w w' k p log a same None h = tt
job_on g g' w w' k p log a same (Some (Promise e)) h = (h.0, omega (arith, h.1, a.not_back))
job_on g g' w w' k p log a same (Some (Epoch e)) h = absurd h
job_on g g' w w' k p log a same (Some (Write c)) h = (
  h.0,
  h.1,
  has_reign_on g g' w w' p a h.2,
  elim h.3 [
    | inl x ↦ inl (x.0, leads_on g g' w w' p k a x.1)
    | inr x ↦ inr (λ l. x.0 (same l), rooted_on g g' (log ++ c ∷ []) a.grows x.1)
  ],
)
job_on g g' w w' k p log a same (Some (Cut to)) h = (has_reign_on g g' w w' p a h.0, λ l. h.1 (same l), h.2, h.3)

pub role_on : (g g' : Tree) (w w' : ClusterState) (k p : ℕ) (logs : (e : ℕ) → IsLog (g'.canon e)) (a : Advance g w g' w') → ElectsOn g w g' w'
    → (r : MemberRole) → RoleHolds g w k p r → RoleHolds g' w' k p r
role_on g g' w w' k p logs a elects Stopped h = tt
role_on g g' w w' k p logs a elects (Follower l) h = (leads_on g g' w w' p l a h.0, h.1)
role_on g g' w w' k p logs a elects (Leader l) h = record {
  leads = leads_on g g' w w' p k a h.leads;
  asked = λ j q. let x = h.asked j q in (ask_on g g' w w' p j _ logs a x.0, elects p j _ x.0 x.1);
  places = h.places ∙ sym a.count;
  own = h.own;
  kept = λ z. shape_on g g' w w' p l.kept a (h.leads.0, h.leads.1) (h.kept z);
}

pub member_on : (g g' : Tree) (w w' : ClusterState) (k : ℕ) (s : Seat) (logs : (e : ℕ) → IsLog (g'.canon e)) (a : Advance g w g' w')
    → ElectsOn g w g' w' → SameLeads w w' s.state.promise k → (LeadsEpoch w' s.state.promise k → LeadsWith g' s.state.promise s.state.log)
    → MemberHolds g w k s → MemberHolds g' w' k s
member_on g g' w w' k s logs a elects same leads h = record {
  is_log = h.is_log;
  below = h.below;
  not_ahead = omega (arith, h.not_ahead, a.not_back);
  rooted = rooted_on g g' s.state.log a.grows h.rooted;
  job = job_on g g' w w' k s.state.promise s.state.log a same s.state.job h.job;
  role = role_on g g' w w' k s.state.promise logs a elects s.state.role h.role;
  leads = leads;
  line = h.line;
}

pub reign_on : (g g' : Tree) (w w' : ClusterState) (e : ℕ) (r : Reign) (a : Advance g w g' w')
    → reign w e ≡ Some r → OwnBehind g' e
    → ReignHolds g w e r → ReignHolds g' w' e r
reign_on g g' w w' e r a is begins h =
    let b = a.bases e (r, is) in
    record {
      not_ahead = omega (arith, h.not_ahead, a.not_back);
      elected = rw a.count h.elected;
      promised = λ k x. omega (arith, h.promised k x, a.promises k);
      led = omega (arith, h.led, a.promises r.leader);
      runs = rw b h.runs;
      base_log = rw b h.base_log;
      base_rooted = rw b (rooted_on g g' (g.base e) a.grows h.base_rooted);
      base_below = rw b h.base_below;
      begins = begins;
    }

-- where the durable epoch and the reigns stay
pub phase_on : (g g' : Tree) (w w' : ClusterState) (o : ℕ) → Advance g w g' w' → w'.reigns ≡ w.reigns → durable w' ≡ durable w
    → (told : List (Option Tail)) (p : Phase) → PhaseHolds o w told p → PhaseHolds o w' told p
phase_on g g' w w' o a same co told Idle h = tt
phase_on g g' w w' o a same co told Electing h = record {
  new = rw (same, co) h.new;
  replies = λ k t x. (let r = h.replies k t x in (
    (r.0.0, omega (arith, r.0.1, a.count)),
    rw co (omega (arith, r.1, a.promises k)),
    rw co (reply_on g g' w w' (durable w) k t a r.2),
  ));
  later = rw co h.later;
}
phase_on g g' w w' o a same co told (Running leader) h = rw co (leads_on g g' w w' (durable w) leader a h)

pub coordinator_on : (g g' : Tree) (w w' : ClusterState) (o : ℕ) → Advance g w g' w' → w'.reigns ≡ w.reigns → w'.coordinator ≡ w.coordinator
    → CoordinatorHolds o w w.coordinator → CoordinatorHolds o w' w'.coordinator
coordinator_on g g' w w' o a same co h =
    subst (CoordinatorHolds o w') (sym co) (record {
      count = h.count ∙ sym a.count;
      places = h.places ∙ sym a.count;
      fits = h.fits;
      next = h.next;
      phase = phase_on g g' w w' o a same (ap (λ (c : CoordinatorState). c.epoch) co) w.coordinator.told w.coordinator.phase h.phase;
    })

-- ---- what a disk may have

-- a held log is rooted, or goes on from the log
pub held_cases : (g : Tree) (w : ClusterState) (k : ℕ) (s : Seat) (o : ℕ) → TreeHolds g w o → MemberHolds g w k s → (h : List Chunk) → Holds s.state h → IsRooted g.canon h ⊎ GoesOn s.state.log h
held_cases g w k s o t mh h x = go s.state.job x
  where
    m : MemberState
    m = s.state

    go : (j : Option Job) → HoldsBy j m.log h → IsRooted g.canon h ⊎ GoesOn m.log h
    go None x = inr (same_begins m.log h (sym x))
    go (Some (Promise e)) x = inr (same_begins m.log h (sym x))
    go (Some (Epoch e)) x = inr (same_begins m.log h (sym x))
    go (Some (Write c)) (inl x) = inr (same_begins m.log h (sym x))
    go (Some (Write c)) (inr x) = inr (c ∷ [], x)
    go (Some (Cut to)) x = inl (rooted_front g.canon h m.log (is_tree g w o t) mh.rooted x.0)

pub holds_log : (g : Tree) (w : ClusterState) (k : ℕ) (s : Seat) → MemberHolds g w k s → Holds s.state s.state.log
holds_log g w k s mh = go m.job mh.job
  where
    m : MemberState
    m = s.state

    go : (j : Option Job) → JobHolds g w k m.promise m.log j → HoldsBy j m.log m.log
    go None x = refl
    go (Some (Promise e)) x = refl
    go (Some (Epoch e)) x = refl
    go (Some (Write c)) x = inl refl
    go (Some (Cut to)) x = (goes_same m.log, let p = front_end_of x.2.0 x.2.1 in omega (arith, p, x.2.2))
      where
        front_end_of : (front : List Chunk) → GoesOn front m.log → end_of front ≤ end_of m.log
        front_end_of front p = front_end front m.log p mh.is_log

pub self_mark : (g : Tree) (l : List Chunk) → IsRooted g.canon l → HasRun l (last_epoch l) (end_of l) → IsMark g.canon (last_epoch l) (end_of l)
self_mark g l r run = record { upto = l; begins = r; epoch_is = refl; end_is = refl; run = run }

pub held_log : (g : Tree) (w : ClusterState) (k : ℕ) (s : Seat) → MemberHolds g w k s → (h : List Chunk) → Holds s.state h → IsLog h
held_log g w k s mh h x = go m.job mh.job x
  where
    m : MemberState
    m = s.state

    go : (j : Option Job) → JobHolds g w k m.promise m.log j → HoldsBy j m.log h → IsLog h
    go None jh x = rw x mh.is_log
    go (Some (Promise e)) jh x = rw x mh.is_log
    go (Some (Epoch e)) jh x = absurd jh
    go (Some (Write c)) jh (inl x) = rw x mh.is_log
    go (Some (Write c)) jh (inr x) = rw x (log_push m.log c mh.is_log jh.0)
    go (Some (Cut to)) jh x = log_front h m.log x.0 mh.is_log

pub held_below : (g : Tree) (w : ClusterState) (k : ℕ) (s : Seat) → MemberHolds g w k s → (h : List Chunk) → Holds s.state h → last_epoch h ≤ s.state.promise
held_below g w k s mh h x = go m.job mh.job x
  where
    m : MemberState
    m = s.state

    go : (j : Option Job) → JobHolds g w k m.promise m.log j → HoldsBy j m.log h → last_epoch h ≤ m.promise
    go None jh x = rw x mh.below
    go (Some (Promise e)) jh x = rw x mh.below
    go (Some (Epoch e)) jh x = absurd jh
    go (Some (Write c)) jh (inl x) = rw x mh.below
    go (Some (Write c)) jh (inr x) = rw (x, epoch_push m.log c) jh.1
    go (Some (Cut to)) jh x = front_below h m.log m.promise x.0 mh.is_log mh.below

-- who leads goes on from where its reign began
pub base_of : (g : Tree) (p : ℕ) (log : List Chunk) → LeadsWith g p log → GoesOn (g.base p) log
base_of g p log (inl x) = same_begins (g.base p) log (sym x.1)
base_of g p log (inr x) = x.1

-- a held log is rooted, or goes on from where the reign of its last epoch began
pub held_kind : (g : Tree) (w : ClusterState) (k : ℕ) (s : Seat) (o : ℕ) → TreeHolds g w o → MemberHolds g w k s → (h : List Chunk) → Holds s.state h
    → IsRooted g.canon h ⊎ (HasReign w (last_epoch h) × GoesOn (g.base (last_epoch h)) h)
held_kind g w k s o t mh h x = go m.job mh.job x
  where
    m : MemberState
    m = s.state

    own : (c : Chunk) → h ≡ m.log ++ c ∷ [] → LeadsEpoch w m.promise k → GoesOn (g.base m.promise) h
    own c e l = rw e (goes_on (g.base m.promise) m.log (m.log ++ c ∷ []) (base_of g m.promise m.log (mh.leads l)) (goes_one m.log c))

    ends : (c : Chunk) → h ≡ m.log ++ c ∷ [] → c.epoch ≡ m.promise → last_epoch h ≡ m.promise
    ends c e ce = ap last_epoch e ∙ (epoch_push m.log c ∙ ce)

    go : (j : Option Job) → JobHolds g w k m.promise m.log j → HoldsBy j m.log h → IsRooted g.canon h ⊎ (HasReign w (last_epoch h) × GoesOn (g.base (last_epoch h)) h)
    go None jh x = inl (rw x mh.rooted)
    go (Some (Promise e)) jh x = inl (rw x mh.rooted)
    go (Some (Epoch e)) jh x = absurd jh
    go (Some (Write c)) jh (inl x) = inl (rw x mh.rooted)
    go (Some (Write c)) jh (inr x) = elim jh.3 [
      | inl y ↦ inr (subst (λ (n : ℕ). HasReign w n × GoesOn (g.base n) h) (sym (ends c x y.0)) ((y.1.0, y.1.1), own c x y.1))
      | inr y ↦ inl (rw x y.1)
    ]
    go (Some (Cut to)) jh x = inl (rooted_front g.canon h m.log (is_tree g w o t) mh.rooted x.0)

-- ---- kept lists

-- what is kept begins a member's log
pub kept_rooted : (g : Tree) (w : ClusterState) (o : ℕ) (l : List Chunk) → TreeHolds g w o → ((k : ℕ) → MemberHolds g w k (seat w k)) → Kept w l → IsRooted g.canon l × IsLog l
kept_rooted g w o l t members h =
    let j = majorities (length w.seats) h.voters h.voters h.most h.most in
    let m = member w j.0 in
    let p = h.held j.0 j.1 m.log (holds_log g w j.0 (seat w j.0) (members j.0)) in
    (rooted_front g.canon l m.log (is_tree g w o t) (members j.0).rooted p, log_front l m.log p (members j.0).is_log)

pub kept_on : (g g' : Tree) (w w' : ClusterState) (o : ℕ) (l : List Chunk) (t : TreeHolds g w o) (t' : TreeHolds g' w' o) (a : Advance g w g' w')
    → w'.reigns ≡ w.reigns
    → ((k : ℕ) → MemberHolds g w k (seat w k))
    → ((k : ℕ) → MemberHolds g' w' k (seat w' k))
    → ((e : ℕ) (r : Reign) → reign w' e ≡ Some r → ReignHolds g' w' e r)
    → Kept w l → Kept w' l
kept_on g g' w w' o l t t' a same old members reigns h =
    let r = kept_rooted g w o l t old h in
    let rooted' : IsRooted g'.canon l = rooted_on g g' l a.grows r.0 in
    let tree' : IsTree g'.canon = is_tree g' w' o t' in
    record {
      voters = h.voters;
      most = rw a.count h.most;
      held = λ k v h' x. elim (nil_or l) [
        | inl nil ↦ goes_empty l h' nil
        | inr run ↦
            elim (a.keeps k (last_epoch l) (end_of l) (self_mark g l r.0 run) (λ q y. run_front l q (last_epoch l) (end_of l) (h.held k v q y) run)) [
              | inl all ↦
                  elim (held_cases g' w' k (seat w' k) o t' (members k) h' x) [
                    | inl y ↦ run_gives g'.canon l h' tree' rooted' y (all h' x)
                    | inr p ↦ goes_on l (member w' k).log h'
                        (run_gives g'.canon l (member w' k).log tree' rooted' (members k).rooted (all (member w' k).log (holds_log g' w' k (seat w' k) (members k)))) p
                  ]
              | inr lack ↦
                  elim (h.reigns lack.at lack.by (rw same at lack.is_reign) lack.later) [
                    | inl nil ↦ goes_empty l h' nil
                    | inr y ↦ absurd (lack.lacks y)
                  ]
            ]
      ];
      later = λ k h' x lt. elim (a.fits k h' x) [
        | inl b ↦
            let lb = held_log g w k (seat w k) (old k) b.0 b.1 in
            let up = front_epoch h' b.0 b.2 lb in
            earlier_begins l h' b.0 (h.later k b.0 b.1 (omega arith)) b.2 r.1 lt
        | inr q ↦
            let r' : reign w' q.0 ≡ Some q.1.0 = a.reigns q.0 q.1.0 q.1.1 in
            let rh = reigns q.0 q.1.0 r' in
            elim (h.reigns q.0 q.1.0 q.1.1 (omega (arith, q.2))) [
              | inl nil ↦ goes_empty l h' nil
              | inr y ↦
                  let lbase : GoesOn l (g'.base q.0) = run_gives g'.canon l (g'.base q.0) tree' rooted' rh.base_rooted ((rh.runs (last_epoch l) (end_of l)).0 y) in
                  elim q.3 [
                    | inr z ↦ goes_on l (g'.base q.0) h' lbase z
                    | inl z ↦ elim rh.begins [
                      | inl nil ↦ (let e0 : h' ≡ [] = none_begins h' (rw nil at z) in let bad : last_epoch l < 0 = rw e0 at lt in absurd (omega arith))
                      | inr p ↦ earlier_begins l h' (g'.canon q.0) (goes_on l (g'.base q.0) (g'.canon q.0) lbase (p.0, p.1)) z r.1 lt
                    ]
                  ]
            ]
      ];
      reigns = λ e r is le. h.reigns e r (rw same at is) le;
    }
