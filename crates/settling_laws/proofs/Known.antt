-- What soundness says of who has promised the running epoch.
use Rattle.std.proofs.Common.{◌≡◌, ℕ, ◌≤◌, ◌⊎◌, List, [], ◌∷◌, ◌++◌, refl, sym, ap, ◌∙◌, subst, inl, inr, arith, Option, Some, None, Bool, true, false, cond}
use Rattle.std.specs.Prelude.{◌&&◌, ◌==◌, nat_le}
use Rattle.std.proofs.lemmas.Bool.{cases_Bool}
use Rattle.std.proofs.lemmas.List.{append-nil}
use Rattle.chunk_format.specs.declared.chunk.Chunk.{Chunk}
use Rattle.chunk_format.specs.declared.chunk.ChunkKind.{ChunkKind}
use Rattle.chunk_format.specs.declared.chunk.ChunkKind.TheVariants.{User, Delta, Snapshot}
use Rattle.chunk_format.specs.Chunks.{entry_bytes, entries_bytes}
use Rattle.chunk_format.specs.Logs.{GoesOn, end_of, last_epoch, IsLog, HasRun, Truthful, snapshot_entry_of}
use Rattle.chunk_format.proofs.LinkLaws.{linked_front, linked_behind}
use Rattle.epoch_coordinator.specs.declared.tail.Tail.{Tail}
use Rattle.epoch_coordinator.specs.declared.message.Job.{Job}
use Rattle.epoch_coordinator.specs.declared.message.Job.TheVariants.{Write, Cut, Promise, Epoch}
use Rattle.epoch_coordinator.specs.declared.coordinator.Phase.TheVariants.{Running}
use Rattle.epoch_coordinator.specs.Tails.{tail_of, same_tail, runs_of, has_run, contains}
use Rattle.epoch_coordinator.specs.Members.{Leading, MemberState, Stopped, Follower, Leader}
use Rattle.epoch_coordinator.specs.MemberSteps.{chunk_from, ends_in, same_bytes, is_true_after}
use Rattle.epoch_coordinator.specs.MemberSteps as steps
use Rattle.replication_laws.specs.Cluster.{ClusterState, seat, member, IsMember, is_opened}
use Rattle.replication_laws.specs.Soundness.{Tree, LeadsEpoch, TailMark, AppendHolds, IsQuiet, JobHolds, RoleHolds, LeaderLine, LineHolds, PhaseHolds, Sound}
use Rattle.replication_laws.proofs.Logs.{same_tail_is, run_front, run_gives, push_follows}
use Rattle.replication_laws.proofs.Walks.{or_right, contained, runs_to, runs_from, found_at}
use Rattle.replication_laws.proofs.Carry.{is_tree}
use Rattle.replication_laws.proofs.Followers.{leads_unique, tail_mark, append_same}
use Rattle.replication_laws.proofs.Leaders.{ask_sends}
use Rattle.replication_laws.proofs.Joined.{open_log}
use Rattle.settling_laws.specs.Tokens.{Running_by}

-- ---- who leads

pub leader_leads : (g : Tree) (w : ClusterState) (o e l : ℕ) → Sound g o w → Running_by w e l → LeadsEpoch w e l
leader_leads g w o e l s r =
    let h : PhaseHolds o w w.coordinator.told (Running l) = subst (PhaseHolds o w w.coordinator.told) r.phase s.coordinator.phase in
    subst (λ (n : ℕ). LeadsEpoch w n l) r.epoch_is h

pub follows_leader : (g : Tree) (w : ClusterState) (o e l k f : ℕ) → Sound g o w → Running_by w e l → (member w k).promise ≡ e → (member w k).role ≡ Follower f → f ≡ l
follows_leader g w o e l k f s r p role =
    let h : RoleHolds g w k (member w k).promise (Follower f) = subst (RoleHolds g w k (member w k).promise) role (s.each_member k).role in
    leads_unique w e f l (subst (λ (n : ℕ). LeadsEpoch w n f) p h.0) (leader_leads g w o e l s r)

pub leads_alone : (g : Tree) (w : ClusterState) (o e l k : ℕ) (d : Leading) → Sound g o w → Running_by w e l → (member w k).promise ≡ e → (member w k).role ≡ Leader d → k ≡ l
leads_alone g w o e l k d s r p role =
    let h : RoleHolds g w k (member w k).promise (Leader d) = subst (RoleHolds g w k (member w k).promise) role (s.each_member k).role in
    leads_unique w e k l (subst (λ (n : ℕ). LeadsEpoch w n k) p h.leads) (leader_leads g w o e l s r)

-- ---- jobs

pub stopped_idle : (g : Tree) (w : ClusterState) (o e l k : ℕ) → Sound g o w → Running_by w e l → (seat w k).up ≡ true → (member w k).promise ≡ e → (member w k).role ≡ Stopped → (member w k).job ≡ None
stopped_idle g w o e l k s r up p role = go (member w k).job refl
  where
    m : MemberState
    m = member w k

    go : (j : Option Job) → m.job ≡ j → m.job ≡ None
    go None je = je
    go (Some j) je = absurd (bad j (subst IsQuiet je quiet) (subst (JobHolds g w k m.promise m.log) je (s.each_member k).job))
      where
        quiet : IsQuiet m.job
        quiet = subst (LineHolds m.promise m.log m.job) role ((s.each_member k).line up)

        bad : (j : Job) → IsQuiet (Some j) → JobHolds g w k m.promise m.log (Some j) → ⊥
        bad (Write c) q h = q
        bad (Cut x) q h = q
        bad (Promise x) q h = (let same = r.epoch_is in omega (arith, p, same, h.0, h.1))
        bad (Epoch x) q h = h

pub leader_opened : (g : Tree) (w : ClusterState) (o k : ℕ) (d : Leading) → Sound g o w → (seat w k).up ≡ true → (member w k).role ≡ Leader d → (member w k).job ≡ None → d.opened ≡ true
leader_opened g w o k d s up role job = elim (cases_Bool d.opened) [
  | inl y ↦ y
  | inr n ↦ absurd (let x = h.is_new n in let z = x.1.1 in cc (job, z))
]
  where
    h : LeaderLine (member w k).promise (member w k).log (member w k).job d
    h = subst (LineHolds (member w k).promise (member w k).log (member w k).job) role ((s.each_member k).line up)

-- ---- what a leader answers to an Ask of the tail that its sender has

pub chunk_begins : (at : ℕ) (front : List Chunk) (c : Chunk) (rest : List Chunk) → c.first ≡ at → chunk_from at (front ++ c ∷ rest) ≡ None → ⊥
chunk_begins at [] c rest e h = go (c.first == at) (same c.first at e) h
  where
    same : (a b : ℕ) → a ≡ b → (a == b) ≡ true
    same a b e = grind arith

    go : (b : Bool) → b ≡ true → cond b (Some c) (chunk_from at rest) ≡ None → ⊥
    go true t h = cc h
    go false t h = cc t
chunk_begins at (x ∷ front) c rest e h = go (x.first == at) h (chunk_begins at front c rest e)
  where
    go : (b : Bool) → cond b (Some x) (chunk_from at (front ++ c ∷ rest)) ≡ None → (chunk_from at (front ++ c ∷ rest) ≡ None → ⊥) → ⊥
    go true h on = cc h
    go false h on = on h

-- a beginning that ends where no chunk begins is all of it
pub begins_all : (u log : List Chunk) → IsLog log → GoesOn u log → chunk_from (end_of u) log ≡ None → log ≡ u
begins_all u log is p none = go p.0 p.1
  where
    go : (more : List Chunk) → log ≡ u ++ more → log ≡ u
    go [] e = e ∙ append-nil u
    go (c ∷ more) e =
        let behind = linked_behind 0 0 u (c ∷ more) (subst IsLog e is) in
        absurd (chunk_begins (end_of u) u c more behind.begins (subst (λ (x : List Chunk). chunk_from (end_of u) x ≡ None) e none))

-- the sender's tail is that of a beginning of the leader's log
pub contained_front : (g : Tree) (w : ClusterState) (o k : ℕ) (t : Tail) → Sound g o w → contains (runs_of (member w k).log) t ≡ true → TailMark g t
    → (u : List Chunk) × GoesOn u (member w k).log × (tail_of u ≡ t)
contained_front g w o k t s has mark =
    let m = member w k in
    let h = s.each_member k in
    elim mark [
      | inl e ↦ ([], (m.log, refl), sym e)
      | inr x ↦ elim (contained (runs_of m.log) t has) [
        | inl e ↦ ([], (m.log, refl), sym (same_tail_is t (tail_of []) e.0 e.1))
        | inr run ↦ (
          x.upto,
          run_gives g.canon x.upto m.log (is_tree g w o s.tree) (s.tree.rooted t.epoch x.upto x.begins) h.rooted (rw (x.epoch_is, x.end_is) (runs_to t 0 0 m.log h.is_log run)),
          same_tail_is (tail_of x.upto) t x.epoch_is x.end_is,
        )
      ]
    ]

-- where nothing comes next, it has all
pub ask_top : (g : Tree) (w : ClusterState) (o k : ℕ) (t : Tail) → Sound g o w → contains (runs_of (member w k).log) t ≡ true → chunk_from t.end (member w k).log ≡ None → TailMark g t → t ≡ tail_of (member w k).log
ask_top g w o k t s has none mark =
    let u = contained_front g w o k t s has mark in
    let end : end_of u.0 ≡ t.end = ap (λ (x : Tail). x.end) u.2 in
    let all = begins_all u.0 (member w k).log (s.each_member k).is_log u.1 (rw end none) in
    sym u.2 ∙ ap tail_of (sym all)

eq_made : (a b : ℕ) → a ≡ b → (a == b) ≡ true
eq_made a b h = grind arith

le_made : (a b : ℕ) → a ≤ b → nat_le a b ≡ true
le_made a b h = grind arith

all_five : (a b c d e : Bool) → a ≡ true → b ≡ true → c ≡ true → d ≡ true → e ≡ true → (a && b && c && d && e) ≡ true
all_five a b c d e p q r s t = rw (p, q, r, s, t) refl

same_bytes_is : (a : List ℕ) → same_bytes a a ≡ true
same_bytes_is [] = refl
same_bytes_is (x ∷ a) = rw (eq_made x x refl) (same_bytes_is a)

true_after : (log : List Chunk) (c : Chunk) → (c.kind ≡ Snapshot → c.entries ≡ snapshot_entry_of log ∷ []) → (kind : ChunkKind) → c.kind ≡ kind → is_true_after log kind c ≡ true
true_after log c h User e = refl
true_after log c h Delta e = refl
true_after log c h Snapshot e =
    let x : entries_bytes c.entries ≡ entry_bytes (snapshot_entry_of log) = ap entries_bytes (h e) ∙ append-nil (entry_bytes (snapshot_entry_of log)) in
    subst (λ (y : List ℕ). same_bytes y (entry_bytes (snapshot_entry_of log)) ≡ true) (sym x) (same_bytes_is (entry_bytes (snapshot_entry_of log)))

-- where a chunk comes next, it is right for the sender
pub ask_next : (g : Tree) (w : ClusterState) (o k j : ℕ) (c : Chunk) → Sound g o w → ((e : ℕ) → Truthful (g.canon e)) → LeadsEpoch w (member w k).promise k → last_epoch (member w k).log ≡ (member w k).promise
    → contains (runs_of (member w k).log) (tail_of (member w j).log) ≡ true → chunk_from (end_of (member w j).log) (member w k).log ≡ Some c
    → steps.goes_on (member w k).promise (tail_of (member w j).log) c (member w j).log ≡ true
ask_next g w o k j c s truth leads last has next =
    let m = member w k in
    let log = (member w j).log in
    let t = tail_of log in
    let mark = tail_mark g log (s.each_member j).rooted in
    let x = found_at t.end m.log c next in
    let reached : (t ≡ tail_of []) ⊎ HasRun m.log t.epoch t.end = elim (contained (runs_of m.log) t has) [
      | inl e ↦ inl (same_tail_is t (tail_of []) e.0 e.1)
      | inr y ↦ inr (runs_to t 0 0 m.log (s.each_member k).is_log y)
    ] in
    let app : AppendHolds g w m.promise t c = ask_sends g w o k j t s leads last reached mark x.front x.rest c x.parts x.first in
    let same = append_same g w o j m.promise c s app in
    let begins : GoesOn (log ++ c ∷ []) (g.canon c.epoch) = subst (λ (b : List Chunk). GoesOn (b ++ c ∷ []) (g.canon c.epoch)) same app.begins in
    let follows = push_follows log c (front_log c.epoch (log ++ c ∷ []) begins) in
    let says : c.kind ≡ Snapshot → c.entries ≡ snapshot_entry_of log ∷ [] = λ kind. truth c.epoch log c begins.0 (begins.1 ∙ joined log c begins.0) kind in
    all_five (same_tail t t) (c.first == t.end) (nat_le t.epoch c.epoch) (nat_le c.epoch m.promise) (is_true_after log c.kind c)
    (same_tails t) (eq_made c.first t.end x.first) (le_made t.epoch c.epoch follows.not_before) (le_made c.epoch m.promise app.not_above) (true_after log c says c.kind refl)
  where
    front_log : (e : ℕ) (a : List Chunk) → GoesOn a (g.canon e) → IsLog a
    front_log e a p = log_front_is a (g.canon e) p (s.tree.logs e)
      where
        log_front_is : (a b : List Chunk) → GoesOn a b → IsLog b → IsLog a
        log_front_is a b p is = front_is a p.0 (subst IsLog p.1 is)
          where
            front_is : (a b : List Chunk) → IsLog (a ++ b) → IsLog a
            front_is a b is = linked_front 0 0 a b is

    joined : (a : List Chunk) (c : Chunk) (b : List Chunk) → (a ++ c ∷ []) ++ b ≡ a ++ c ∷ b
    joined [] c b = refl
    joined (x ∷ a) c b = ap (λ (l : List Chunk). x ∷ l) (joined a c b)

    same_tails : (t : Tail) → same_tail t t ≡ true
    same_tails t = rw (eq_made t.epoch t.epoch refl, eq_made t.end t.end refl) refl

-- where the leader's log doesn't have it, the sender has no chunk of the leader
pub ask_out : (g : Tree) (w : ClusterState) (o k j : ℕ) → Sound g o w → IsMember w k → (seat w k).up ≡ true → is_opened (member w k).role ≡ true
    → contains (runs_of (member w k).log) (tail_of (member w j).log) ≡ false → ends_in (member w k).promise (member w j).log ≡ false
ask_out g w o k j s lt up opens out = elim (cases_Bool (ends_in e log)) [
  | inr n ↦ n
  | inl y ↦ absurd (let last = ends_last e log y in
      elim (tail_mark g log (s.each_member j).rooted) [
        | inl none ↦ (let x = rw none at out in cc x)
        | inr mark ↦ (
            let same : g.canon t.epoch ≡ m.log = ap g.canon last ∙ sym x.2 in
            let run : HasRun m.log t.epoch t.end = run_front mark.upto m.log t.epoch t.end (subst (GoesOn mark.upto) same mark.begins) mark.run in
            let yes' = or_right ((t.epoch == 0) && (t.end == 0)) (has_run (runs_of m.log) t) (runs_from t 0 0 m.log (s.each_member k).is_log run) in
            cc (yes', out))
      ])
]
  where
    m : MemberState
    m = member w k

    e : ℕ
    e = m.promise

    log : List Chunk
    log = (member w j).log

    t : Tail
    t = tail_of log

    x : (LeadsEpoch w m.promise k) × (last_epoch m.log ≡ m.promise) × (m.log ≡ g.canon m.promise)
    x = open_log g w o k s lt up opens

    ends_last : (e : ℕ) (log : List Chunk) → ends_in e log ≡ true → last_epoch log ≡ e
    ends_last e [] h = absurd (cc h)
    ends_last e (c ∷ []) h = eq_is c.epoch e h
      where
        eq_is : (a b : ℕ) → (a == b) ≡ true → a ≡ b
        eq_is a b h = grind arith
    ends_last e (c ∷ d ∷ log) h = ends_last e (d ∷ log) h
