-- A commit, and what changes neither members nor reigns.
use Rattle.std.proofs.Common.{◌≡◌, ℕ, ◌+◌, ◌*◌, ◌<◌, ◌≤◌, ◌⊎◌, List, [], ◌∷◌, length, map, refl, sym, ap, subst, ◌∙◌, zero, suc, inl, inr, arith, Option, Some, None, Bool, false, true}
use Rattle.std.specs.Prelude.{nat_le, slice_index_or, slice_set}
use Rattle.std.proofs.lemmas.Bool.{cases_eq}
use Rattle.std.proofs.lemmas.List.{get_or-set_other, length-set, length-map}
use Rattle.std.specs.List.{AllByRecursion}
use Rattle.chunk_format.specs.declared.chunk.Chunk.{Chunk}
use Rattle.chunk_format.specs.Logs.{GoesOn, end_of, last_epoch, IsLog, HasRun}
use Rattle.chunk_format.proofs.LinkLaws.{end_beyond}
use Rattle.chunk_format.proofs.BeginLaws.{goes_same, goes_on, goes_either, log_front}
use Rattle.epoch_coordinator.specs.declared.message.Job.{Job}
use Rattle.epoch_coordinator.specs.declared.message.Job.TheVariants.{Write, Cut, Promise, Epoch}
use Rattle.epoch_coordinator.specs.Members.{Leading, Leader}
use Rattle.epoch_coordinator.specs.MemberSteps.{reaching, is_majority, majority_has, commit_by, commit_end, cut_at}
use Rattle.epoch_coordinator.specs.Coordinators.{CoordinatorState}
use Rattle.replication_laws.specs.Majorities.{votes, IsMajority, is_voter}
use Rattle.replication_laws.specs.Cluster.{Letter, Reign, ClusterState, seat, member, IsMember, durable, reign, InRuns, HoldsBy}
use Rattle.replication_laws.specs.Soundness.{Tree, IsRooted, IsMark, LeadsEpoch, HasReign, AskHolds, AskElects, LetterHolds, JobHolds, LeaderHolds, RoleHolds, CoordinatorHolds, Kept, Sound}
use Rattle.replication_laws.proofs.Meetings.{majorities, reaching_votes, votes_set}
use Rattle.replication_laws.proofs.Logs.{goes_empty, same_begins, none_begins, run_gives, rooted_front, earlier_begins}
use Rattle.replication_laws.proofs.Frame.{Advance, elects_on}
use Rattle.replication_laws.proofs.Carry.{is_tree, member_on, coordinator_on, held_cases, held_kind, holds_log}
use Rattle.replication_laws.proofs.Sounds.{After, sound_on}
use Rattle.replication_laws.proofs.Followers.{reign_run}
use Rattle.replication_laws.proofs.Walks.{commit_at, cut_front}

-- more than half have it: the leader by its log, the others by an Ask
pub record Acknowledged (g : Tree) (w : ClusterState) (k n : ℕ) (voters : List Bool) : Type 0 where
  pub most : IsMajority (length w.seats) voters
  pub each : (j : ℕ) → is_voter voters j ≡ true → (j ≡ k) ⊎ ((at : ℕ) × (n ≤ at) × AskHolds g w (member w k).promise j at × AskElects g w (member w k).promise j at)

-- each later reign reaches what a majority acknowledged
climb : (g : Tree) (w : ClusterState) (o k n : ℕ) (voters : List Bool) → Sound g o w → Acknowledged g w k n voters → IsMark g.canon (member w k).promise n
    → (b q : ℕ) (r : Reign) → q ≤ b → reign w q ≡ Some r → (member w k).promise < q → InRuns r.runs (member w k).promise n
climb g w o k n voters s ack mark zero q r le is lt = absurd (omega (arith, le, lt))
climb g w o k n voters s ack mark (suc b) q r le is lt =
    let rh = s.each_reign q r is in
    let j = majorities (length w.seats) voters r.electors ack.most rh.elected in
    elim (ack.each j.0 j.1) [
      | inl eq ↦ (let p = rh.promised k (rw eq at j.2) in absurd (omega arith))
      | inr x ↦ elim (x.3 n q r mark x.1 is lt j.2) [
        | inl y ↦ y
        | inr y ↦ absurd (y.2.lacks (climb g w o k n voters s ack mark b y.2.at y.2.by (omega (arith, y.1, y.2.not_after)) y.2.is_reign y.2.later))
      ]
    ]

leader_holds : (g : Tree) (w : ClusterState) (k p : ℕ) (log h : List Chunk) → LeadsEpoch w p k → (j : Option Job) → JobHolds g w k p log j → HoldsBy j log h → GoesOn log h
leader_holds g w k p log h leads None jh x = same_begins log h (sym x)
leader_holds g w k p log h leads (Some (Promise e)) jh x = same_begins log h (sym x)
leader_holds g w k p log h leads (Some (Epoch e)) jh x = same_begins log h (sym x)
leader_holds g w k p log h leads (Some (Write c)) jh (inl x) = same_begins log h (sym x)
leader_holds g w k p log h leads (Some (Write c)) jh (inr x) = (c ∷ [], x)
leader_holds g w k p log h leads (Some (Cut to)) jh x = absurd (jh.1 leads)

-- what a majority has acknowledged is kept
pub commit_kept : (g : Tree) (w : ClusterState) (o k : ℕ) (list : List Chunk) (voters : List Bool) → Sound g o w → LeadsEpoch w (member w k).promise k
    → GoesOn list (member w k).log → last_epoch list ≡ (member w k).promise
    → Acknowledged g w k (end_of list) voters → Kept w list
commit_kept g w o k list voters s leads pre te ack =
    let m = member w k in
    let h = s.each_member k in
    let tree = is_tree g w o s.tree in
    let n = end_of list in
    let rooted : IsRooted g.canon list = rooted_front g.canon list m.log tree h.rooted pre in
    let run : HasRun list (last_epoch list) n = reign_run g w o m.promise list s.tree (leads.0, leads.1) te in
    let mark : IsMark g.canon m.promise n = record { upto = list; begins = rw te at rooted; epoch_is = te; end_is = refl; run = rw te at run } in
    let late = s.tree.reigns_later m.promise (leads.0, leads.1) in
    let up : (q : ℕ) (r : Reign) → reign w q ≡ Some r → last_epoch list < q → InRuns r.runs (last_epoch list) n =
    λ q r is lt. rw te (climb g w o k n voters s ack mark q q r (omega arith) is (omega (arith, te, lt))) in
    record {
      voters = voters;
      most = ack.most;
      held = λ j v x y. elim (ack.each j v) [
        | inl eq ↦ goes_on list m.log x pre (leader_holds g w k m.promise m.log x leads m.job h.job (rw eq at y))
        | inr z ↦ elim (z.2.stands n mark z.1) [
          | inl all ↦ elim (held_cases g w j (seat w j) o s.tree (s.each_member j) x y) [
            | inl r ↦ run_gives g.canon list x tree rooted r (rw te (all x y))
            | inr p ↦ goes_on list (member w j).log x
                (run_gives g.canon list (member w j).log tree rooted (s.each_member j).rooted (rw te (all (member w j).log (holds_log g w j (seat w j) (s.each_member j))))) p
          ]
          | inr l ↦ absurd (l.lacks (rw te at (up l.at l.by l.is_reign (omega (arith, te, l.later)))))
        ]
      ];
      later = λ j x y lt.
          let d = last_epoch x in
          let base : HasReign w d → GoesOn list (g.base d) = λ hr.
          run_gives g.canon list (g.base d) tree rooted (s.each_reign d hr.0 hr.1).base_rooted (((s.each_reign d hr.0 hr.1).runs (last_epoch list) n).0 (up d hr.0 hr.1 lt)) in
          elim (held_kind g w j (seat w j) o s.tree (s.each_member j) x y) [
            | inr z ↦ goes_on list (g.base d) x (base z.0) z.1
            | inl r ↦
                let some : (g.canon d ≡ []) → GoesOn list x = λ nil. (let e0 : x ≡ [] = none_begins x (rw nil at r) in let z : last_epoch list < 0 = rw e0 at lt in absurd (omega arith)) in
                elim (s.tree.known d) [
                  | inl nil ↦ some nil
                  | inr (inl early) ↦ absurd (omega (arith, te, late, lt, early))
                  | inr (inr hr) ↦ elim (s.each_reign d hr.0 hr.1).begins [
                    | inl nil ↦ some nil
                    | inr p ↦ earlier_begins list x (g.canon d) (goes_on list (g.base d) (g.canon d) (base hr) (p.0, p.1)) r (log_front list m.log pre h.is_log) lt
                  ]
                ]
          ];
      reigns = λ q r is lt. inr (up q r is lt);
    }

-- of two kept lists one begins with the other
pub kept_order : (g : Tree) (w : ClusterState) (o : ℕ) (a b : List Chunk) → Sound g o w → Kept w a → Kept w b → GoesOn a b ⊎ GoesOn b a
kept_order g w o a b s x y =
    let j = majorities (length w.seats) x.voters y.voters x.most y.most in
    let l = (member w j.0).log in
    let h = holds_log g w j.0 (seat w j.0) (s.each_member j.0) in
    goes_either a b l (x.held j.0 j.1 l h) (y.held j.0 j.2 l h)

-- ---- the coordinator, messages and the committed list change, and nothing else

abbrev pub rest : ClusterState → Bool → CoordinatorState → List Letter → ℕ → List Chunk → ClusterState
rest w up co mail last list = record w { coordinator_up = up; coordinator = co; mail = mail; last = last; committed = list }

pub rest_advance : (g : Tree) (w : ClusterState) (up : Bool) (co : CoordinatorState) (mail : List Letter) (last : ℕ) (list : List Chunk) → durable w ≤ co.epoch → Advance g w g (rest w up co mail last list)
rest_advance g w up co mail last list le = record {
  grows = λ e. goes_same (g.canon e);
  bases = λ e h. refl;
  sources = λ e. inl (goes_same (g.canon e));
  reigns = λ e r is. is;
  count = refl;
  not_back = le;
  promises = λ k. omega arith;
  keeps = λ k e m mark all. inl all;
  fits = λ k h x. inl (h, x, goes_same h);
  calm = λ k c. inr (inr (refl, c, refl));
}

pub rest_sound : (g : Tree) (w : ClusterState) (o : ℕ) (up : Bool) (co : CoordinatorState) (mail : List Letter) (last : ℕ) (list : List Chunk) → Sound g o w → durable w ≤ co.epoch
    → (Advance g w g (rest w up co mail last list) → CoordinatorHolds o (rest w up co mail last list) co)
    → Kept w list
    → (AllByRecursion (LetterHolds g (rest w up co mail last list)) w.mail → AllByRecursion (LetterHolds g (rest w up co mail last list)) mail)
    → After g o w g (rest w up co mail last list)
rest_sound g w o up co mail last list s le coordinator kept letters =
    let w' = rest w up co mail last list in
    let a = rest_advance g w up co mail last list le in
    sound_on g g w w' o 0 s a (λ k ne. refl) refl coordinator (λ on. on list kept)
    (record { logs = s.tree.logs; rooted = s.tree.rooted; ends = s.tree.ends; known = s.tree.known; reigns_later = s.tree.reigns_later; not_ahead = omega (arith, s.tree.not_ahead, le) })
    (λ k ne l x. x) (λ e r is. (s.each_reign e r is).begins)
    (member_on g g w w' 0 (seat w 0) s.tree.logs a (λ e j n. elects_on g g w w' e j n s.tree.logs a refl) (λ l. l) (s.each_member 0).leads (s.each_member 0))
    (s.named 0)
    letters

-- where the coordinator stays
pub rest_stays : (g : Tree) (w : ClusterState) (o : ℕ) (mail : List Letter) (last : ℕ) (list : List Chunk) → Sound g o w → Kept w list
    → (AllByRecursion (LetterHolds g (rest w w.coordinator_up w.coordinator mail last list)) w.mail → AllByRecursion (LetterHolds g (rest w w.coordinator_up w.coordinator mail last list)) mail)
    → After g o w g (rest w w.coordinator_up w.coordinator mail last list)
rest_stays g w o mail last list s kept letters =
    rest_sound g w o w.coordinator_up w.coordinator mail last list s (omega arith)
    (λ a. coordinator_on g g w (rest w w.coordinator_up w.coordinator mail last list) o a refl refl s.coordinator) kept letters

-- ---- what is due at a leader

-- the flags of those that acknowledged an end, and of the leader
abbrev acknowledged_by : ℕ → List ℕ → ℕ → List Bool
acknowledged_by end acks i = slice_set (map (nat_le end) acks) i true

flag_end : (end : ℕ) (acks : List ℕ) (i : ℕ) → slice_index_or (map (nat_le end) acks) i false ≡ true → end ≤ slice_index_or acks i 0
flag_end end [] i h = absurd cc
flag_end end (x ∷ xs) zero h = le end x h
  where
    le : (a b : ℕ) → nat_le a b ≡ true → a ≤ b
    le a b h = grind arith
flag_end end (x ∷ xs) (suc i) h = flag_end end xs i h

flag_none : (end : ℕ) (acks : List ℕ) (i : ℕ) → 0 < end → slice_index_or acks i 0 ≡ 0 → slice_index_or (map (nat_le end) acks) i false ≡ false
flag_none end acks i pos none = go (slice_index_or (map (nat_le end) acks) i false) refl
  where
    go : (b : Bool) → slice_index_or (map (nat_le end) acks) i false ≡ b → slice_index_or (map (nat_le end) acks) i false ≡ false
    go true e = (let z = flag_end end acks i e in absurd (omega (arith, none, pos)))
    go false e = e

many : (members n : ℕ) → is_majority members n ≡ true → members < 2 * n
many members n h = grind arith

pub acknowledged : (g : Tree) (w : ClusterState) (o k end : ℕ) (l : Leading) → Sound g o w → IsMember w k → (member w k).role ≡ Leader l → 0 < end → majority_has (member w k).members end l ≡ true
    → (voters : List Bool) × Acknowledged g w k end voters
acknowledged g w o zero end l s lt role pos due = absurd (omega (arith, lt.0))
acknowledged g w o (suc i) end l s lt role pos due =
    let k = suc i in
    let m = member w k in
    let rh : LeaderHolds g w k m.promise l = subst (RoleHolds g w k m.promise) role (s.each_member k).role in
    let acks = l.acknowledged in
    let flags = map (nat_le end) acks in
    let voters = acknowledged_by end acks i in
    let n = length w.seats in
    let count : length flags ≡ n = length-map acks (nat_le end) ∙ rh.places in
    let free : slice_index_or flags i false ≡ false = flag_none end acks i pos rh.own in
    let more : votes voters ≡ 1 + votes flags = votes_set flags i (omega (arith, count, lt.1)) free in
    let same : votes flags ≡ reaching end acks = reaching_votes end acks in
    let most : m.members < 2 * (1 + reaching end acks) = many m.members (1 + reaching end acks) due in
    let all : m.members ≡ n = (s.named k lt).1 in (
      voters,
      record {
        most = record { each = length-set flags i true ∙ count; most = omega (arith, more, same, most, all) };
        each = λ j v. elim (cases_eq j k) [
          | inl eq ↦ inl eq
          | inr ne ↦ inr (by j ne v)
        ];
      },
    )
  where
    by : (j : ℕ) → (j ≡ suc i → ⊥) → is_voter (acknowledged_by end l.acknowledged i) j ≡ true → (at : ℕ) × (end ≤ at) × AskHolds g w (member w (suc i)).promise j at × AskElects g w (member w (suc i)).promise j at
    by zero ne v = absurd cc
    by (suc j) ne v =
        let k = suc i in
        let rh : LeaderHolds g w k (member w k).promise l = subst (RoleHolds g w k (member w k).promise) role (s.each_member k).role in
        let flags = map (nat_le end) l.acknowledged in
        let other : slice_index_or flags j false ≡ true = sym (get_or-set_other flags i j true false (λ e. ne (ap suc e))) ∙ v in
        let le = flag_end end l.acknowledged j other in
        let x = rh.asked (suc j) (omega (arith, le, pos)) in
        (slice_index_or l.acknowledged j 0, le, x.0, x.1)

-- the log of a leader up to its commit end is kept
pub record DueAt (w : ClusterState) (k : ℕ) : Type 0 where
  pub front : List Chunk
  pub begins : GoesOn front (member w k).log
  pub end_is : end_of front ≡ commit_end (member w k)
  pub cut_is : cut_at (commit_end (member w k)) (member w k).log ≡ front
  pub is_kept : Kept w front

some_end : (l : List Chunk) → IsLog l → HasRun l (last_epoch l) (end_of l) → 0 < end_of l
some_end [] is h = absurd h
some_end (c ∷ cs) is h = end_beyond 0 0 c cs is

-- no chunks are kept
pub none_kept : (g : Tree) (w : ClusterState) (o : ℕ) → Sound g o w → Kept w []
none_kept g w o s = record {
  voters = s.committed.voters;
  most = s.committed.most;
  held = λ k v h x. goes_empty [] h refl;
  later = λ k h x lt. goes_empty [] h refl;
  reigns = λ e r is lt. inl refl;
}

pub due_at : (g : Tree) (w : ClusterState) (o k : ℕ) (l : Leading) → Sound g o w → IsMember w k → (member w k).role ≡ Leader l → DueAt w k
due_at g w o k l s lt role =
    let m = member w k in
    let h = s.each_member k in
    let rh : LeaderHolds g w k m.promise l = subst (RoleHolds g w k m.promise) role h.role in
    let c = commit_at m l h.is_log in
    let at : commit_by m.role m ≡ end_of c.front = ap (λ r. commit_by r m) role ∙ sym c.end_is in
    let is_kept : Kept w c.front = elim c.due [
      | inl nil ↦ subst (Kept w) (sym nil) (none_kept g w o s)
      | inr d ↦
          let leads = rh.leads in
          let run = reign_run g w o m.promise c.front s.tree (leads.0, leads.1) d.0 in
          let pos = some_end c.front (log_front c.front m.log c.begins h.is_log) run in
          let a = acknowledged g w o k (end_of c.front) l s lt role pos d.1 in
          commit_kept g w o k c.front a.0 s leads c.begins d.0 a.1
    ] in
    record {
      front = c.front;
      begins = c.begins;
      end_is = sym at;
      cut_is = ap (λ (n : ℕ). cut_at n m.log) at ∙ cut_front c.front m.log c.begins h.is_log;
      is_kept = is_kept;
    }
