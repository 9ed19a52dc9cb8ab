-- At rest all that the leader has is committed.
use Rattle.std.proofs.Common.{◌≡◌, ℕ, ◌+◌, ◌*◌, ◌<◌, ◌≤◌, ◌≢◌, List, [], ◌∷◌, ◌++◌, length, refl, sym, ap, ◌∙◌, subst, inl, inr, arith, Option, Some, None, Bool, true, false, cond, zero, suc}
use Rattle.std.specs.Prelude.{◌&&◌, ◌==◌, nat_lt, nat_le, slice_index_or}
use Rattle.std.proofs.lemmas.Bool.{cases_eq, cases_Bool}
use Rattle.std.proofs.lemmas.List.{append-nil}
use Rattle.chunk_format.specs.declared.chunk.Chunk.{Chunk}
use Rattle.chunk_format.specs.Chunks.{end_of_chunk}
use Rattle.chunk_format.specs.Logs.{GoesOn, end_of, last_epoch}
use Rattle.chunk_format.proofs.LinkLaws.{end_push, epoch_push}
use Rattle.epoch_coordinator.specs.declared.message.Message.TheVariants as messages
use Rattle.epoch_coordinator.specs.declared.message.Job.{Job}
use Rattle.epoch_coordinator.specs.Tails.{tail_of}
use Rattle.epoch_coordinator.specs.Members.{Leading, MemberRole, MemberState, Leader, job_chunks, role_chunks, sequence_of}
use Rattle.epoch_coordinator.specs.MemberSteps.{mail, reaching, majority_has, commit_from, commit_by, commit_end}
use Rattle.replication_laws.specs.Majorities.{votes}
use Rattle.replication_laws.specs.Cluster.{ClusterState, seat, member, IsMember, is_opened, RunsWith}
use Rattle.replication_laws.specs.Confirms.{Awaits}
use Rattle.replication_laws.specs.Soundness as laws
use Rattle.replication_laws.specs.Soundness.{Tree, LeaderLine, LineHolds, LeaderHolds, RoleHolds, LeadsEpoch, Sound, IsSound, acked, IsCommitted}
use Rattle.replication_laws.proofs.Logs.{Ending, Is_empty, Ends_with, ending, front_end}
use Rattle.replication_laws.proofs.Takings.{eq_made}
use Rattle.replication_laws.proofs.Joined.{open_log}
use Rattle.replication_laws.proofs.Claims.{open_sequence_log}
use Rattle.settling_laws.specs.Settling.{is_up, next_job, next_letter}
use Rattle.settling_laws.specs.Tokens.{Behind, Exactly, Token, Tells, Is_told, Asks, Gets, Is_shaped, Works, In_step, LeaderToken, Leads, Is_to_open, Running_by, HasTokens}
use Rattle.settling_laws.specs.Clean.{HasMost, IsComplete}
use Rattle.settling_laws.proofs.Nexts.{is_up_by, free_is}
use Rattle.settling_laws.proofs.Mails.{way_none}
use Rattle.settling_laws.proofs.Known.{leader_opened}

-- ---- at rest each has acknowledged all

pub record Followed (w : ClusterState) (e l : ℕ) : Type 0 where
  pub now : Leading
  pub role : (member w l).role ≡ Leader now
  pub job : (member w l).job ≡ None
  pub each : (k : ℕ) → IsMember w k → k ≢ l → (seat w k).up ≡ true → (member w k).promise ≡ e → end_of (member w l).log ≤ acked now.acknowledged k

pub up_by : (w : ClusterState) (k : ℕ) → IsMember w k → (seat w k).up ≡ true → is_up w k ≡ true
up_by w zero mk up = absurd (omega (arith, mk.0))
up_by w (suc i) mk up = is_up_by w (suc i) (mk, up)

pub idle_by : (w : ClusterState) (k : ℕ) → next_job w ≡ None → IsMember w k → (seat w k).up ≡ true → (member w k).job ≡ None
idle_by w zero none mk up = absurd (omega (arith, mk.0))
idle_by w (suc i) none mk up = (free_is w (suc i) none (mk, up)).1

pub followed : (w : ClusterState) (e l low : ℕ) → HasTokens w e l low → next_job w ≡ None → next_letter w ≡ None → Followed w e l
followed w e l low h none next = go h.leads
  where
    idle : (k : ℕ) → IsMember w k → (seat w k).up ≡ true → (member w k).job ≡ None
    idle k mk up = idle_by w k none mk up

    leader_up : is_up w l ≡ true
    leader_up = up_by w l h.runs.is_member h.runs.leader_up

    go : LeaderToken w e l low → Followed w e l
    go (Is_to_open role way) = absurd (way_none (Exactly low) w (mail l (messages.Open e)) w.mail next leader_up way)
    go (Leads d role) = record { now = d; role = role; job = idle l h.runs.is_member h.runs.leader_up; each = λ k mk nl up p. one k mk up (h.each k mk nl up p) }
      where
        one : (k : ℕ) → IsMember w k → (seat w k).up ≡ true → Token w e l low k (member w k) → end_of (member w l).log ≤ acked d.acknowledged k
        one k mk up (Tells t r way) = absurd (way_none (Behind 0) w (mail 0 (messages.Stopped e k t)) w.mail next h.runs.coordinator_up way)
        one k mk up (Is_told r way) = absurd (way_none (Behind 0) w (mail k (messages.Follow e l)) w.mail next (up_by w k mk up) way)
        one k mk up (Asks r way) = absurd (way_none (Behind low) w (mail l (messages.Ask e k (tail_of (member w k).log))) w.mail next leader_up way)
        one k mk up (Gets c r ok way) = absurd (way_none (Behind 0) w (mail k (messages.Append e (tail_of (member w k).log) c)) w.mail next (up_by w k mk up) way)
        one k mk up (Is_shaped runs r ok way) = absurd (way_none (Behind 0) w (mail k (messages.Shape e runs)) w.mail next (up_by w k mk up) way)
        one k mk up (Works j r jj) = absurd (let z : Some j ≡ None = sym jj ∙ idle k mk up in cc z)
        one k mk up (In_step d' r lr lj le) = (let z : Leader d ≡ Leader d' = sym role ∙ lr in let same : d' ≡ d = cc z in subst (λ (x : Leading). end_of (member w l).log ≤ acked x.acknowledged k) same le)

-- ---- a majority of them

voter_counts : (l first : ℕ) (end : ℕ) (voters : List Bool) (acks : List ℕ) → length acks ≡ length voters
    → ((i : ℕ) → slice_index_or voters i false ≡ true → (first + i ≡ l → ⊥) → end ≤ slice_index_or acks i 0) → votes voters ≤ reaching end acks + cond (nat_le first l) 1 0
voter_counts l first end [] acks same all = omega arith
voter_counts l first end (b ∷ bs) [] same all = absurd (omega (arith, same))
voter_counts l first end (b ∷ bs) (a ∷ acks) same all = go b refl (voter_counts l (first + 1) end bs acks (omega (arith, same)) (λ i v ne. all (suc i) v (λ z. ne (omega (arith, z)))))
  where
    rest : ℕ
    rest = cond (nat_le (first + 1) l) 1 0

    less : nat_le (first + 1) l ≡ true → nat_le first l ≡ true
    less h = grind arith

    at : first ≡ l → (nat_le first l ≡ true) × (nat_le (first + 1) l ≡ false)
    at e = (le_made first l (omega (arith, e)), gt_made (first + 1) l (omega (arith, e)))
      where
        le_made : (a b : ℕ) → a ≤ b → nat_le a b ≡ true
        le_made a b h = grind arith

        gt_made : (a b : ℕ) → b < a → nat_le a b ≡ false
        gt_made a b h = grind arith

    rest_le : cond (nat_le (first + 1) l) 1 0 ≤ cond (nat_le first l) 1 0
    rest_le = elim (cases_Bool (nat_le (first + 1) l)) [
      | inl y ↦ rw (y, less y) (omega arith)
      | inr n ↦ rw n (omega arith)
    ]

    go : (c : Bool) → b ≡ c → votes bs ≤ reaching end acks + cond (nat_le (first + 1) l) 1 0 → cond c 1 0 + votes bs ≤ cond (nat_le end a) 1 0 + reaching end acks + cond (nat_le first l) 1 0
    go false e on = omega (arith, on, rest_le)
    go true e on = elim (cases_eq first l) [
      | inl eq ↦ (let z = at eq in rw (z.0) (let y : votes bs ≤ reaching end acks + 0 = rw z.1 at on in omega (arith, y)))
      | inr ne ↦ (let z = all 0 e (λ x. ne (omega (arith, x))) in let y : nat_le end a ≡ true = le_is end a z in rw y (omega (arith, on, rest_le)))
    ]
      where
        le_is : (a b : ℕ) → a ≤ b → nat_le a b ≡ true
        le_is a b h = grind arith

-- ---- the end of the commit

pub commit_last : (end : ℕ) (m : MemberState) (d : Leading) (front : List Chunk) (c : Chunk) → c.epoch ≡ m.promise → majority_has m.members (end_of_chunk c) d ≡ true → commit_from end m d (front ++ c ∷ []) ≡ end_of_chunk c
commit_last end m d [] c e has = rw (eq_made c.epoch m.promise e, has) refl
commit_last end m d (x ∷ front) c e has = commit_last (cond ((x.epoch == m.promise) && majority_has m.members (end_of_chunk x) d) (end_of_chunk x) end) m d front c e has

voter_within : (voters : List Bool) (i : ℕ) → slice_index_or voters i false ≡ true → i < length voters
voter_within [] zero h = absurd (cc h)
voter_within [] (suc i) h = absurd (cc h)
voter_within (b ∷ bs) zero h = omega arith
voter_within (b ∷ bs) (suc i) h = (let z = voter_within bs i h in omega (arith, z))

pub complete : (g : Tree) (w : ClusterState) (o e l : ℕ) → Sound g o w → IsCommitted w → GoesOn w.committed (member w l).log → Running_by w e l → Followed w e l → HasMost w e → IsComplete w l
complete g w o e l s reached begins runs f most = record { committed_all = all; no_job = f.job; nothing_behind = ap end_of sequence ∙ sym all }
  where
    m : MemberState
    m = member w l

    d : Leading
    d = f.now

    opened : d.opened ≡ true
    opened = leader_opened g w o l d s runs.leader_up f.role f.job

    log : (LeadsEpoch w m.promise l) × (last_epoch m.log ≡ m.promise) × (m.log ≡ g.canon m.promise)
    log = open_log g w o l s runs.is_member runs.leader_up (ap is_opened f.role ∙ opened)

    rh : LeaderHolds g w l m.promise d
    rh = subst (RoleHolds g w l m.promise) f.role (s.each_member l).role

    line : LeaderLine m.promise m.log m.job d
    line = subst (LineHolds m.promise m.log m.job) f.role ((s.each_member l).line runs.leader_up)

    voted : (i : ℕ) → slice_index_or most.voters i false ≡ true → (1 + i ≡ l → ⊥) → end_of m.log ≤ slice_index_or d.acknowledged i 0
    voted i v ne =
        let within = voter_within most.voters i v in
        let x = most.each (suc i) v in
        f.each (suc i) (omega arith, (let c = most.most.each in omega (arith, within, c))) (λ z. ne (omega (arith, z))) x.0 x.1

    counted : votes most.voters ≤ reaching (end_of m.log) d.acknowledged + 1
    counted = let x = voter_counts l 1 (end_of m.log) most.voters d.acknowledged (rh.places ∙ sym most.most.each) voted in
        elim (cases_Bool (nat_le 1 l)) [
          | inl y ↦ rw y at x
          | inr n ↦ (let z : votes most.voters ≤ reaching (end_of m.log) d.acknowledged + 0 = rw n at x in omega (arith, z))
        ]

    lt_made : (a b : ℕ) → a < b → nat_lt a b ≡ true
    lt_made a b h = grind arith

    has : majority_has m.members (end_of m.log) d ≡ true
    has = let c = (s.named l runs.is_member).1 in let v = most.most.most in
        lt_made m.members (2 * (1 + reaching (end_of m.log) d.acknowledged)) (omega (arith, c, v, counted))

    end_is : commit_end m ≡ end_of m.log
    end_is = ap (λ (r : MemberRole). commit_by r m) f.role ∙ go (ending m.log)
      where
        go : Ending m.log → commit_from 0 m d m.log ≡ end_of m.log
        go (Is_empty e) = rw e refl
        go (Ends_with front c e) =
            let end : end_of m.log ≡ end_of_chunk c = ap end_of e ∙ end_push front c in
            let epoch : c.epoch ≡ m.promise = sym (ap last_epoch e ∙ epoch_push front c) ∙ log.1 in
            ap (commit_from 0 m d) e ∙ (commit_last 0 m d front c epoch (subst (λ (n : ℕ). majority_has m.members n d ≡ true) end has) ∙ sym end)

    all : end_of w.committed ≡ end_of m.log
    all = let a = reached l runs.is_member runs.leader_up in let b = front_end w.committed m.log begins (s.each_member l).is_log in omega (arith, a, b, end_is)

    sequence : sequence_of m ≡ m.log
    sequence =
        let q : d.queue ≡ [] = subst (λ (j : Option Job). laws.Behind j d.queue) f.job line.behind in
        ap (λ (j : Option Job). m.log ++ (job_chunks j ++ role_chunks m.role)) f.job ∙ (ap (λ (r : MemberRole). m.log ++ ([] ++ role_chunks r)) f.role ∙ (ap (λ (l : List Chunk). m.log ++ l) q ∙ append-nil m.log))

-- so no claim waits
pub none_waits : (Says : List Chunk → Type 0) (o e l end : ℕ) (w : ClusterState) → IsSound o w → RunsWith w e l → IsComplete w l → Awaits Says e end w → ⊥
none_waits Says o e l end w s runs c a =
    let lead : a.leader ≡ l = (let z = sym a.runs.phase ∙ runs.phase in cc z) in
    let begins : GoesOn a.stands.front (sequence_of (member w l)) = subst (GoesOn a.stands.front) (ap (λ (k : ℕ). sequence_of (member w k)) lead) a.stands.begins in
    let b = front_end a.stands.front (sequence_of (member w l)) begins (open_sequence_log o e l w s runs) in
    let at = a.stands.end_is in
    let p = a.past in
    let n = c.nothing_behind in
    omega (arith, b, at, p, n)
