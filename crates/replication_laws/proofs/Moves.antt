-- What becomes of what a member will have written, and what a step gives.
use Rattle.std.proofs.Common.{◌≡◌, ℕ, List, [], ◌∷◌, ◌++◌, refl, sym, ap, ◌∙◌, subst, append_assoc, inl, inr, arith, Option, Some, None, true, false}
use Rattle.std.specs.Prelude.{ℤ}
use Rattle.std.specs.List.{AllByRecursion}
use Rattle.std.proofs.lemmas.Bool.{cases_eq}
use Rattle.chunk_format.specs.declared.chunk.Chunk.{Chunk}
use Rattle.chunk_format.specs.Logs.{GoesOn, IsLog, opening_chunk}
use Rattle.chunk_format.proofs.BeginLaws.{goes_same, goes_on}
use Rattle.epoch_coordinator.specs.declared.message.Job.{Job}
use Rattle.epoch_coordinator.specs.declared.message.Job.TheVariants.{Write, Cut, Promise, Epoch}
use Rattle.epoch_coordinator.specs.declared.message.Sent.{Sent}
use Rattle.epoch_coordinator.specs.Members.{MemberRole, MemberState, job_chunks, role_chunks, sequence_of}
use Rattle.epoch_coordinator.specs.MemberSteps.{Took, next_job, behind_first}
use Rattle.replication_laws.specs.Cluster.{Seat, ClusterState, seat, member, IsMember, put, send, HoldsBy, Holds, is_opened}
use Rattle.replication_laws.specs.Soundness.{Tree, Sound}
use Rattle.replication_laws.proofs.Logs.{goes_behind, begins_as, same_begins}
use Rattle.replication_laws.proofs.Frame.{Advance}
use Rattle.replication_laws.proofs.Carry.{job_on, role_on}
use Rattle.replication_laws.proofs.Frame.{elects_on}
use Rattle.replication_laws.proofs.Sounds.{member_put, member_else, After, SentHolds, put_sound, keeps_by_cover}
use Rattle.replication_laws.proofs.Followers.{is_up}

-- Of a member's sequence: it stays, or gets an opening chunk; or the member is no open leader, and has a beginning of what it had or of a longest log.
pub data MoveOf (canon : ℕ → List Chunk) (m n : MemberState) : Type 0 where
  Stays : sequence_of n ≡ sequence_of m → MoveOf canon m n
  Opens : (epoch : ℕ) (stamp : ℤ) → is_opened n.role ≡ false → IsLog (sequence_of m) → sequence_of n ≡ sequence_of m ++ opening_chunk epoch stamp (sequence_of m) ∷ [] → MoveOf canon m n
  Falls_back : is_opened n.role ≡ false → GoesOn (sequence_of n) (sequence_of m) → MoveOf canon m n
  Adopts : (e : ℕ) → is_opened n.role ≡ false → GoesOn (sequence_of n) (canon e) → MoveOf canon m n

-- what a step gives, whichever longest logs stand for it
pub record Next (o : ℕ) (w w' : ClusterState) (g : Tree) : Type 0 where
  pub tree : Tree
  pub after : After g o w tree w'
  pub moves : (i : ℕ) → MoveOf tree.canon (member w i) (member w' i)
  pub grows : GoesOn w.committed w'.committed

-- a member that is up did something
abbrev pub done_by : ClusterState → ℕ → Took → ClusterState
done_by w k t = send (put w k (is_up t.state)) t.sent

abbrev pub Did : Tree → ClusterState → ℕ → ℕ → Took → Type 0
Did g w o k t = Next o w (done_by w k t) g

pub still : (canon : ℕ → List Chunk) (m : MemberState) → MoveOf canon m m
still canon m = Stays refl

pub moves_put : (canon : ℕ → List Chunk) (w : ClusterState) (k : ℕ) (s : Seat) (ms : List Sent) → IsMember w k → MoveOf canon (member w k) s.state
    → (i : ℕ) → MoveOf canon (member w i) (member (send (put w k s) ms) i)
moves_put canon w k s ms lt here i = elim (cases_eq i k) [
  | inl eq ↦ rw (eq, member_put w k s lt) here
  | inr ne ↦ rw (member_else w k i s ne) (still canon (member w i))
]

-- one member changes
pub put_next : (o : ℕ) (w : ClusterState) (g g' : Tree) (k : ℕ) (s : Seat) (ms : List Sent) → IsMember w k → After g o w g' (send (put w k s) ms) → MoveOf g'.canon (member w k) s.state → Next o w (send (put w k s) ms) g
put_next o w g g' k s ms lt a move = record { tree = g'; after = a; moves = moves_put g'.canon w k s ms lt move; grows = goes_same w.committed }

-- ---- sequences

-- what a member with this job and role will have written
pub sequence_as : (m : MemberState) (j : Option Job) (r : MemberRole) → m.job ≡ j → m.role ≡ r → sequence_of m ≡ m.log ++ (job_chunks j ++ role_chunks r)
sequence_as m j r e f = ap (λ (x : Option Job). m.log ++ (job_chunks x ++ role_chunks m.role)) e ∙ ap (λ (x : MemberRole). m.log ++ (job_chunks j ++ role_chunks x)) f

pub log_begins : (m : MemberState) → GoesOn m.log (sequence_of m)
log_begins m = goes_behind m.log (job_chunks m.job ++ role_chunks m.role)

-- a log that its disk may have begins it
pub held_begins : (m : MemberState) (h : List Chunk) → Holds m h → GoesOn h (sequence_of m)
held_begins m h x = go m.job x
  where
    go : (j : Option Job) → HoldsBy j m.log h → GoesOn h (m.log ++ (job_chunks j ++ role_chunks m.role))
    go None x = goes_on h m.log (m.log ++ role_chunks m.role) (same_begins h m.log x) (goes_behind m.log (role_chunks m.role))
    go (Some (Promise e)) x = goes_on h m.log (m.log ++ role_chunks m.role) (same_begins h m.log x) (goes_behind m.log (role_chunks m.role))
    go (Some (Epoch e)) x = goes_on h m.log (m.log ++ role_chunks m.role) (same_begins h m.log x) (goes_behind m.log (role_chunks m.role))
    go (Some (Write c)) (inl x) = goes_on h m.log (m.log ++ (c ∷ [] ++ role_chunks m.role)) (same_begins h m.log x) (goes_behind m.log (c ∷ [] ++ role_chunks m.role))
    go (Some (Write c)) (inr x) =
        goes_on h (m.log ++ c ∷ []) (m.log ++ (c ∷ [] ++ role_chunks m.role)) (same_begins h (m.log ++ c ∷ []) x)
        (begins_as (m.log ++ c ∷ []) ((m.log ++ c ∷ []) ++ role_chunks m.role) (m.log ++ (c ∷ [] ++ role_chunks m.role)) (append_assoc m.log (c ∷ []) (role_chunks m.role)) (goes_behind (m.log ++ c ∷ []) (role_chunks m.role)))
    go (Some (Cut to)) x = goes_on h m.log (m.log ++ role_chunks m.role) x.0 (goes_behind m.log (role_chunks m.role))

-- it has a beginning of what it was about to write
pub falls : (canon : ℕ → List Chunk) (m n : MemberState) (l : List Chunk) → is_opened n.role ≡ false → sequence_of n ≡ l → GoesOn l (sequence_of m) → MoveOf canon m n
falls canon m n l closed e p = Falls_back closed (subst (λ (x : List Chunk). GoesOn x (sequence_of m)) (sym e) p)

pub adopts : (canon : ℕ → List Chunk) (m n : MemberState) (l : List Chunk) (e : ℕ) → is_opened n.role ≡ false → sequence_of n ≡ l → GoesOn l (canon e) → MoveOf canon m n
adopts canon m n l e closed same p = Adopts e closed (subst (λ (x : List Chunk). GoesOn x (canon e)) (sym same) p)

-- the next of a queue as a job, and what waits behind it
pub next_sequence : (l q : List Chunk) → l ++ (job_chunks (next_job q) ++ behind_first q) ≡ l ++ q
next_sequence l [] = refl
next_sequence l (c ∷ cs) = refl

-- ---- a member stays as it is, and sends

pub still_after : (g : Tree) (w : ClusterState) (o k : ℕ) (ms : List Sent) → Sound g o w → IsMember w k → (seat w k).up ≡ true
    → ((w' : ClusterState) → w'.reigns ≡ w.reigns → Advance g w g w' → AllByRecursion (SentHolds g w') ms)
    → After g o w g (send (put w k (is_up (member w k))) ms)
still_after g w o k ms s lt up sent =
    let m = member w k in
    let h = s.each_member k in
    let w' = send (put w k (is_up m)) ms in
    put_sound g w o k (is_up m) ms s lt (refl, refl) (omega arith)
    (keeps_by_cover g w m m (λ x y. (x, y, goes_same x)))
    (λ x y. inl (x, y, goes_same x))
    (λ q. inr (inr (refl, q, refl)))
    (λ a. record {
      is_log = h.is_log;
      below = h.below;
      not_ahead = h.not_ahead;
      rooted = h.rooted;
      job = job_on g g w w' k m.promise m.log a (λ l. l) m.job h.job;
      role = role_on g g w w' k m.promise s.tree.logs a (λ e j q. elects_on g g w w' e j q s.tree.logs a refl) m.role h.role;
      leads = h.leads;
      line = λ _. h.line up;
    })
    (λ a. sent w' refl a)

pub still_sound : (g : Tree) (w : ClusterState) (o k : ℕ) (ms : List Sent) → Sound g o w → IsMember w k → (seat w k).up ≡ true
    → ((w' : ClusterState) → w'.reigns ≡ w.reigns → Advance g w g w' → AllByRecursion (SentHolds g w') ms)
    → Did g w o k (record { state = member w k; sent = ms })
still_sound g w o k ms s lt up sent = put_next o w g g k (is_up (member w k)) ms lt (still_after g w o k ms s lt up sent) (still g.canon (member w k))

pub silent_sound : (g : Tree) (w : ClusterState) (o k : ℕ) → Sound g o w → IsMember w k → (seat w k).up ≡ true → Did g w o k (record { state = member w k; sent = [] })
silent_sound g w o k s lt up = still_sound g w o k [] s lt up (λ w' same a. tt)
