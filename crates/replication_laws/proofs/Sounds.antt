-- From a sound state to the next, where one member changes and no reign is added.
use Rattle.std.proofs.Common.{◌≡◌, ℕ, ◌+◌, ◌<◌, ◌≤◌, ◌⊎◌, List, [], ◌∷◌, ◌++◌, length, refl, ap, ◌∙◌, inl, inr, arith, Some, Bool, true, false, cond, zero, suc}
use Rattle.std.specs.Prelude.{nat_lt}
use Rattle.std.proofs.lemmas.Bool.{cases_eq}
use Rattle.std.proofs.lemmas.List.{get_or-set_same, get_or-set_other, length-set}
use Rattle.std.specs.List.{AllByRecursion}
use Rattle.chunk_format.specs.declared.chunk.Chunk.{Chunk}
use Rattle.chunk_format.specs.Logs.{GoesOn}
use Rattle.chunk_format.proofs.BeginLaws.{goes_same}
use Rattle.epoch_coordinator.specs.declared.message.Sent.{Sent}
use Rattle.epoch_coordinator.specs.Tails.{tail_of}
use Rattle.epoch_coordinator.specs.Members.{MemberState}
use Rattle.replication_laws.specs.Cluster.{Seat, Letter, Reign, ClusterState, nobody, seat, member, IsMember, placed, put, reign, last_number, numbered, send, Holds}
use Rattle.replication_laws.specs.Soundness.{Tree, IsMark, Lacks, AllReach, LeadsEpoch, HasReign, IsCalm, LeadsWith, MessageHolds, LetterHolds, MemberHolds, OwnBehind, ReignHolds, TreeHolds, CoordinatorHolds, Kept, Sound}
use Rattle.replication_laws.proofs.Logs.{run_front}
use Rattle.replication_laws.proofs.Frame.{Sources, Advance, Fits, ElectsOn, elects_on, letter_on}
use Rattle.replication_laws.proofs.Carry.{member_on, reign_on, coordinator_on, kept_on}

-- ---- lists of facts

pub all_weaker : {X : Type 0} (P Q : X → Type 0) → ((x : X) → P x → Q x) → (xs : List X) → AllByRecursion P xs → AllByRecursion Q xs
all_weaker P Q f [] h = tt
all_weaker P Q f (x ∷ xs) h = (f x h.0, all_weaker P Q f xs h.1)

pub all_join : {X : Type 0} (P : X → Type 0) → (xs ys : List X) → AllByRecursion P xs → AllByRecursion P ys → AllByRecursion P (xs ++ ys)
all_join P [] ys h k = k
all_join P (x ∷ xs) ys h k = (h.0, all_join P xs ys h.1 k)

-- what is sent has it, so the messages that are numbered have it
pub all_numbered : (P : Sent → Type 0) → (last : ℕ) (sent : List Sent) → AllByRecursion P sent → AllByRecursion (λ (l : Letter). P l.sent) (numbered last sent)
all_numbered P last [] h = tt
all_numbered P last (s ∷ more) h = go (nat_lt last last_number) (all_numbered P (last + 1) more h.1)
  where
    go : (b : Bool) → AllByRecursion (λ (l : Letter). P l.sent) (numbered (last + 1) more)
        → AllByRecursion (λ (l : Letter). P l.sent) (cond b (record { number = last + 1; delivered = false; sent = s } ∷ numbered (last + 1) more) [])
    go true rest = (h.0, rest)
    go false rest = tt

-- ---- one member is another

pub seat_put : (w : ClusterState) (k : ℕ) (s : Seat) → IsMember w k → seat (put w k s) k ≡ s
seat_put w zero s h = absurd (omega (arith, h.0))
seat_put w (suc i) s h = get_or-set_same w.seats i s nobody (omega (arith, h.1))

pub seat_else : (w : ClusterState) (j k : ℕ) (s : Seat) → (k ≡ j → ⊥) → seat (put w j s) k ≡ seat w k
seat_else w zero k s ne = refl
seat_else w (suc i) zero s ne = refl
seat_else w (suc i) (suc l) s ne = get_or-set_other w.seats i l s nobody (λ e. ne (ap suc e))

pub member_put : (w : ClusterState) (k : ℕ) (s : Seat) → IsMember w k → member (put w k s) k ≡ s.state
member_put w k s h = ap (λ (x : Seat). x.state) (seat_put w k s h)

pub member_else : (w : ClusterState) (j k : ℕ) (s : Seat) → (k ≡ j → ⊥) → member (put w j s) k ≡ member w k
member_else w j k s ne = ap (λ (x : Seat). x.state) (seat_else w j k s ne)

pub count_put : (k : ℕ) (s : Seat) (seats : List Seat) → length (placed k s seats) ≡ length seats
count_put zero s seats = refl
count_put (suc i) s seats = length-set seats i s

-- ---- what a step gives

-- the next state is sound, and each list that was kept stays kept
pub record After (g : Tree) (o : ℕ) (w : ClusterState) (g' : Tree) (w' : ClusterState) : Type 0 where
  pub sound : Sound g' o w'
  pub kept : (l : List Chunk) → Kept w l → Kept w' l
  pub sources : Sources g w g'
  pub reigns : (e : ℕ) (r : Reign) → reign w e ≡ Some r → reign w' e ≡ Some r

-- a member keeps its number
abbrev pub Named : ClusterState → ℕ → Type 0
Named w k = IsMember w k → ((member w k).number ≡ k) × ((member w k).members ≡ length w.seats)

pub sound_on : (g g' : Tree) (w w' : ClusterState) (o j : ℕ) → Sound g o w → Advance g w g' w'
    → ((k : ℕ) → (k ≡ j → ⊥) → seat w' k ≡ seat w k)
    → w'.reigns ≡ w.reigns → (Advance g w g' w' → CoordinatorHolds o w' w'.coordinator) → (((l : List Chunk) → Kept w l → Kept w' l) → Kept w' w'.committed)
    → TreeHolds g' w' o
    → ((k : ℕ) → (k ≡ j → ⊥) → LeadsEpoch w (member w k).promise k → LeadsWith g (member w k).promise (member w k).log → LeadsWith g' (member w k).promise (member w k).log)
    → ((e : ℕ) (r : Reign) → reign w e ≡ Some r → OwnBehind g' e)
    → MemberHolds g' w' j (seat w' j) → Named w' j
    → (AllByRecursion (LetterHolds g' w') w.mail → AllByRecursion (LetterHolds g' w') w'.mail)
    → After g o w g' w'
sound_on g g' w w' o j s a others same coordinator listed t' still begins changed named letters =
    let elects : ElectsOn g w g' w' = λ e j n. elects_on g g' w w' e j n t'.logs a same in
    let members : (k : ℕ) → MemberHolds g' w' k (seat w' k) =
    λ k. elim (cases_eq k j) [
      | inl eq ↦ rw eq changed
      | inr ne ↦
          rw (others k ne) (member_on g g' w w' k (seat w k) t'.logs a elects (λ l. (l.0, rw same at l.1, l.2))
          (λ l. still k ne (l.0, rw same at l.1, l.2) ((s.each_member k).leads (l.0, rw same at l.1, l.2))) (s.each_member k))
    ] in
    let reigns : (e : ℕ) (r : Reign) → reign w' e ≡ Some r → ReignHolds g' w' e r =
    λ e r is. let is' : reign w e ≡ Some r = rw same at is in
    reign_on g g' w w' e r a is' (begins e r is') (s.each_reign e r is') in
    let kept : (l : List Chunk) → Kept w l → Kept w' l = λ l. kept_on g g' w w' o l s.tree t' a same s.each_member members reigns in
    let names : (k : ℕ) → Named w' k =
    λ k is. elim (cases_eq k j) [
      | inl eq ↦ rw eq (named (rw eq at is))
      | inr ne ↦ (let old = s.named k (is.0, omega (arith, is.1, a.count)) in let same : member w' k ≡ member w k = ap (λ (x : Seat). x.state) (others k ne) in rw (same, a.count) old)
    ] in
    record {
      kept = kept;
      sources = a.sources;
      reigns = a.reigns;
      sound = record {
        tree = t';
        each_member = members;
        named = names;
        each_reign = reigns;
        each_letter = letters (all_weaker (LetterHolds g w) (LetterHolds g' w') (letter_on g g' w w' t'.logs a elects) w.mail s.each_letter);
        coordinator = coordinator a;
        committed = listed kept;
      };
    }

-- each log that is held now goes on from one that was held before
abbrev pub Covers : MemberState → MemberState → Type 0
Covers m n = (h : List Chunk) → Holds n h → (b : List Chunk) × Holds m b × GoesOn b h

abbrev pub KeepsRuns : Tree → ClusterState → MemberState → MemberState → Type 0
KeepsRuns g w m n = (e at : ℕ) → IsMark g.canon e at → AllReach m e at → AllReach n e at ⊎ Lacks w.reigns e at n.promise

abbrev pub KeepsCalm : ClusterState → MemberState → MemberState → Type 0
KeepsCalm w m n = IsCalm m → HasReign w m.promise ⊎ ((m.promise < n.promise) ⊎ ((n.promise ≡ m.promise) × IsCalm n × (tail_of n.log ≡ tail_of m.log)))

pub keeps_by_cover : (g : Tree) (w : ClusterState) (m n : MemberState) → Covers m n → KeepsRuns g w m n
keeps_by_cover g w m n c e at mark all = inl (λ h x. let b = c h x in run_front b.0 h e at b.2 (all b.0 b.1))

pub advance_put : (g : Tree) (w : ClusterState) (k : ℕ) (s : Seat) (ms : List Sent) → IsMember w k
    → (member w k).promise ≤ s.state.promise → KeepsRuns g w (member w k) s.state → Fits g w (member w k) s.state → KeepsCalm w (member w k) s.state
    → Advance g w g (send (put w k s) ms)
advance_put g w k s ms lt up runs fit calm = record {
  grows = λ e. goes_same (g.canon e);
  bases = λ e h. refl;
  sources = λ e. inl (goes_same (g.canon e));
  reigns = λ e r is. is;
  count = count_put k s w.seats;
  not_back = omega arith;
  promises = λ j. elim (cases_eq j k) [
    | inl eq ↦ rw (eq, member_put w k s lt) up
    | inr ne ↦ rw (member_else w k j s ne) (omega arith)
  ];
  keeps = λ j e at mark all. elim (cases_eq j k) [
    | inl eq ↦ rw (eq, member_put w k s lt) (runs e at mark (rw eq at all))
    | inr ne ↦ rw (member_else w k j s ne) (inl all)
  ];
  fits = λ j. elim (cases_eq j k) [
    | inl eq ↦ rw (eq, member_put w k s lt) fit
    | inr ne ↦ rw (member_else w k j s ne) (λ h x. inl (h, x, goes_same h))
  ];
  calm = λ j c. elim (cases_eq j k) [
    | inl eq ↦ rw (eq, member_put w k s lt) (calm (rw eq at c))
    | inr ne ↦ rw (member_else w k j s ne) (inr (inr (refl, c, refl)))
  ];
}

-- a message that is sent
abbrev pub SentHolds : Tree → ClusterState → Sent → Type 0
SentHolds g w s = MessageHolds g w s.to s.message

-- the number of a member and of all stay
abbrev pub SameName : MemberState → MemberState → Type 0
SameName m n = (n.number ≡ m.number) × (n.members ≡ m.members)

pub named_put : (g : Tree) (w : ClusterState) (o k : ℕ) (s : Seat) (ms : List Sent) → Sound g o w → IsMember w k → SameName (member w k) s.state → Named (send (put w k s) ms) k
named_put g w o k s ms so lt same is =
    let old = so.named k lt in
    rw (member_put w k s lt, count_put k s w.seats) (same.0 ∙ old.0, same.1 ∙ old.1)

-- one member changes and sends; the longest logs stay
pub put_sound : (g : Tree) (w : ClusterState) (o k : ℕ) (s : Seat) (ms : List Sent) → Sound g o w → IsMember w k
    → SameName (member w k) s.state
    → (member w k).promise ≤ s.state.promise → KeepsRuns g w (member w k) s.state → Fits g w (member w k) s.state → KeepsCalm w (member w k) s.state
    → (Advance g w g (send (put w k s) ms) → MemberHolds g (send (put w k s) ms) k s)
    → (Advance g w g (send (put w k s) ms) → AllByRecursion (SentHolds g (send (put w k s) ms)) ms)
    → After g o w g (send (put w k s) ms)
put_sound g w o k s ms so lt same up runs fit calm holds new =
    let w' = send (put w k s) ms in
    let a = advance_put g w k s ms lt up runs fit calm in
    sound_on g g w w' o k so a
    (λ j ne. seat_else w k j s ne)
    refl
    (λ a. coordinator_on g g w w' o a refl refl so.coordinator)
    (λ kept. kept w.committed so.committed)
    (record { logs = so.tree.logs; rooted = so.tree.rooted; ends = so.tree.ends; known = so.tree.known; reigns_later = so.tree.reigns_later; not_ahead = so.tree.not_ahead })
    (λ j ne l x. x)
    (λ e r is. (so.each_reign e r is).begins)
    (rw (seat_put w k s lt) (holds a))
    (named_put g w o k s ms so lt same)
    (λ old. all_join (LetterHolds g w') w.mail (numbered w.last ms) old (all_numbered (SentHolds g w') w.last ms (new a)))
