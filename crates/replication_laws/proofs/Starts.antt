-- The first state over logs that pass the tests is sound.
use Rattle.std.proofs.Common.{◌≡◌, ℕ, ◌+◌, ◌<◌, ◌≤◌, ◌⊎◌, List, [], ◌∷◌, ◌++◌, length, length-append, refl, sym, ap, ◌∙◌, subst, append_assoc, inl, inr, arith, Some, None, Bool, true, false, cond, zero, suc, replicate}
use Rattle.std.specs.Prelude.{◌&&◌, ◌==◌, nat_lt, nat_le, if◌then◌else◌, slice_index_or}
use Rattle.std.proofs.lemmas.Bool.{cases_eq, cases_lt}
use Rattle.std.proofs.lemmas.List.{append-nil, append_cancel_left, get_or_past, length-replicate}
use Rattle.chunk_format.specs.declared.chunk.Chunk.{Chunk}
use Rattle.chunk_format.specs.Chunks.{end_of_chunk}
use Rattle.chunk_format.specs.Logs.{GoesOn, epoch_from, last_epoch, Linked, IsLog}
use Rattle.chunk_format.proofs.LinkLaws.{epoch_join, linked_front, epoch_past}
use Rattle.chunk_format.proofs.BeginLaws.{goes_same, goes_on, goes_either, log_front}
use Rattle.epoch_coordinator.specs.Members.{sequence_of}
use Rattle.epoch_coordinator.specs.MemberSteps.{has_epoch, restarted, commit_end}
use Rattle.replication_laws.specs.Majorities.{votes}
use Rattle.replication_laws.specs.Cluster.{Seat, ClusterState, nobody, seat, member, IsMember, last_number}
use Rattle.replication_laws.specs.Openings.{upto, Start, no_start, start_at, start_seats, opened_cluster, IsWhole, Agrees, Begins, Is_begun, Parts, CanStart}
use Rattle.replication_laws.specs.Soundness.{Tree, IsRooted, HasReign, MemberHolds, Sound, IsSound, IsCommitted}
use Rattle.replication_laws.specs.Properties.{IsLogProperty, SoundWith}
use Rattle.replication_laws.proofs.Logs.{goes_none, goes_empty, same_begins, begins_as, none_begins, front_epoch}
use Rattle.replication_laws.proofs.Followers.{is_up}
use Rattle.replication_laws.proofs.Takings.{eq_is, eq_made}
use Rattle.replication_laws.proofs.Walks.{or_left, or_right}
use Rattle.replication_laws.proofs.Coordinating.{untold_count}

-- ---- the beginning of a log whose chunks have an epoch of at most e

behind_one : (c : Chunk) (a b : List Chunk) → GoesOn a b → GoesOn (c ∷ a) (c ∷ b)
behind_one c a b p = (p.0, ap (λ (l : List Chunk). c ∷ l) p.1)

pub upto_front : (e : ℕ) (xs : List Chunk) → GoesOn (upto e xs) xs
upto_front e [] = goes_same []
upto_front e (c ∷ cs) = go (nat_le c.epoch e) (upto_front e cs)
  where
    go : (b : Bool) → GoesOn (upto e cs) cs → GoesOn (cond b (c ∷ upto e cs) []) (c ∷ cs)
    go true p = behind_one c (upto e cs) cs p
    go false p = goes_none (c ∷ cs)

le_by : (a b : ℕ) → a ≤ b → nat_le a b ≡ true
le_by a b h = grind arith

le_is : (a b : ℕ) → nat_le a b ≡ true → a ≤ b
le_is a b h = grind arith

-- a beginning that doesn't end above e stands in it
in_upto_by : (e at d : ℕ) (xs more : List Chunk) → Linked at d (xs ++ more) → epoch_from d xs ≤ e → GoesOn xs (upto e (xs ++ more))
in_upto_by e at d [] more l h = goes_none (upto e more)
in_upto_by e at d (x ∷ xs) more l h =
    let rest = in_upto_by e (end_of_chunk x) x.epoch xs more l.behind h in
    let low = epoch_past (end_of_chunk x) x.epoch xs (linked_front (end_of_chunk x) x.epoch xs more l.behind) in
    subst (λ (b : Bool). GoesOn (x ∷ xs) (cond b (x ∷ upto e (xs ++ more)) [])) (sym (le_by x.epoch e (omega (arith, low, h)))) (behind_one x xs (upto e (xs ++ more)) rest)

pub in_upto : (e : ℕ) (xs log : List Chunk) → GoesOn xs log → IsLog log → last_epoch xs ≤ e → GoesOn xs (upto e log)
in_upto e xs log p l h = subst (λ (y : List Chunk). GoesOn xs (upto e y)) (sym p.1) (in_upto_by e 0 0 xs p.0 (subst IsLog p.1 l) h)

upto_epoch_by : (d e : ℕ) (ys : List Chunk) → d ≤ e → epoch_from d (upto e ys) ≤ e
upto_epoch_by d e [] h = h
upto_epoch_by d e (c ∷ cs) h = go (nat_le c.epoch e) refl (upto_epoch_by c.epoch e cs)
  where
    go : (b : Bool) → nat_le c.epoch e ≡ b → (c.epoch ≤ e → epoch_from c.epoch (upto e cs) ≤ e) → epoch_from d (cond b (c ∷ upto e cs) []) ≤ e
    go true q on = on (le_is c.epoch e q)
    go false q on = h

pub upto_epoch : (e : ℕ) (ys : List Chunk) → last_epoch (upto e ys) ≤ e
upto_epoch e ys = upto_epoch_by 0 e ys (omega arith)

-- ---- logs agree

-- of two logs that both have a chunk of an epoch, one begins the other up to it
abbrev pub AgreeAt : ℕ → List Chunk → List Chunk → Type 0
AgreeAt e a b = last_epoch (upto e a) ≡ e → last_epoch (upto e b) ≡ e → GoesOn (upto e a) (upto e b) ⊎ GoesOn (upto e b) (upto e a)

-- what ends in an epoch has it
last_has : (d e : ℕ) (r : Chunk) (rs more : List Chunk) → epoch_from d (r ∷ rs) ≡ e → has_epoch e ((r ∷ rs) ++ more) ≡ true
last_has d e r [] more h = or_left (r.epoch == e) (has_epoch e more) (eq_made r.epoch e h)
last_has d e r (s ∷ rs) more h = or_right (r.epoch == e) (has_epoch e ((s ∷ rs) ++ more)) (last_has r.epoch e s rs more h)

-- where the rest of a log has no chunk of e, its part up to e ends before
before_rest : (e : ℕ) (log front : List Chunk) (x : Chunk) (xs : List Chunk) → log ≡ front ++ x ∷ xs → last_epoch (upto e log) ≡ e → has_epoch e (x ∷ xs) ≡ false → GoesOn (upto e log) front
before_rest e log front x xs is last none = elim (goes_either (upto e log) front log (upto_front e log) (x ∷ xs, is)) [
  | inl p ↦ p
  | inr p ↦ go p.0 p.1
]
  where
    go : (rest : List Chunk) → upto e log ≡ front ++ rest → GoesOn (upto e log) front
    go [] q = same_begins (upto e log) front (q ∙ append-nil front)
    go (r ∷ rs) q =
        let more = (upto_front e log).0 in
        let whole : front ++ ((r ∷ rs) ++ more) ≡ front ++ x ∷ xs = sym (append_assoc front (r ∷ rs) more) ∙ (ap (λ (l : List Chunk). l ++ more) (sym q) ∙ (sym (upto_front e log).1 ∙ is)) in
        let rest : (r ∷ rs) ++ more ≡ x ∷ xs = append_cancel_left front ((r ∷ rs) ++ more) (x ∷ xs) whole in
        let ends : epoch_from (last_epoch front) (r ∷ rs) ≡ e = sym (epoch_join 0 front (r ∷ rs)) ∙ (ap last_epoch (sym q) ∙ last) in
        let has : has_epoch e (x ∷ xs) ≡ true = subst (λ (l : List Chunk). has_epoch e l ≡ true) rest (last_has (last_epoch front) e r rs more ends) in
        absurd (let both : true ≡ false = sym has ∙ none in cc)

pub agrees_at : (e : ℕ) (a b : List Chunk) → IsLog a → IsLog b → Agrees a b → AgreeAt e a b
agrees_at e a b la lb (Begins p) ta tb = inl (in_upto e (upto e a) b (goes_on (upto e a) a b (upto_front e a) p) lb (upto_epoch e a))
agrees_at e a b la lb (Is_begun p) ta tb = inr (in_upto e (upto e b) a (goes_on (upto e b) b a (upto_front e b) p) la (upto_epoch e b))
agrees_at e a b la lb (Parts front x y xs ys ia ib apart) ta tb = go (has_epoch e (x ∷ xs)) refl (has_epoch e (y ∷ ys)) refl
  where
    go : (p : Bool) → has_epoch e (x ∷ xs) ≡ p → (q : Bool) → has_epoch e (y ∷ ys) ≡ q → GoesOn (upto e a) (upto e b) ⊎ GoesOn (upto e b) (upto e a)
    go true p true q = absurd (apart e p q)
    go false p other q = inl (in_upto e (upto e a) b (goes_on (upto e a) front b (before_rest e a front x xs ia ta p) (y ∷ ys, ib)) lb (upto_epoch e a))
    go true p false q = inr (in_upto e (upto e b) a (goes_on (upto e b) front a (before_rest e b front y ys ib tb q) (x ∷ xs, ia)) la (upto_epoch e b))

swapped : {a b : List Chunk} → GoesOn a b ⊎ GoesOn b a → GoesOn b a ⊎ GoesOn a b
swapped (inl p) = inr p
swapped (inr p) = inl p

-- ---- the longest log of each epoch

abbrev pub log_at : List Start → ℕ → List Chunk
log_at starts i = (start_at starts i).log

pub past_log : (starts : List Start) (i : ℕ) → length starts ≤ i → log_at starts i ≡ []
past_log starts i ge = ap (λ (s : Start). s.log) (get_or_past starts i no_start ge)

abbrev pub AllAgree : List Start → Type 0
AllAgree starts = (i j e : ℕ) → AgreeAt e (log_at starts i) (log_at starts j)

abbrev pub best : ℕ → List Start → List Chunk
best e [] = []
best e (s ∷ ss) = if (last_epoch (upto e s.log) == e) && nat_lt (length (best e ss)) (length (upto e s.log)) then upto e s.log else best e ss

-- it is empty, or that of a member
pub best_is : (e : ℕ) (ss : List Start) → (best e ss ≡ []) ⊎ ((i : ℕ) × (best e ss ≡ upto e (log_at ss i)) × (last_epoch (upto e (log_at ss i)) ≡ e))
best_is e [] = inl refl
best_is e (s ∷ ss) = go (last_epoch (upto e s.log) == e) refl (nat_lt (length (best e ss)) (length (upto e s.log))) (best_is e ss)
  where
    Is : List Chunk → List Start → Type 0
    Is b ss = (b ≡ []) ⊎ ((i : ℕ) × (b ≡ upto e (log_at ss i)) × (last_epoch (upto e (log_at ss i)) ≡ e))

    later : Is (best e ss) ss → Is (best e ss) (s ∷ ss)
    later (inl x) = inl x
    later (inr x) = inr (suc x.0, x.1, x.2)

    go : (a : Bool) → (last_epoch (upto e s.log) == e) ≡ a → (b : Bool) → Is (best e ss) ss → Is (cond (a && b) (upto e s.log) (best e ss)) (s ∷ ss)
    go true p true ih = inr (0, refl, eq_is (last_epoch (upto e s.log)) e p)
    go true p false ih = later ih
    go false p b ih = later ih

lt_is : (a b : ℕ) → nat_lt a b ≡ true → a < b
lt_is a b h = grind arith

ge_is : (a b : ℕ) → nat_lt a b ≡ false → b ≤ a
ge_is a b h = grind arith

best_longest : (e : ℕ) (ss : List Start) (i : ℕ) → last_epoch (upto e (log_at ss i)) ≡ e → length (upto e (log_at ss i)) ≤ length (best e ss)
best_longest e [] i h = omega arith
best_longest e (s ∷ ss) zero h = go (last_epoch (upto e s.log) == e) (eq_made (last_epoch (upto e s.log)) e h) (nat_lt (length (best e ss)) (length (upto e s.log))) refl
  where
    go : (a : Bool) → a ≡ true → (b : Bool) → nat_lt (length (best e ss)) (length (upto e s.log)) ≡ b → length (upto e s.log) ≤ length (cond (a && b) (upto e s.log) (best e ss))
    go true p true q = omega arith
    go true p false q = ge_is (length (best e ss)) (length (upto e s.log)) q
    go false p b q = absurd cc
best_longest e (s ∷ ss) (suc i) h = go (last_epoch (upto e s.log) == e) (nat_lt (length (best e ss)) (length (upto e s.log))) refl (best_longest e ss i h)
  where
    n : ℕ
    n = length (upto e (log_at ss i))

    go : (a b : Bool) → nat_lt (length (best e ss)) (length (upto e s.log)) ≡ b → n ≤ length (best e ss) → n ≤ length (cond (a && b) (upto e s.log) (best e ss))
    go true true q le = (let z = lt_is (length (best e ss)) (length (upto e s.log)) q in omega (arith, z, le))
    go true false q le = le
    go false b q le = le

shorter_is : (a b : List Chunk) → GoesOn a b → length b ≤ length a → GoesOn b a
shorter_is a b p le = go p.0 p.1
  where
    go : (more : List Chunk) → b ≡ a ++ more → GoesOn b a
    go [] e = same_begins b a (e ∙ append-nil a)
    go (c ∷ cs) e = (let z = ap length e in let n = length-append a (c ∷ cs) in absurd (omega (arith, z, n, le)))

pub in_best : (e : ℕ) (ss : List Start) (i : ℕ) → AllAgree ss → last_epoch (upto e (log_at ss i)) ≡ e → GoesOn (upto e (log_at ss i)) (best e ss)
in_best e ss i agree h =
    let log = upto e (log_at ss i) in
    let long = best_longest e ss i h in
    elim (best_is e ss) [
      | inl nil ↦ shorter_is (best e ss) log (goes_empty (best e ss) log nil) long
      | inr x ↦ elim (agree i x.0 e h x.2) [
        | inl p ↦ begins_as log (upto e (log_at ss x.0)) (best e ss) (sym x.1) p
        | inr p ↦ shorter_is (best e ss) log (subst (λ (l : List Chunk). GoesOn l log) (sym x.1) p) long
      ]
    ]

-- a beginning of a member's log is rooted
pub start_rooted : (ss : List Start) (i : ℕ) (xs : List Chunk) → AllAgree ss → IsLog (log_at ss i) → GoesOn xs (log_at ss i) → IsRooted (λ e. best e ss) xs
start_rooted ss i xs agree l p =
    let log = log_at ss i in
    let e = last_epoch xs in
    let q : GoesOn xs (upto e log) = in_upto e xs log p l (omega arith) in
    let ul : IsLog (upto e log) = log_front (upto e log) log (upto_front e log) l in
    let a = front_epoch xs (upto e log) q ul in
    let b = upto_epoch e log in
    goes_on xs (upto e log) (best e ss) q (in_best e ss i agree (omega (arith, a, b)))

-- ---- the members of the first state

start_seat : (n first i : ℕ) (ss : List Start) → i < length ss → slice_index_or (start_seats n first ss) i nobody ≡ is_up (restarted n (first + i) (start_at ss i).promise (log_at ss i))
start_seat n first i [] lt = absurd (omega (arith, lt))
start_seat n first zero (s ∷ ss) lt = ap (λ (k : ℕ). is_up (restarted n k s.promise s.log)) (omega arith)
start_seat n first (suc i) (s ∷ ss) lt = start_seat n (first + 1) i ss (omega (arith, lt)) ∙ ap (λ (k : ℕ). is_up (restarted n k (start_at ss i).promise (log_at ss i))) (omega arith)

pub start_count : (n first : ℕ) (ss : List Start) → length (start_seats n first ss) ≡ length ss
start_count n first [] = refl
start_count n first (s ∷ ss) = ap suc (start_count n (first + 1) ss)

pub start_there : (epoch : ℕ) (ss : List Start) (i : ℕ) → i < length ss → seat (opened_cluster epoch ss) (suc i) ≡ is_up (restarted (length ss) (1 + i) (start_at ss i).promise (log_at ss i))
start_there epoch ss i lt = start_seat (length ss) 1 i ss lt

-- a number is that of a member, or of nobody
pub data SeatOf (epoch : ℕ) (ss : List Start) (k : ℕ) : Type 0 where
  Of_start : (i : ℕ) → k ≡ suc i → i < length ss → seat (opened_cluster epoch ss) k ≡ is_up (restarted (length ss) k (start_at ss i).promise (log_at ss i)) → SeatOf epoch ss k
  Of_nobody : seat (opened_cluster epoch ss) k ≡ nobody → SeatOf epoch ss k

pub seat_of : (epoch : ℕ) (ss : List Start) (k : ℕ) → SeatOf epoch ss k
seat_of epoch ss zero = Of_nobody refl
seat_of epoch ss (suc i) = elim (cases_lt i (length ss)) [
  | inl lt ↦ Of_start i refl lt (start_seat (length ss) 1 i ss lt ∙ ap (λ (k : ℕ). is_up (restarted (length ss) k (start_at ss i).promise (log_at ss i))) (omega arith))
  | inr ge ↦ Of_nobody (get_or_past (start_seats (length ss) 1 ss) i nobody (let c = start_count (length ss) 1 ss in omega (arith, c, ge)))
]

all_votes : (n : ℕ) → votes (replicate n true) ≡ n
all_votes zero = refl
all_votes (suc n) = let h = all_votes n in omega (arith, h)

-- the longest logs of the first state
abbrev pub start_tree : List Start → Tree
start_tree ss = record { canon = λ x. best x ss; base = λ x. [] }

pub start_holds : (ss : List Start) (epoch : ℕ) → 0 < length ss → epoch ≤ last_number → ((i : ℕ) → i < length ss → IsWhole epoch (start_at ss i)) → AllAgree ss → Sound (start_tree ss) epoch (opened_cluster epoch ss)
start_holds ss epoch some fits whole agree =
    let g : Tree = start_tree ss in
    let w = opened_cluster epoch ss in
    let count : length w.seats ≡ length ss = start_count (length ss) 1 ss in
    let logs : (i : ℕ) → IsLog (log_at ss i) = λ i. elim (cases_lt i (length ss)) [
      | inl lt ↦ (whole i lt).is_log
      | inr ge ↦ subst IsLog (sym (past_log ss i ge)) tt
    ] in
    let low : (i : ℕ) → last_epoch (log_at ss i) ≤ epoch = λ i. elim (cases_lt i (length ss)) [
      | inl lt ↦ omega (arith, (whole i lt).below, (whole i lt).not_ahead)
      | inr ge ↦ subst (λ (l : List Chunk). last_epoch l ≤ epoch) (sym (past_log ss i ge)) (omega arith)
    ] in
    let never : (x : ℕ) → HasReign w x → ⊥ = λ x h. (let q : None ≡ Some h.0 = h.1 in cc) in
    let canon_log : (x : ℕ) → IsLog (g.canon x) = λ x. elim (best_is x ss) [
      | inl nil ↦ rw nil tt
      | inr y ↦ rw y.1 (log_front (upto x (log_at ss y.0)) (log_at ss y.0) (upto_front x (log_at ss y.0)) (logs y.0))
    ] in
    record {
      tree = record {
        logs = canon_log;
        rooted = λ x xs p. elim (best_is x ss) [
          | inl nil ↦ (let z : xs ≡ [] = none_begins xs (begins_as xs (best x ss) [] nil p) in goes_empty xs (best (last_epoch xs) ss) z)
          | inr y ↦ start_rooted ss y.0 xs agree (logs y.0) (goes_on xs (upto x (log_at ss y.0)) (log_at ss y.0) (begins_as xs (best x ss) (upto x (log_at ss y.0)) y.1 p) (upto_front x (log_at ss y.0)))
        ];
        ends = λ x. elim (best_is x ss) [ inl nil ↦ inl nil | inr y ↦ inr (ap last_epoch y.1 ∙ y.2) ];
        known = λ x. elim (best_is x ss) [
          | inl nil ↦ inl nil
          | inr y ↦ inr (inl (let z = low y.0 in let u = front_epoch (upto x (log_at ss y.0)) (log_at ss y.0) (upto_front x (log_at ss y.0)) (logs y.0) in omega (arith, y.2, z, u)))
        ];
        reigns_later = λ x h. absurd (never x h);
        not_ahead = omega arith;
      };
      each_member = λ k. holds g w k agree logs never (seat_of epoch ss k);
      named = λ k is. named k is (seat_of epoch ss k);
      each_reign = λ x r h. absurd (never x (r, h));
      each_letter = tt;
      coordinator = record {
        count = sym count;
        places = untold_count (length ss) ∙ sym count;
        fits = fits;
        next = λ e is. let z : None ≡ Some e = is in absurd cc;
        phase = tt;
      };
      committed = record {
        voters = replicate (length ss) true;
        most = record { each = length-replicate (length ss) true ∙ sym count; most = (let v = all_votes (length ss) in omega (arith, v, count, some)) };
        held = λ k v h x. goes_none h;
        later = λ k h x lt. goes_none h;
        reigns = λ x r h lt. inl refl;
      };
    }
  where
    named : (k : ℕ) → IsMember (opened_cluster epoch ss) k → SeatOf epoch ss k → ((member (opened_cluster epoch ss) k).number ≡ k) × ((member (opened_cluster epoch ss) k).members ≡ length (opened_cluster epoch ss).seats)
    named k is (Of_start i e lt at) = (ap (λ (s : Seat). s.state.number) at, ap (λ (s : Seat). s.state.members) at ∙ sym (start_count (length ss) 1 ss))
    named zero is (Of_nobody at) = absurd (omega (arith, is.0))
    named (suc i) is (Of_nobody at) =
        absurd (let c = start_count (length ss) 1 ss in let lt : i < length ss = omega (arith, is.1, c) in
        let z : true ≡ false = ap (λ (s : Seat). s.up) (sym (start_seat (length ss) 1 i ss lt) ∙ at) in cc)

    holds : (g : Tree) (w : ClusterState) (k : ℕ) → AllAgree ss → ((i : ℕ) → IsLog (log_at ss i)) → ((x : ℕ) → HasReign (opened_cluster epoch ss) x → ⊥) → SeatOf epoch ss k
        → MemberHolds (start_tree ss) (opened_cluster epoch ss) k (seat (opened_cluster epoch ss) k)
    holds g w k agree logs never (Of_nobody at) = subst (MemberHolds (start_tree ss) (opened_cluster epoch ss) k) (sym at) (record {
      is_log = tt;
      below = omega arith;
      not_ahead = omega arith;
      rooted = goes_none (best 0 ss);
      job = tt;
      role = tt;
      leads = λ l. absurd (never 0 (l.0, l.1));
      line = λ z. absurd cc;
    })
    holds g w k agree logs never (Of_start i e lt at) = subst (MemberHolds (start_tree ss) (opened_cluster epoch ss) k) (sym at) (record {
      is_log = logs i;
      below = (whole i lt).below;
      not_ahead = (whole i lt).not_ahead;
      rooted = start_rooted ss i (log_at ss i) agree (logs i) (goes_same (log_at ss i));
      job = tt;
      role = tt;
      leads = λ l. absurd (never (start_at ss i).promise (l.0, l.1));
      line = λ z. tt;
    })

nothing_due : (ss : List Start) (epoch : ℕ) → IsCommitted (opened_cluster epoch ss)
nothing_due ss epoch k is up = go (seat_of epoch ss k)
  where
    go : SeatOf epoch ss k → commit_end (member (opened_cluster epoch ss) k) ≤ 0
    go (Of_start i e lt at) = (let z : commit_end (member (opened_cluster epoch ss) k) ≡ 0 = ap (λ (s : Seat). commit_end s.state) at in omega (arith, z))
    go (Of_nobody at) = (let z : commit_end (member (opened_cluster epoch ss) k) ≡ 0 = ap (λ (s : Seat). commit_end s.state) at in omega (arith, z))

-- logs that pass the tests agree
pub can_agree : (epoch : ℕ) (ss : List Start) → CanStart epoch ss → AllAgree ss
can_agree epoch ss c i j e ti tj = elim (cases_lt i (length ss)) [
  | inr ge ↦ inl (subst (λ (l : List Chunk). GoesOn (upto e l) (upto e (log_at ss j))) (sym (past_log ss i ge)) (goes_none (upto e (log_at ss j))))
  | inl li ↦ elim (cases_lt j (length ss)) [
    | inr ge ↦ inr (subst (λ (l : List Chunk). GoesOn (upto e l) (upto e (log_at ss i))) (sym (past_log ss j ge)) (goes_none (upto e (log_at ss i))))
    | inl lj ↦
        let la = (c.whole i li).is_log in
        let lb = (c.whole j lj).is_log in
        elim (cases_lt i j) [
          | inl lt ↦ agrees_at e (log_at ss i) (log_at ss j) la lb (c.agree i j lt lj) ti tj
          | inr ge ↦ elim (cases_eq i j) [
            | inl eq ↦ inl (subst (λ (x : ℕ). GoesOn (upto e (log_at ss i)) (upto e (log_at ss x))) eq (goes_same (upto e (log_at ss i))))
            | inr ne ↦ swapped (agrees_at e (log_at ss j) (log_at ss i) lb la (c.agree j i (omega (arith, ge, ne)) li) tj ti)
          ]
        ]
  ]
]

pub start_sound : (epoch : ℕ) (ss : List Start) → CanStart epoch ss → IsSound epoch (opened_cluster epoch ss)
start_sound epoch ss c = record { tree = start_tree ss; sound = start_holds ss epoch c.some c.fits c.whole (can_agree epoch ss c); reached = nothing_due ss epoch }

-- the first state by what the logs have in common alone
pub start_agreed : (epoch : ℕ) (ss : List Start) → 0 < length ss → epoch ≤ last_number → ((i : ℕ) → i < length ss → IsWhole epoch (start_at ss i)) → AllAgree ss → IsSound epoch (opened_cluster epoch ss)
start_agreed epoch ss some fits whole agree = record { tree = start_tree ss; sound = start_holds ss epoch some fits whole agree; reached = nothing_due ss epoch }

pub start_with : (Q : List Chunk → Type 0) (epoch : ℕ) (ss : List Start) → IsLogProperty Q → 0 < length ss → epoch ≤ last_number → ((i : ℕ) → i < length ss → IsWhole epoch (start_at ss i)) → AllAgree ss
    → ((i : ℕ) → i < length ss → Q (log_at ss i)) → SoundWith Q epoch (opened_cluster epoch ss)
start_with Q epoch ss p some fits whole agree logs =
    let all : (i : ℕ) → Q (log_at ss i) = λ i. elim (cases_lt i (length ss)) [
      | inl lt ↦ logs i lt
      | inr ge ↦ subst Q (sym (past_log ss i ge)) p.none
    ] in
    record {
      tree = start_tree ss;
      sound = start_holds ss epoch some fits whole agree;
      reached = nothing_due ss epoch;
      canon = λ x. elim (best_is x ss) [
        | inl e ↦ rw e p.none
        | inr y ↦ rw y.1 (p.beginnings (upto x (log_at ss y.0)) (log_at ss y.0) (upto_front x (log_at ss y.0)) (all y.0))
      ];
      each = λ k. of_seat all (seat_of epoch ss k);
    }
  where
    of_seat : {k : ℕ} → ((i : ℕ) → Q (log_at ss i)) → SeatOf epoch ss k → Q (sequence_of (member (opened_cluster epoch ss) k))
    of_seat all (Of_start i e lt at) = subst (λ (s : Seat). Q (sequence_of s.state)) (sym at) (subst Q (sym (append-nil (log_at ss i))) (all i))
    of_seat all (Of_nobody at) = subst (λ (s : Seat). Q (sequence_of s.state)) (sym at) p.none

pub start_has : (Q : List Chunk → Type 0) (epoch : ℕ) (ss : List Start) → IsLogProperty Q → CanStart epoch ss → ((i : ℕ) → i < length ss → Q (start_at ss i).log) → SoundWith Q epoch (opened_cluster epoch ss)
start_has Q epoch ss p c logs = start_with Q epoch ss p c.some c.fits c.whole (can_agree epoch ss c) logs
