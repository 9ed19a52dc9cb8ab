-- Beginnings of logs, their tails and their runs.
use Rattle.std.proofs.Common.{◌≡◌, ℕ, ◌≤◌, ◌<◌, ◌⊎◌, List, [], ◌∷◌, ◌++◌, refl, sym, ap, subst, ◌∙◌, inl, inr, arith}
use Rattle.chunk_format.specs.declared.chunk.Chunk.{Chunk}
use Rattle.chunk_format.specs.Chunks.{end_of_chunk}
use Rattle.chunk_format.specs.Logs.{GoesOn, end_of, last_epoch, IsLog, HasRun}
use Rattle.chunk_format.proofs.LinkLaws.{end_push, epoch_push, linked_behind, linked_push, end_grows, epoch_grows, run_left, run_tail, run_reached, run_within}
use Rattle.chunk_format.proofs.BeginLaws.{goes_same, goes_on, goes_either, log_front, same_end, shorter_begins}
use Rattle.epoch_coordinator.specs.declared.tail.Tail.{Tail}
use Rattle.replication_laws.specs.Soundness.{IsRooted, Follows}

-- ---- beginnings

pub goes_none : (b : List Chunk) → GoesOn [] b
goes_none b = (b, refl)

pub goes_behind : (a b : List Chunk) → GoesOn a (a ++ b)
goes_behind a b = (b, refl)

pub goes_one : (a : List Chunk) (c : Chunk) → GoesOn a (a ++ c ∷ [])
goes_one a c = (c ∷ [], refl)

pub goes_empty : (l h : List Chunk) → l ≡ [] → GoesOn l h
goes_empty l h e = subst (λ (x : List Chunk). GoesOn x h) (sym e) (goes_none h)

pub begins_as : (a b c : List Chunk) → b ≡ c → GoesOn a b → GoesOn a c
begins_as a b c e p = subst (GoesOn a) e p

pub same_begins : (a b : List Chunk) → a ≡ b → GoesOn a b
same_begins a b e = subst (GoesOn a) e (goes_same a)

pub none_begins : (xs : List Chunk) → GoesOn xs [] → xs ≡ []
none_begins [] p = refl
none_begins (x ∷ xs) p = let e : [] ≡ x ∷ (xs ++ p.0) = p.1 in absurd cc

-- ---- tails of beginnings

pub front_end : (a b : List Chunk) → GoesOn a b → IsLog b → end_of a ≤ end_of b
front_end a b p l = let g = end_grows a p.0 (subst IsLog p.1 l) in let e = ap end_of p.1 in omega arith

pub front_epoch : (a b : List Chunk) → GoesOn a b → IsLog b → last_epoch a ≤ last_epoch b
front_epoch a b p l = let g = epoch_grows a p.0 (subst IsLog p.1 l) in let e = ap last_epoch p.1 in omega arith

pub front_below : (a b : List Chunk) (n : ℕ) → GoesOn a b → IsLog b → last_epoch b ≤ n → last_epoch a ≤ n
front_below a b n p l le = let g = front_epoch a b p l in omega arith

-- two beginnings of one log that end at one place are the same
pub same_ends : (a b log : List Chunk) → GoesOn a log → GoesOn b log → IsLog log → end_of a ≡ end_of b → a ≡ b
same_ends a b log p q l e = sym (same_end a b (shorter_begins a b log p q l (omega (arith, e))) (log_front b log q l) (omega (arith, e)))

pub same_tail_is : (t u : Tail) → t.epoch ≡ u.epoch → t.end ≡ u.end → t ≡ u
same_tail_is t u p q = ap (λ (e : ℕ). record { epoch = e; end = t.end }) p ∙ ap (λ (n : ℕ). record { epoch = u.epoch; end = n }) q

-- ---- one chunk more

pub log_push : (log : List Chunk) (c : Chunk) → IsLog log → Follows log c → IsLog (log ++ c ∷ [])
log_push log c l f = linked_push 0 0 log c l f.begins f.not_before f.is

pub push_follows : (log : List Chunk) (c : Chunk) → IsLog (log ++ c ∷ []) → Follows log c
push_follows log c l = linked_behind 0 0 log (c ∷ []) l

pub front_follows : (p q log : List Chunk) (c : Chunk) → log ≡ (p ++ c ∷ []) ++ q → IsLog log → Follows p c
front_follows p q log c e l = push_follows p c (log_front (p ++ c ∷ []) log (q, e) l)

-- ---- runs

pub run_front : (a b : List Chunk) (epoch end : ℕ) → GoesOn a b → HasRun a epoch end → HasRun b epoch end
run_front a b epoch end p h = subst (λ (l : List Chunk). HasRun l epoch end) (sym p.1) (run_left a p.0 epoch end h)

-- a list is empty, or has a last chunk
pub data Ending (l : List Chunk) : Type 0 where
  Is_empty : l ≡ [] → Ending l
  Ends_with : (front : List Chunk) (c : Chunk) → l ≡ front ++ c ∷ [] → Ending l

pub ending : (l : List Chunk) → Ending l
ending [] = Is_empty refl
ending (x ∷ xs) = go (ending xs)
  where
    go : Ending xs → Ending (x ∷ xs)
    go (Is_empty e) = Ends_with [] x (ap (λ (l : List Chunk). x ∷ l) e)
    go (Ends_with front c e) = Ends_with (x ∷ front) c (ap (λ (l : List Chunk). x ∷ l) e)

-- a log that isn't empty reaches its tail
pub nil_or : (l : List Chunk) → (l ≡ []) ⊎ HasRun l (last_epoch l) (end_of l)
nil_or l = go (ending l)
  where
    go : Ending l → (l ≡ []) ⊎ HasRun l (last_epoch l) (end_of l)
    go (Is_empty e) = inl e
    go (Ends_with front c e) =
        let last : last_epoch l ≡ c.epoch = ap last_epoch e ∙ epoch_push front c in
        let end : end_of l ≡ end_of_chunk c = ap end_of e ∙ end_push front c in
        inr (subst (λ (x : List Chunk). HasRun x (last_epoch l) (end_of l)) (sym e)
        (subst (λ (n : ℕ). HasRun (front ++ c ∷ []) n (end_of l)) (sym last)
        (subst (λ (n : ℕ). HasRun (front ++ c ∷ []) c.epoch n) (sym end) (run_tail front c))))

pub run_epoch : (l : List Chunk) (epoch end : ℕ) → IsLog l → HasRun l epoch end → epoch ≤ last_epoch l
run_epoch l epoch end is h = (run_within l epoch end is h).0

pub run_end : (l : List Chunk) (epoch end : ℕ) → IsLog l → HasRun l epoch end → end ≤ end_of l
run_end l epoch end is h = (run_within l epoch end is h).1

-- ---- a tree of logs

-- each beginning of a longest log is rooted
abbrev pub IsTree : (ℕ → List Chunk) → Type 0
IsTree canon = (e : ℕ) → IsLog (canon e) × ((front : List Chunk) → GoesOn front (canon e) → IsRooted canon front)

pub rooted_front : (canon : ℕ → List Chunk) (a b : List Chunk) → IsTree canon → IsRooted canon b → GoesOn a b → IsRooted canon a
rooted_front canon a b tree r p = (tree (last_epoch b)).1 a (goes_on a b (canon (last_epoch b)) p r)

pub rooted_log : (canon : ℕ → List Chunk) (a : List Chunk) → IsTree canon → IsRooted canon a → IsLog a
rooted_log canon a tree r = log_front a (canon (last_epoch a)) r (tree (last_epoch a)).0

-- of two rooted logs that end in one epoch the shorter one begins the other
pub rooted_order : (canon : ℕ → List Chunk) (a b : List Chunk) → IsTree canon → IsRooted canon a → IsRooted canon b → last_epoch a ≡ last_epoch b → end_of a ≤ end_of b → GoesOn a b
rooted_order canon a b tree p q e le =
    let p' : GoesOn a (canon (last_epoch b)) = subst (λ (n : ℕ). GoesOn a (canon n)) e p in
    shorter_begins a b (canon (last_epoch b)) p' q (tree (last_epoch b)).0 le

-- what has a run up to the tail of a rooted log begins with this log
pub run_gives : (canon : ℕ → List Chunk) (a b : List Chunk) → IsTree canon → IsRooted canon a → IsRooted canon b → HasRun b (last_epoch a) (end_of a) → GoesOn a b
run_gives canon a b tree p q h =
    let r = run_reached b 0 0 (last_epoch a) (end_of a) h in
    let begins : GoesOn r.front b = (r.rest, r.parts) in
    goes_on a r.front b (rooted_order canon a r.front tree p (rooted_front canon r.front b tree q begins) (sym r.epoch_is) r.reached) begins

-- of two beginnings of one log the one that ends in an earlier epoch begins the other
pub earlier_begins : (a b log : List Chunk) → GoesOn a log → GoesOn b log → IsLog a → last_epoch a < last_epoch b → GoesOn a b
earlier_begins a b log p q is lt = elim (goes_either a b log p q) [
  | inl h ↦ h
  | inr h ↦ (let x = front_epoch b a h is in absurd (omega arith))
]
