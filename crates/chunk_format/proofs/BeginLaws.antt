-- Beginnings of lists, of logs, and of bytes that a chunk begins.
use Rattle.std.proofs.Common.{◌≡◌, ℕ, ◌≤◌, ◌⊎◌, List, [], ◌∷◌, ◌++◌, refl, sym, ap, ◌∙◌, subst, arith, append_assoc, length-append, inl, inr}
use Rattle.std.proofs.lemmas.List.{append-nil, take-append-le}
use Rattle.chunk_format.specs.declared.chunk.Chunk.{Chunk}
use Rattle.chunk_format.specs.Chunks.{ChunkSpells}
use Rattle.chunk_format.specs.Faults.{BeginsWith}
use Rattle.chunk_format.specs.Logs.{GoesOn, end_of, last_epoch, IsLog}
use Rattle.chunk_format.proofs.LinkLaws.{end_join, end_beyond, linked_front, linked_behind}

pub goes_same : {A : Type 0} (a : List A) → GoesOn a a
goes_same a = ([], sym (append-nil a))

pub goes_on : {A : Type 0} (a b c : List A) → GoesOn a b → GoesOn b c → GoesOn a c
goes_on {A} a b c p q = (p.0 ++ q.0, q.1 ∙ ap (λ (l : List A). l ++ q.0) p.1 ∙ append_assoc a p.0 q.0)

pub goes_push : {A : Type 0} (a b : List A) (x : A) → GoesOn a b → GoesOn a (b ++ x ∷ [])
goes_push {A} a b x p = goes_on a b (b ++ x ∷ []) p (x ∷ [], refl)

behind_one : {A : Type 0} (x : A) (a b : List A) → GoesOn a b → GoesOn (x ∷ a) (x ∷ b)
behind_one {A} x a b p = (p.0, ap (λ (l : List A). x ∷ l) p.1)

either_by : {A : Type 0} (a b c d : List A) → a ++ c ≡ b ++ d → GoesOn a b ⊎ GoesOn b a
either_by [] b c d e = inl (b, refl)
either_by (x ∷ a) [] c d e = inr (x ∷ a, refl)
either_by {A} (x ∷ a) (y ∷ b) c d e =
    let heads : x ≡ y = cc in
    let tails : a ++ c ≡ b ++ d = cc in
    elim (either_by a b c d tails) [
      | inl p ↦ inl (subst (λ (z : A). GoesOn (x ∷ a) (z ∷ b)) heads (behind_one x a b p))
      | inr p ↦ inr (subst (λ (z : A). GoesOn (y ∷ b) (z ∷ a)) (sym heads) (behind_one y b a p))
    ]

-- of two beginnings of one list, one begins the other
pub goes_either : {A : Type 0} (a b c : List A) → GoesOn a c → GoesOn b c → GoesOn a b ⊎ GoesOn b a
goes_either a b c p q = either_by a b p.0 q.0 (sym p.1 ∙ q.1)

-- ---- beginnings of a log

pub log_front : (a b : List Chunk) → GoesOn a b → IsLog b → IsLog a
log_front a b p l = linked_front 0 0 a p.0 (subst IsLog p.1 l)

-- a beginning that ends where the log ends is the log
same_by : (a more : List Chunk) → IsLog (a ++ more) → end_of (a ++ more) ≤ end_of a → a ++ more ≡ a
same_by a [] l le = append-nil a
same_by a (c ∷ cs) l le =
    let past = end_beyond (end_of a) (last_epoch a) c cs (linked_behind 0 0 a (c ∷ cs) l) in
    let join = end_join 0 a (c ∷ cs) in
    absurd (omega arith)

pub same_end : (a b : List Chunk) → GoesOn a b → IsLog b → end_of b ≤ end_of a → b ≡ a
same_end a b p l le = p.1 ∙ same_by a p.0 (subst IsLog p.1 l) (let same = ap end_of p.1 in omega arith)

-- the beginning that ends first begins the other
pub shorter_begins : (a b c : List Chunk) → GoesOn a c → GoesOn b c → IsLog c → end_of a ≤ end_of b → GoesOn a b
shorter_begins a b c p q l le =
    elim (goes_either a b c p q) [
      | inl h ↦ h
      | inr h ↦ subst (GoesOn a) (same_end b a h (log_front a c p l) le) (goes_same a)
    ]

-- what is a beginning of one chunk more is that, or a beginning without it
push_by : (a b : List Chunk) (c : Chunk) (more : List Chunk) → b ++ c ∷ [] ≡ a ++ more → GoesOn a b ⊎ (a ≡ b ++ c ∷ [])
push_by [] b c more e = inl (b, refl)
push_by (x ∷ []) [] c more e = inr (let heads : c ≡ x = cc in ap (λ (d : Chunk). d ∷ []) (sym heads))
push_by (x ∷ y ∷ a) [] c more e = let tails : [] ≡ y ∷ (a ++ more) = cc in absurd cc
push_by (x ∷ a) (y ∷ b) c more e =
    let heads : y ≡ x = cc in
    let tails : b ++ c ∷ [] ≡ a ++ more = cc in
    elim (push_by a b c more tails) [
      | inl p ↦ inl (subst (λ (z : Chunk). GoesOn (x ∷ a) (z ∷ b)) (sym heads) (behind_one x a b p))
      | inr p ↦ inr (ap (λ (z : Chunk). z ∷ a) (sym heads) ∙ ap (λ (l : List Chunk). y ∷ l) p)
    ]

pub goes_push_cases : (a b : List Chunk) (c : Chunk) → GoesOn a (b ++ c ∷ []) → GoesOn a b ⊎ (a ≡ b ++ c ∷ [])
goes_push_cases a b c p = push_by a b c p.0 p.1

-- ---- bytes that a chunk begins

-- more bytes behind change nothing
pub begins_still : (c : Chunk) (used : ℕ) (bytes more : List ℕ) → BeginsWith c used bytes → BeginsWith c used (bytes ++ more)
begins_still c used bytes more begins =
    (let long = begins.0 in omega (arith, long, length-append bytes more), subst (ChunkSpells c) (sym (take-append-le used bytes more begins.0)) begins.1)
