-- Lists that go on from others, and publishes that do.
use Rattle.std.proofs.Common.{◌≡◌, ℕ, zero, suc, ◌+◌, ◌<◌, List, [], ◌∷◌, ◌++◌, length, take, take_all, get_or, le_refl, refl, sym, ap, ◌∙◌, subst, arith}
use Rattle.std.proofs.lemmas.List.{append_assoc, append-nil, take_more}
use Rattle.chunk_format.specs.declared.chunk.Chunk.{Chunk}
use Rattle.chunk_format.specs.Chunks.{ChunkSpells}
use Rattle.chunk_format.specs.Faults.{BeginsWith}
use Rattle.chunk_format.specs.Logs.{GoesOn}
use Rattle.chunk_format.proofs.ReadLaws.{same_begun}
use Rattle.committed_view.specs.Published.{Chunks, Published, newest, Grows, Later, BeginsWithEach}

pub goes_refl : {C : Type 0} (xs : List C) → GoesOn xs xs
goes_refl xs = ([], sym (append-nil xs))

pub goes_trans : {C : Type 0} (xs ys zs : List C) → GoesOn xs ys → GoesOn ys zs → GoesOn xs zs
goes_trans xs ys zs a b = (a.0 ++ b.0, b.1 ∙ (ap (λ ws. ws ++ b.0) a.1 ∙ append_assoc xs a.0 b.0))

pub goes_append : {C : Type 0} (xs ys : List C) → GoesOn xs (xs ++ ys)
goes_append xs ys = (ys, refl)

pub goes_from_nothing : {C : Type 0} (xs : List C) → GoesOn [] xs
goes_from_nothing xs = (xs, refl)

pub later_refl : (published : Published) → Later published published
later_refl published = ([], refl)

-- the newest list goes on from that of each beginning
pub newest_goes : (since old : Published) → Grows (since ++ old) → GoesOn (newest old) (newest (since ++ old))
newest_goes [] old grows = goes_refl (newest old)
newest_goes (list ∷ since) old grows = goes_trans (newest old) (newest (since ++ old)) list (newest_goes since old grows.1) grows.0

pub later_goes : (old new : Published) → Grows new → Later old new → GoesOn (newest old) (newest new)
later_goes old new grows later =
    subst (λ (p : Published). GoesOn (newest old) (newest p)) (sym later.1) (newest_goes later.0 old (subst Grows later.1 grows))

pub later_more : (old new : Published) (list : Chunks) → Later old new → Later old (list ∷ new)
later_more old new list later = (list ∷ later.0, ap (λ p. list ∷ p) later.1)

-- what begins a list that goes on begins that
pub begins_later : (told : List Chunks) (list more : Chunks) → BeginsWithEach told list → GoesOn list more → BeginsWithEach told more
begins_later [] list more each goes = tt
begins_later (t ∷ told) list more each goes = (goes_trans t list more each.0 goes, begins_later told list more each.1 goes)

-- each of some lists, and the last one
pub begins_front : (told : List Chunks) (last list : Chunks) → BeginsWithEach (told ++ last ∷ []) list → BeginsWithEach told list × GoesOn last list
begins_front [] last list each = (tt, each.0)
begins_front (t ∷ told) last list each = let rest = begins_front told last list each.1 in ((each.0, rest.0), rest.1)

pub begins_push : (told : List Chunks) (last list : Chunks) → BeginsWithEach told list → GoesOn last list → BeginsWithEach (told ++ last ∷ []) list
begins_push [] last list each goes = (goes, tt)
begins_push (t ∷ told) last list each goes = (each.0, begins_push told last list each.1 goes)

-- bytes spell one chunk
pub one_spelled : (c other : Chunk) (bytes more : List ℕ) → ChunkSpells c bytes → ChunkSpells other more → bytes ≡ more → c ≡ other
one_spelled c other bytes more spells too same =
    (same_begun c other (length bytes) (length bytes) bytes (whole_begun c bytes spells) (whole_begun other bytes (subst (ChunkSpells other) (sym same) too))).0
  where
    whole_begun : (c : Chunk) (bytes : List ℕ) → ChunkSpells c bytes → BeginsWith c (length bytes) bytes
    whole_begun c bytes spells = (le_refl (length bytes), subst (ChunkSpells c) (sym (take_all (length bytes) bytes (le_refl (length bytes)))) spells)

-- each of some lists begins the list, so that at a place does
pub begins_at : (told : List Chunks) (list : Chunks) (k : ℕ) (t : Chunks) → k < length told → t ≡ get_or told k t → BeginsWithEach told list → GoesOn t list
begins_at [] list k t below is each = absurd (omega arith)
begins_at (u ∷ told) list zero t below is each = subst (λ (l : Chunks). GoesOn l list) (sym is) each.0
begins_at (u ∷ told) list (suc k) t below is each = begins_at told list k t (omega arith) is each.1

-- one more of some lists begins the list
pub begins_next : (told : List Chunks) (list : Chunks) (k : ℕ) (t : Chunks) → k < length told → t ≡ get_or told k t → BeginsWithEach (take k told) list → GoesOn t list
    → BeginsWithEach (take (k + 1) told) list
begins_next told list k t below is each goes =
    subst (λ (l : List Chunks). BeginsWithEach l list) (ap (λ (u : Chunks). take k told ++ u ∷ []) is ∙ sym (take_more told k t below)) (begins_push (take k told) t list each goes)
