-- Snapshots that say what the chunks before them say.
use Rattle.std.proofs.Common.{◌≡◌, ℕ, ◌⊎◌, List, [], ◌∷◌, ◌++◌, refl, sym, ap, subst, ◌∙◌, append_assoc, inl, inr}
use Rattle.std.specs.Prelude.{ℤ}
use Rattle.chunk_format.specs.declared.chunk.ChunkKind.TheVariants.{Snapshot}
use Rattle.chunk_format.specs.declared.chunk.Chunk.{Chunk}
use Rattle.chunk_format.specs.ByName.{snapshot_entry_of}
use Rattle.chunk_format.specs.Logs.{GoesOn, opening_chunk, Truthful}

pub truthful_front : (a b : List Chunk) → Truthful (a ++ b) → Truthful a
truthful_front a b t before c behind parts = t before c (behind ++ b) (ap (λ (l : List Chunk). l ++ b) parts ∙ append_assoc before (c ∷ behind) b)

pub truthful_begins : (a b : List Chunk) → GoesOn a b → Truthful b → Truthful a
truthful_begins a b p t = truthful_front a p.0 (subst Truthful p.1 t)

nothing_there : (before behind : List Chunk) (c : Chunk) → [] ≡ before ++ c ∷ behind → ⊥
nothing_there [] behind c e = cc
nothing_there (d ∷ before) behind c e = cc

pub truthful_none : Truthful []
truthful_none before c behind parts kind = absurd (nothing_there before behind c parts)

-- a chunk of a list with one more is the last, or one of the list
split_last : (chunks before : List Chunk) (c d : Chunk) (behind : List Chunk) → chunks ++ c ∷ [] ≡ before ++ d ∷ behind → ((chunks ≡ before) × (c ≡ d)) ⊎ ((more : List Chunk) × (chunks ≡ before ++ d ∷ more))
split_last [] [] c d behind e = inl (refl, cc)
split_last [] (x ∷ before) c d behind e = absurd (nothing_there before behind d cc)
split_last (y ∷ chunks) [] c d behind e = let heads : y ≡ d = cc in inr (chunks, ap (λ (z : Chunk). z ∷ chunks) heads)
split_last (y ∷ chunks) (x ∷ before) c d behind e =
    let heads : y ≡ x = cc in
    let tails : chunks ++ c ∷ [] ≡ before ++ d ∷ behind = cc in
    elim (split_last chunks before c d behind tails) [
      | inl p ↦ inl (ap (λ (z : Chunk). z ∷ chunks) heads ∙ ap (λ (l : List Chunk). x ∷ l) p.0, p.1)
      | inr p ↦ inr (p.0, ap (λ (z : Chunk). z ∷ chunks) heads ∙ ap (λ (l : List Chunk). x ∷ l) p.1)
    ]

pub truthful_push : (chunks : List Chunk) (c : Chunk) → Truthful chunks → (c.kind ≡ Snapshot → c.entries ≡ snapshot_entry_of chunks ∷ []) → Truthful (chunks ++ c ∷ [])
truthful_push chunks c t last before d behind parts kind =
    elim (split_last chunks before c d behind parts) [
      | inl p ↦ ap (λ (z : Chunk). z.entries) (sym p.1) ∙ last (ap (λ (z : Chunk). z.kind) p.1 ∙ kind) ∙ ap (λ (l : List Chunk). snapshot_entry_of l ∷ []) p.0
      | inr p ↦ t before d p.0 p.1 kind
    ]

-- the last chunk of a truthful list, where it is a snapshot
pub truthful_last : (chunks : List Chunk) (c : Chunk) → Truthful (chunks ++ c ∷ []) → c.kind ≡ Snapshot → c.entries ≡ snapshot_entry_of chunks ∷ []
truthful_last chunks c t kind = t chunks c [] refl kind

pub truthful_opens : (epoch : ℕ) (stamp : ℤ) (chunks : List Chunk) → Truthful chunks → Truthful (chunks ++ opening_chunk epoch stamp chunks ∷ [])
truthful_opens epoch stamp chunks t = truthful_push chunks (opening_chunk epoch stamp chunks) t (λ kind. refl)
